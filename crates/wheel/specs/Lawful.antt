-- That a wheel of right sizes is lawful: the proof that the interface asks for. It defines nothing.
-- Assumes nothing.
use Rattle.std.specs.Prelude.{◌≡◌, ℕ, ◌+◌, ◌<◌, ◌≤◌, Bool, true, false, cond, not, ◌&&◌, ◌||◌, ◌≢◌, ◌⊎◌, List, length, ◌==◌, nat_le, nat_lt}
use Rattle.std.proofs.Math.Path.{refl}
use Rattle.std.proofs.Common.{◌∙◌}
use Rattle.std.proofs.Math.Logic.{inl, inr, ⊎_elim}
use native.Mathlib.Omega.{arith}
use Rattle.std.proofs.lemmas.Bool.{and_parts, or_cases, both_ways, not-true, ltb-true, leb-true, eqb-true}
use Rattle.hierarchy.specs.Meaning.{Lawful, node}
use Rattle.wheel.specs.Shapes.{largest_small, size_below_largest, entry_is, item_is, end_is, box_is, box_not, entry_from, at_item, at_entry, at_end}
use Rattle.wheel.specs.Meaning.{wheel, size_of, is_last, is_entry_lem, is_item_lem, is_end_lem, is_box_lem, leads, letter_of, sizes_right}
use Rattle.wheel.specs.Kinds.{last_node, inner_box, there, place_within, place_inner}

module _ (sizes : List ℕ) (k p : ℕ) where
  letter_below : letter_of sizes k p < 16
  unfolding letter_of
  letter_below = by (k == 0 && is_end_lem sizes k p) (is_item_lem sizes k p && is_last sizes k) where
    by : (x y : Bool) → cond x 1 (cond y 2 0) < 16
    by true y = omega arith
    by false true = omega arith
    by false false = omega arith

  letter_off : (wheel sizes).place k p ≢ node → letter_of sizes k p ≡ 0
  unfolding letter_of
  letter_off ne = by (k == 0 && is_end_lem sizes k p) (is_item_lem sizes k p && is_last sizes k) refl refl where
    by : (x y : Bool) → (k == 0 && is_end_lem sizes k p) ≡ x → (is_item_lem sizes k p && is_last sizes k) ≡ y → ◌≡◌ {A = ℕ} (cond x 1 (cond y 2 0)) 0
    by true y e f = absurd (ne (at_end sizes k p (and_parts (k == 0) _ e).1))
    by false true e f =
        let h = and_parts (is_item_lem sizes k p) _ f in
        absurd (ne (at_item sizes k p h.0 ∙ last_node sizes k p h.1))
    by false false e f = refl

  -- a place that leads on is an entry, an item or an end
  leads_from : (w : ℕ) → leads sizes k p w ≡ true → (is_item_lem sizes k p ≡ true) ⊎ ((wheel sizes).place k p ≡ node)
  unfolding leads
  leads_from w e =
      ⊎_elim
      (λ f. ⊎_elim (λ g. inr (at_entry sizes k p g)) (λ g. inl g) (or_cases (is_entry_lem sizes k p) _ (and_parts (is_entry_lem sizes k p || is_item_lem sizes k p) _ f).0))
      (λ f. inr (at_end sizes k p (and_parts (is_end_lem sizes k p) _ (and_parts (k == 0) _ f).1).0))
      (or_cases ((is_entry_lem sizes k p || is_item_lem sizes k p) && w == p + 1) _ e)

  leads_to : (w : ℕ) → leads sizes k p w ≡ true → (k < length sizes) × (w ≤ size_of sizes k + 1)
  unfolding leads
  leads_to w e =
      ⊎_elim
      (λ f.
      let h = and_parts (is_entry_lem sizes k p || is_item_lem sizes k p) _ f in
      let next : w ≡ p + 1 = eqb-true w (p + 1) h.1 in
      ⊎_elim
      (λ g. ((entry_is sizes k p g).0, omega (arith, next, (entry_is sizes k p g).1)))
      (λ g. ((item_is sizes k p g).0, omega (arith, next, (item_is sizes k p g).2)))
      (or_cases (is_entry_lem sizes k p) _ h.0))
      (λ f.
      let h = and_parts (is_end_lem sizes k p) _ (and_parts (k == 0) _ f).1 in
      ((end_is sizes k p h.0).0, omega (arith, eqb-true w 0 h.1)))
      (or_cases ((is_entry_lem sizes k p || is_item_lem sizes k p) && w == p + 1) _ e)

  edge_node : (w : ℕ) → (not (is_box_lem sizes k p) && leads sizes k p w) ≡ true → (wheel sizes).place k p ≡ node
  edge_node w e =
      let h = and_parts (not (is_box_lem sizes k p)) _ e in
      ⊎_elim (λ i. at_item sizes k p i ∙ last_node sizes k p (box_not sizes k p (not-true _ h.0) i)) (λ n. n) (leads_from w h.1)

pub wheel_lawful : (sizes : List ℕ) → sizes_right sizes ≡ true → Lawful (wheel sizes)
wheel_lawful sizes right =
    let parts = and_parts (nat_lt 0 (length sizes) && nat_le (length sizes) 16) _ right in
    let count = and_parts (nat_lt 0 (length sizes)) _ parts.0 in
    let some : 0 < length sizes = ltb-true 0 (length sizes) count.0 in
    let few : length sizes ≤ 16 = leb-true (length sizes) 16 count.1 in
    let small = largest_small sizes parts.1 in
    record {
      empty = λ e. absurd (both_ways false refl e);
      sized = λ _. (omega arith, omega arith, omega arith, omega (arith, small));
      within = λ k p ne. let h = place_within sizes k p ne in (h.0, omega (arith, h.1, size_below_largest sizes k));
      inner = λ k p j e. place_inner sizes k p j e;
      entered = λ k h. at_entry sizes k 0 (entry_from sizes k 0 h refl);
      no_entry = λ k h. refl;
      exit_node = λ k p e. at_end sizes k p e;
      letter_small = λ k p. letter_below sizes k p;
      letter_node = λ k p ne. letter_off sizes k p ne;
      mark_node = λ k p e. at_end sizes k p (and_parts (k == 0) _ e).1;
      edge_from = λ k p w e. edge_node sizes k p w e;
      edge_to = λ k p w e.
          let h = leads_to sizes k p w (and_parts (not (is_box_lem sizes k p)) _ e).1 in
          there sizes k w h.0 h.1;
      leave_from = λ k b e w t.
          let h = and_parts (is_box_lem sizes k b) _ t in
          let i = box_is sizes k b h.0 in
          (k + 1, at_item sizes k b i.0 ∙ inner_box sizes k b i.1, (and_parts (is_end_lem sizes (k + 1) e) _ h.1).0);
      leave_to = λ k b e w t.
          let h = leads_to sizes k b w (and_parts (is_end_lem sizes (k + 1) e) _ (and_parts (is_box_lem sizes k b) _ t).1).1 in
          there sizes k w h.0 h.1;
    }
