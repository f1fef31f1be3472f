-- What the tests of a wheel tell, and what a place of it is by them: proofs for its laws. It defines nothing.
-- Assumes nothing.
use Rattle.std.specs.Prelude.{◌≡◌, ℕ, zero, suc, ◌+◌, ◌<◌, ◌≤◌, true, false, ◌&&◌, ◌||◌, ◌≢◌, List, [], ◌∷◌, length, nat_le, nat_lt}
use Rattle.std.proofs.Common.{◌∙◌, arith}
use Rattle.std.proofs.Math.Logic.{⊎_elim}
use Rattle.std.proofs.lemmas.Bool.{and_parts, and_from, or_left, or_right, cond-true, cond-false, cases_Bool, both_ways, not-true, not_from_false, ltb-true, leb-true, eqb-true, lt-ltb, le-leb, eq-eqb}
use Rattle.hierarchy.specs.Meaning.{absent, node}
use Rattle.wheel.specs.Meaning.{wheel, size_of, is_level, is_last, is_entry_lem, is_item_lem, is_end_lem, is_box_lem, item_kind, largest, all_sized}

-- ---- sizes

pub largest_small : (sizes : List ℕ) → all_sized sizes ≡ true → largest sizes ≤ 1022
largest_small [] e = omega arith
largest_small (s ∷ rest) e =
    let parts = and_parts (nat_lt 0 s && nat_le s 1022) _ e in
    let small = and_parts (nat_lt 0 s) _ parts.0 in
    omega (arith, leb-true s 1022 small.1, largest_small rest parts.1)

pub size_below_largest : (sizes : List ℕ) (k : ℕ) → size_of sizes k ≤ largest sizes
size_below_largest [] k = omega arith
size_below_largest (s ∷ rest) zero = omega arith
size_below_largest (s ∷ rest) (suc k) = omega (arith, size_below_largest rest k)

pub node_there : node ≢ absent
node_there e = let z : ◌≡◌ {A = ℕ} 0 1 = cc in omega arith

module _ (sizes : List ℕ) (k p : ℕ) where
  -- ---- what the tests tell

  pub entry_is : is_entry_lem sizes k p ≡ true → (k < length sizes) × (p ≡ 0)
  unfolding is_entry_lem
  entry_is e = let h = and_parts (is_level sizes k) _ e in (ltb-true _ _ h.0, eqb-true _ _ h.1)

  pub item_is : is_item_lem sizes k p ≡ true → (k < length sizes) × (0 < p) × (p ≤ size_of sizes k)
  unfolding is_item_lem
  item_is e =
      let h = and_parts (is_level sizes k) _ e in
      let g = and_parts (nat_lt 0 p) _ h.1 in
      (ltb-true _ _ h.0, ltb-true _ _ g.0, leb-true _ _ g.1)

  pub end_is : is_end_lem sizes k p ≡ true → (k < length sizes) × (p ≡ size_of sizes k + 1)
  unfolding is_end_lem
  end_is e = let h = and_parts (is_level sizes k) _ e in (ltb-true _ _ h.0, eqb-true _ _ h.1)

  pub box_is : is_box_lem sizes k p ≡ true → (is_item_lem sizes k p ≡ true) × (is_last sizes k ≡ false)
  unfolding is_box_lem
  box_is e = let h = and_parts (is_item_lem sizes k p) _ e in (h.0, not-true _ h.1)

  pub box_not : is_box_lem sizes k p ≡ false → is_item_lem sizes k p ≡ true → is_last sizes k ≡ true
  unfolding is_box_lem
  box_not e i =
      ⊎_elim (λ l. l)
      (λ l. absurd (both_ways (is_box_lem sizes k p) e (and_from (is_item_lem sizes k p) _ i (not_from_false _ l))))
      (cases_Bool (is_last sizes k))

  pub item_from : k < length sizes → 0 < p → p ≤ size_of sizes k → is_item_lem sizes k p ≡ true
  unfolding is_item_lem
  item_from h l u = and_from (is_level sizes k) _ (lt-ltb _ _ h) (and_from (nat_lt 0 p) _ (lt-ltb _ _ l) (le-leb _ _ u))

  pub end_from : k < length sizes → p ≡ size_of sizes k + 1 → is_end_lem sizes k p ≡ true
  unfolding is_end_lem
  end_from h e = and_from (is_level sizes k) _ (lt-ltb _ _ h) (eq-eqb _ _ e)

  pub entry_from : k < length sizes → p ≡ 0 → is_entry_lem sizes k p ≡ true
  unfolding is_entry_lem
  entry_from h e = and_from (is_level sizes k) _ (lt-ltb _ _ h) (eq-eqb _ _ e)

  -- ---- what a place is

  pub at_item : is_item_lem sizes k p ≡ true → (wheel sizes).place k p ≡ item_kind sizes k
  at_item e = cond-true (is_item_lem sizes k p) _ _ e

  pub at_rim : is_item_lem sizes k p ≡ false → (is_entry_lem sizes k p || is_end_lem sizes k p) ≡ true → (wheel sizes).place k p ≡ node
  at_rim i e = cond-false (is_item_lem sizes k p) _ _ i ∙ cond-true _ node absent e

  pub not_item : (is_item_lem sizes k p ≢ true) → is_item_lem sizes k p ≡ false
  not_item no_item = ⊎_elim (λ e. absurd (no_item e)) (λ e. e) (cases_Bool (is_item_lem sizes k p))

  pub at_entry : is_entry_lem sizes k p ≡ true → (wheel sizes).place k p ≡ node
  at_entry e = at_rim (not_item (λ i. omega (arith, (entry_is e).1, (item_is i).1))) (or_left _ _ e)

  pub at_end : is_end_lem sizes k p ≡ true → (wheel sizes).place k p ≡ node
  at_end e = at_rim (not_item (λ i. omega (arith, (end_is e).1, (item_is i).2))) (or_right (is_entry_lem sizes k p) _ e)
