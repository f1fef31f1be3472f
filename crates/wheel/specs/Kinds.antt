-- Which places of a wheel are there, and which boxes: proofs for its laws. It defines nothing.
-- Assumes nothing.
use Rattle.std.specs.Prelude.{◌≡◌, ℕ, ◌+◌, ◌<◌, ◌≤◌, Bool, true, false, cond, ◌||◌, ◌≢◌, List, length, refl}
use Rattle.std.proofs.Common.{sym, ◌∙◌, ⊎_elim, arith}
use Rattle.std.proofs.lemmas.Bool.{or_cases, cond-true, cond-false, cases_lt, cases_eq, eqb-false}
use Rattle.hierarchy.specs.Meaning.{absent, node, box}
use Rattle.wheel.specs.Shapes.{node_there, entry_is, item_is, end_is, item_from, end_from, entry_from, at_item, at_entry, at_end}
use Rattle.wheel.specs.Meaning.{wheel, size_of, is_last, is_entry_lem, is_item_lem, is_end_lem, item_kind}

module _ (sizes : List ℕ) (k p : ℕ) where
  pub last_node : is_last sizes k ≡ true → item_kind sizes k ≡ node
  last_node e = cond-true (is_last sizes k) node (box (k + 1)) e

  pub inner_box : is_last sizes k ≡ false → item_kind sizes k ≡ box (k + 1)
  inner_box e = cond-false (is_last sizes k) node (box (k + 1)) e

  pub item_there : item_kind sizes k ≢ absent
  item_there = by (is_last sizes k) where
    by : (l : Bool) → cond l node (box (k + 1)) ≢ absent
    by true e = node_there e
    by false e = let z : ◌≡◌ {A = ℕ} 0 1 = cc in omega arith

  pub there : k < length sizes → p ≤ size_of sizes k + 1 → (wheel sizes).place k p ≢ absent
  there h u e =
      ⊎_elim
      (λ zero. node_there (sym (at_entry sizes k p (entry_from sizes k p h zero)) ∙ e))
      (λ some. ⊎_elim
      (λ below. item_there (sym (at_item sizes k p (item_from sizes k p h (omega (arith, some)) (omega (arith, below)))) ∙ e))
      (λ above. node_there (sym (at_end sizes k p (end_from sizes k p h (omega (arith, u, above)))) ∙ e))
      (cases_lt p (size_of sizes k + 1)))
      (cases_eq p 0)

  pub place_within : (wheel sizes).place k p ≢ absent → (k < length sizes) × (p ≤ size_of sizes k + 1)
  place_within = by (is_item_lem sizes k p) (is_entry_lem sizes k p || is_end_lem sizes k p) refl refl where
    by : (i r : Bool) → is_item_lem sizes k p ≡ i → (is_entry_lem sizes k p || is_end_lem sizes k p) ≡ r → cond i (item_kind sizes k) (cond r node absent) ≢ absent → (k < length sizes) × (p ≤ size_of sizes k + 1)
    by true r e f ne = ((item_is sizes k p e).0, omega (arith, (item_is sizes k p e).2))
    by false true e f ne =
        ⊎_elim
        (λ g. ((entry_is sizes k p g).0, omega (arith, (entry_is sizes k p g).1)))
        (λ g. ((end_is sizes k p g).0, omega (arith, (end_is sizes k p g).1)))
        (or_cases (is_entry_lem sizes k p) _ f)
    by false false e f ne = absurd (ne refl)

  pub place_inner : (j : ℕ) → (wheel sizes).place k p ≡ box j → (k < j) × (j < length sizes)
  place_inner j = by (is_item_lem sizes k p) (is_entry_lem sizes k p || is_end_lem sizes k p) (is_last sizes k) refl refl where
    by : (i r l : Bool) → is_item_lem sizes k p ≡ i → is_last sizes k ≡ l → cond i (cond l node (box (k + 1))) (cond r node absent) ≡ box j → (k < j) × (j < length sizes)
    by true r true e f g = absurd (let z : ◌≡◌ {A = ℕ} 0 1 = cc in omega arith)
    by true r false e f g =
        let next : k + 1 ≡ j = cc in
        let ne : k + 1 ≡ length sizes → ⊥ = eqb-false (k + 1) (length sizes) f in
        let lt : k < length sizes = (item_is sizes k p e).0 in
        (omega arith, omega arith)
    by false true l e f g = absurd (let z : ◌≡◌ {A = ℕ} 0 1 = cc in omega arith)
    by false false l e f g = absurd (let z : ◌≡◌ {A = ℕ} 0 1 = cc in omega arith)
