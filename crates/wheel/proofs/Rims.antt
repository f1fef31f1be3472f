-- Where a place of a wheel leads, and its letter, by the tests that the code makes.
-- Assumes nothing.
use Rattle.std.proofs.Common.{◌≡◌, ℕ, ◌+◌, ◌≤◌, true, false, ◌&&◌, ◌||◌, eqb, List, sym, ap, ◌∙◌, ⊎_elim, arith}
use Rattle.std.proofs.Math.Bool.{and_assoc, or-false}
use Rattle.std.proofs.lemmas.Bool.{cases_Bool, or_cases, and_right, cond-true, cond-false}
use Rattle.wheel.specs.Meaning.{is_entry_lem, is_item_lem, is_end_lem, is_last, leads, letter_of, size_of}
use Rattle.wheel.specs.Shapes.{entry_is, item_is, end_is}

module _ (sizes : List ℕ) (k p : ℕ) where
  below_end : (is_entry_lem sizes k p || is_item_lem sizes k p) ≡ true → p ≤ size_of sizes k
  below_end e =
      ⊎_elim (λ f. omega (arith, (entry_is sizes k p f).1)) (λ f. (item_is sizes k p f).2) (or_cases (is_entry_lem sizes k p) _ e)

  not_end : (is_entry_lem sizes k p || is_item_lem sizes k p) ≡ true → is_end_lem sizes k p ≡ false
  not_end e =
      ⊎_elim (λ f. absurd (omega (arith, below_end e, (end_is sizes k p f).1))) (λ f. f) (cases_Bool (is_end_lem sizes k p))

  pub leads_next : (w : ℕ) → (is_entry_lem sizes k p || is_item_lem sizes k p) ≡ true → eqb w (p + 1) ≡ leads sizes k p w
  unfolding leads
  leads_next w e =
      let back : (eqb k 0 && (is_end_lem sizes k p && eqb w 0)) ≡ false = and_right (eqb k 0) _ (ap (λ t. t && eqb w 0) (not_end e)) in
      sym (ap (λ t. (t && eqb w (p + 1)) || (eqb k 0 && (is_end_lem sizes k p && eqb w 0))) e ∙ ap (λ t. eqb w (p + 1) || t) back ∙ or-false (eqb w (p + 1)))

  pub leads_back : (w : ℕ) → (is_entry_lem sizes k p || is_item_lem sizes k p) ≡ false → ((eqb k 0 && is_end_lem sizes k p) && eqb w 0) ≡ leads sizes k p w
  unfolding leads
  leads_back w e =
      and_assoc (eqb k 0) (is_end_lem sizes k p) (eqb w 0)
      ∙ sym (ap (λ t. (t && eqb w (p + 1)) || (eqb k 0 && (is_end_lem sizes k p && eqb w 0))) e)

  pub letter_marked : (eqb k 0 && is_end_lem sizes k p) ≡ true → letter_of sizes k p ≡ 1
  unfolding letter_of
  letter_marked e = cond-true (eqb k 0 && is_end_lem sizes k p) _ _ e

  pub letter_item : (eqb k 0 && is_end_lem sizes k p) ≡ false → (is_item_lem sizes k p && is_last sizes k) ≡ true → letter_of sizes k p ≡ 2
  unfolding letter_of
  letter_item e f = cond-false (eqb k 0 && is_end_lem sizes k p) _ _ e ∙ cond-true (is_item_lem sizes k p && is_last sizes k) _ _ f

  pub letter_other : (eqb k 0 && is_end_lem sizes k p) ≡ false → (is_item_lem sizes k p && is_last sizes k) ≡ false → letter_of sizes k p ≡ 0
  unfolding letter_of
  letter_other e f = cond-false (eqb k 0 && is_end_lem sizes k p) _ _ e ∙ cond-false (is_item_lem sizes k p && is_last sizes k) _ _ f
