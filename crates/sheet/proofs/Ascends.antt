-- The first refusal of an ascending list has the least number, and every edit's list of refusals ascends.
use Rattle.std.proofs.Common.{◌≡◌, ℕ, ◌<◌, Bool, true, false, cond, ◌⊎◌, [], ◌∷◌, Some, Option, sym, refl, ap, ◌∙◌, subst, inl, inr, ⊎_elim, arith, lit<}
use Rattle.std.proofs.lemmas.Bool.{true≢false}
use Rattle.hierarchy.specs.declared.refusal.Refusal.{Refusal}
use Rattle.hierarchy.specs.Refusals.{refusal_number, Refusals, first}
use Rattle.sheet.specs.Edits.{already, begin_refusals, node_refusals, box_refusals, exit_refusals, look_refusals, edge_refusals, leave_refusals}
use Rattle.sheet.specs.Least.{Holds, GivesLeast, LeastRefusalFirst}

-- each number is above n, and above the one before
abbrev Above : ℕ → Refusals → Type 0
Above n [] = Unit {0}
Above n (x ∷ xs) = (n < refusal_number x.1) × Above (refusal_number x.1) xs

holds_above : (n : ℕ) (xs : Refusals) (r : Refusal) → Above n xs → Holds r xs → n < refusal_number r
holds_above n [] r a h = absurd h
holds_above n (x ∷ xs) r a (inl h) = subst (λ (q : Refusal). n < refusal_number q) h.1 a.0
holds_above n (x ∷ xs) r a (inr h) = let l = holds_above (refusal_number x.1) xs r a.1 h in omega (arith, a.0)

given_by : (b : Bool) (x given : Refusal) (rest : Option Refusal) → cond b (Some x) rest ≡ Some given → ((b ≡ true) × (x ≡ given)) ⊎ ((b ≡ false) × (rest ≡ Some given))
given_by true x given rest h = inl (refl, cc)
given_by false x given rest h = inr (refl, h)

ascending_gives_least : (n : ℕ) (xs : Refusals) → Above n xs → GivesLeast xs
ascending_gives_least n [] a given other e h = absurd h
ascending_gives_least n (x ∷ xs) a given other e (inl h) = ⊎_elim
    (λ g. let s : refusal_number given ≡ refusal_number other = ap refusal_number (sym g.1 ∙ h.1) in omega arith)
    (λ g. absurd (true≢false (sym h.0 ∙ g.0)))
    (given_by x.0 x.1 given (first xs) e)
ascending_gives_least n (x ∷ xs) a given other e (inr h) = ⊎_elim
    (λ g.
    let l = holds_above (refusal_number x.1) xs other a.1 h in
    let s : refusal_number x.1 ≡ refusal_number given = ap refusal_number g.1 in
    omega arith)
    (λ g. ascending_gives_least (refusal_number x.1) xs a.1 given other g.1 h)
    (given_by x.0 x.1 given (first xs) e)

already_above : (n : ℕ) → n < 26 → (v there : Bool) → (n < refusal_number (already v there).1) × Unit {0}
already_above n h true there = (h, tt)
already_above n h false there = (omega arith, tt)

pub least_refusal_first_lem : LeastRefusalFirst
least_refusal_first_lem = record {
  begin = λ n. ascending_gives_least 0 (begin_refusals n) (lit< tt, tt);
  node = λ s i l. ascending_gives_least 0 (node_refusals s i l) (lit< tt, (lit< tt, (lit< tt, tt)));
  box = λ s i j. ascending_gives_least 0 (box_refusals s i j) (lit< tt, (lit< tt, (lit< tt, tt)));
  exit = λ s i p. ascending_gives_least 0 (exit_refusals s i p) (lit< tt, (lit< tt, (lit< tt, (lit< tt, tt))));
  look = λ s i p l. ascending_gives_least 0 (look_refusals s i p l) (lit< tt, (lit< tt, (lit< tt, (lit< tt, tt))));
  edge = λ s i p w v. ascending_gives_least 0 (edge_refusals s i p w v) (lit< tt, (lit< tt, (lit< tt, already_above 22 (lit< tt) v _)));
  leave = λ s i b e w v. ascending_gives_least 0 (leave_refusals s i b e w v) (lit< tt, (lit< tt, (lit< tt, (lit< tt, already_above 24 (lit< tt) v _))));
}
