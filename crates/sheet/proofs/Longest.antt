-- The longest row of a sheet: of a new one, after one row is written, and above every row.
use Rattle.std.proofs.Common.{◌≡◌, ℕ, zero, suc, ◌<◌, ◌≤◌, max, [], ◌∷◌, length, set, replicate, arith}
use Rattle.sheet.specs.Sheet.{Structure, Sheet, at, longest}
use Rattle.sheet.specs.Changes.{fresh}

longest_fresh : (n : ℕ) → longest (replicate n fresh) ≤ 1
longest_fresh zero = omega arith
longest_fresh (suc n) = let h = longest_fresh n in omega arith

pub longest_begun : (n : ℕ) → 0 < n → longest (replicate n fresh) ≡ 1
longest_begun zero h = absurd (omega arith)
longest_begun (suc n) h = let k = longest_fresh n in omega arith

pub longest_set : (s : Sheet) (i : ℕ) (r : Structure) → i < length s → length (at s i).places ≤ length r.places
    → longest (set s i r) ≡ max (longest s) (length r.places)
longest_set [] i r h k = absurd (omega arith)
longest_set (x ∷ s) zero r h k = omega arith
longest_set (x ∷ s) (suc i) r h k = let e = longest_set s i r (omega arith) k in omega arith

pub at_longest : (s : Sheet) (i : ℕ) → length (at s i).places ≤ longest s
at_longest [] i = omega arith
at_longest (x ∷ s) zero = omega arith
at_longest (x ∷ s) (suc i) = let h = at_longest s i in omega arith
