-- A text in two parts: room for the first, for the second behind it, and both as one.
-- Assumes nothing.
use Rattle.std.proofs.Common.{◌≡◌, ℕ, List, ◌++◌, length, ap, ◌∙◌, arith}
use Rattle.std.proofs.lemmas.List.{append_assoc, length-append}
use Rattle.report.specs.Writing.{Room}

pub room_first : {n : ℕ} {a : List ℕ} (t u : List ℕ) → Room n a (t ++ u) → Room n a t
room_first t u r = record { fits = omega (arith, r.fits, length-append t u) }

pub room_rest : {n : ℕ} {a b : List ℕ} (t u : List ℕ) → Room n a (t ++ u) → b ≡ a ++ t → Room n b u
room_rest {n} {a} {b} t u r e = record { fits = omega (arith, r.fits, length-append t u, length-append a t, ap length e) }

pub both : (a : List ℕ) {b c : List ℕ} (t u : List ℕ) → b ≡ a ++ t → c ≡ b ++ u → c ≡ a ++ (t ++ u)
both a {b} {c} t u e f = f ∙ ap (λ x. x ++ u) e ∙ append_assoc a t u
