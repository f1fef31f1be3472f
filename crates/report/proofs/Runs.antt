-- The lines of a run, one after another, and room for one more.
-- Assumes nothing.
use Rattle.std.proofs.Common.{◌≡◌, ℕ, zero, suc, ◌<◌, List, ◌++◌, sym, append-nil, subst, arith}
use native.Mathlib.Decide.{ℕ_discrete}
use Rattle.hierarchy.specs.Meaning.{Meaning}
use Rattle.hierarchy.specs.Flat.{State}
use Rattle.report.specs.Text.{state_line, run_lines}
use Rattle.report.specs.Writing.{Room}
use Rattle.report.proofs.Pushed.{room_first, room_rest, both}

-- none is written yet
pub lines_none : {a : List ℕ} (m : Meaning) (s : ℕ → State) → a ≡ a ++ run_lines m s 0
unfolding run_lines
lines_none {a} m s = sym (append-nil a)

-- one line more
pub lines_more : (a : List ℕ) {b c : List ℕ} (m : Meaning) (s : ℕ → State) (n : ℕ) → b ≡ a ++ run_lines m s n → c ≡ b ++ state_line m (s n) → c ≡ a ++ run_lines m s (suc n)
unfolding run_lines
lines_more a m s n e f = both a (run_lines m s n) (state_line m (s n)) e f

-- room for more lines is room for one more than n
pub lines_room : {l : ℕ} {a b : List ℕ} (m : Meaning) (s : ℕ → State) (n k : ℕ) → n < k → Room l a (run_lines m s k) → b ≡ a ++ run_lines m s n → Room l b (state_line m (s n))
unfolding run_lines
lines_room m s n zero h r e = absurd (omega arith)
lines_room {l} {a} {b} m s n (suc k) h r e = go (ℕ_discrete n k) (λ x. lines_room m s n k x (room_first (run_lines m s k) (state_line m (s k)) r) e)
  where
    go : Dec (n ≡ k) → (n < k → Room l b (state_line m (s n))) → Room l b (state_line m (s n))
    go (yes q) f =
        room_rest (run_lines m s n) (state_line m (s n)) (subst (λ (j : ℕ). Room l a (run_lines m s j ++ state_line m (s j))) (sym q) r) e
    go (no x) f = f (omega (arith, h, x))
