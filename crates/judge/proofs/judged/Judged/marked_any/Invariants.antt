-- What the loop keeps.
use Rattle.std.proofs.Common.{◌≡◌, ℕ, ◌<◌, true}
use Rattle.guide.specs.Layout.{look}
use Rattle.judge.specs.Known.{MarkIn, known}
use Rattle.judge.proofs.judged.Judged.marked_any.Given as goal

abbrev pub invariant-loop-i : goal.invariant-loop-i
invariant-loop-i g l =
    let m = g.B.Hierarchy.meaning l.self.h.now in
    (k : ℕ) → k < l.i → known (look l.guide l.self.places) k ≡ true → MarkIn m k → ⊥
