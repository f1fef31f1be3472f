-- What the loop keeps.
use Rattle.std.proofs.Common.{◌≡◌, ℕ, ◌<◌, true}
use Rattle.theory.specs.Hops.{Hops}
use Rattle.guide.specs.Layout.{look}
use Rattle.judge.specs.Tables.{Kept}
use Rattle.judge.specs.Known.{known}
use Rattle.judge.specs.Ring.{Back}
use Rattle.judge.proofs.judged.Judged.ring_any.Given as goal

abbrev pub invariant-loop-i : goal.invariant-loop-i
invariant-loop-i g l =
    let m = g.B.Hierarchy.meaning l.self.h.now in
    Kept l.self.structures (look l.initial.guide l.self.places) (look l.guide l.self.places) ×
    ((k : ℕ) → k < l.i → known (look l.initial.guide l.self.places) k ≡ true → (u : ℕ) → Hops m k (m.entry k) u → Back m k u → ⊥)
