-- What the loop keeps, and why it ends.
use Rattle.std.proofs.Common.{◌≡◌, ◌≤◌, true}
use Rattle.guide.specs.Layout.{look, aim_of_lem}
use Rattle.judge.specs.Known.{known}
use Rattle.judge.specs.Ring.{Pointed}
use Rattle.judge.proofs.judged.Judged.point.Given as goal

abbrev pub invariant-loop-inner : goal.invariant-loop-inner
invariant-loop-inner g l =
    let T = look l.guide l.self.places in
    (T ≡ look l.initial.guide l.self.places) × (l.inner ≤ l.ring.home) × (known T l.inner ≡ true) ×
    Pointed T (aim_of_lem l.guide l.self.places) l.ring.home l.inner

abbrev pub decreases-loop-inner : goal.decreases-loop-inner
decreases-loop-inner g l = l.inner
