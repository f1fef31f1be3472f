-- What the loop keeps.
use Rattle.guide.specs.Layout.{look}
use Rattle.judge.specs.Rows.{Behind}
use Rattle.judge.proofs.judged.Judged.fill.Given as goal

abbrev pub invariant-loop-i : goal.invariant-loop-i
invariant-loop-i g l = Behind (g.B.Hierarchy.meaning l.self.h.now) l.i (look l.guide l.self.places)
