-- What the loop keeps.
use Rattle.guide.specs.Layout.{look}
use Rattle.judge.specs.Known.{Shown}
use Rattle.judge.proofs.judged.Judged.know_boxes.Given as goal

abbrev pub invariant-loop-b : goal.invariant-loop-b
invariant-loop-b g l = Shown (g.B.Hierarchy.meaning l.self.h.now) l.structure l.b (look l.initial.guide l.self.places) (look l.guide l.self.places)
