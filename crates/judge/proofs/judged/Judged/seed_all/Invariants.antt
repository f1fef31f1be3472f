-- What the loop keeps.
use Rattle.guide.specs.Layout.{look}
use Rattle.judge.specs.Seeds.{SownBelow, marked_site}
use Rattle.judge.proofs.judged.Judged.seed_all.Given as goal

abbrev pub invariant-loop-v : goal.invariant-loop-v
invariant-loop-v g l =
    SownBelow (g.B.Hierarchy.meaning l.self.h.now) (marked_site l.self.places l.structure) l.v (look l.initial.guide l.self.places) (look l.guide l.self.places)
