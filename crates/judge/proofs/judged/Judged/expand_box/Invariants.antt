-- What the loop keeps.
use Rattle.guide.specs.Layout.{look}
use Rattle.judge.specs.Follows.{Expanding}
use Rattle.judge.proofs.judged.Judged.expand_box.Given as goal

abbrev pub invariant-loop-by : goal.invariant-loop-by
invariant-loop-by g l =
    Expanding (g.B.Hierarchy.meaning l.self.h.now) l.site l.along l.v l.depth l.by (look l.initial.guide l.site.places) (look l.guide l.site.places)
