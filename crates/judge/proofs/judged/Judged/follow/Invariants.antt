-- What the loop keeps.
use Rattle.guide.specs.Layout.{look}
use Rattle.judge.specs.Spread.{leads, Adding}
use Rattle.judge.proofs.judged.Judged.follow.Given as goal

abbrev pub invariant-loop-w : goal.invariant-loop-w
invariant-loop-w g l =
    let m = g.B.Hierarchy.meaning l.self.h.now in
    Adding l.site l.cell (leads m l.site.structure l.hops) l.w (look l.initial.guide l.site.places) (look l.guide l.site.places)
