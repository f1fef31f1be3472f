-- What the loop keeps, and why it ends.
use Rattle.guide.specs.Layout.{look}
use Rattle.judge.specs.Search.{Spreads, Orderly, undone}
use Rattle.judge.proofs.judged.Judged.spread.Given as goal

abbrev pub invariant-loop-v : goal.invariant-loop-v
invariant-loop-v g l =
    let m = g.B.Hierarchy.meaning l.self.h.now in
    let T = look l.guide l.site.places in
    Spreads m l.site (look l.initial.guide l.site.places) T × Orderly m l.site T

abbrev pub decreases-loop-v : goal.decreases-loop-v
decreases-loop-v g l = undone (look l.guide l.site.places) l.site l.site.places
