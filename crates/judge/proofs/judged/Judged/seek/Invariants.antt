-- What the loop keeps, and why it ends.
use Rattle.guide.specs.Layout.{look}
use Rattle.guide.specs.declared.Lane.TheVariants.{Marked}
use Rattle.judge.specs.Tables.{Kept}
use Rattle.judge.specs.Nested.{Nested, remaining}
use Rattle.judge.proofs.judged.Judged.seek.Given as goal

abbrev pub invariant-loop-w : goal.invariant-loop-w
invariant-loop-w g l =
    let m = g.B.Hierarchy.meaning l.self.h.now in
    let T = look l.guide l.self.places in
    Kept l.self.structures (look l.initial.guide l.self.places) T × Nested m l.self.structures l.self.places l.structure l.v T

abbrev pub decreases-loop-w : goal.decreases-loop-w
decreases-loop-w g l = remaining l.self.places (look l.guide l.self.places Marked l.self.structures)
