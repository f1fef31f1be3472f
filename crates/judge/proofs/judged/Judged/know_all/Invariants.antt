-- What the loop keeps.
use Rattle.guide.specs.Layout.{look}
use Rattle.judge.specs.Rows.{Behind}
use Rattle.judge.specs.Known.{Knows}
use Rattle.judge.proofs.judged.Judged.know_all.Given as goal

abbrev pub invariant-loop-i : goal.invariant-loop-i
invariant-loop-i g l =
    let m = g.B.Hierarchy.meaning l.self.h.now in
    let T = look l.guide l.self.places in
    Behind m 0 T × Knows m l.i T
