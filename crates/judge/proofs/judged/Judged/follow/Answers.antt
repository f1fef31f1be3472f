-- Every hop is followed to a place that is not reached, and nothing else is written.
use Rattle.std.proofs.Common.{arith}
use Rattle.judge.proofs.Grow.{adding_all}
use Rattle.judge.specs.Spread.{leads}
use Rattle.judge.proofs.Told.{leads_inside}
use Rattle.judge.proofs.judged.Judged.follow.Goals as goal

pub returns : goal.returns
returns g c =
    let m = g.B.Hierarchy.meaning c.args.self.now.h.now in
    let s = c.args.site in
    let L = g.B.Hierarchy.lawful c.args.self.now.h.now in
    adding_all s c.args.cell (leads m s.structure c.args.hops) c.loop-w.w (λ k t. omega (arith, leads_inside m L s.structure c.args.hops k t, c.requires.places, c.loop-w-test.false)) c.loop-w.invariant
