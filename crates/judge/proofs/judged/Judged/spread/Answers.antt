-- Each turn leaves one place fewer to do, and keeps the row in order.
use Rattle.std.proofs.Common.{arith}
use Rattle.judge.proofs.Turns.{turn_spreads, turn_orderly, turn_undone, all_closed}
use Rattle.judge.proofs.judged.Judged.spread.Goals as goal

pub loop-v-smaller : goal.loop-v-smaller
loop-v-smaller g c =
    let m = g.B.Hierarchy.meaning c.args.self.now.h.now in
    omega (arith, turn_undone m c.args.site _ c.requires.at.fit c.loop-v.invariant.1 c.in-Some.ensures c.turn.ensures)

pub loop-v-preserved : goal.loop-v-preserved
loop-v-preserved g c =
    let m = g.B.Hierarchy.meaning c.args.self.now.h.now in
    let O = c.loop-v.invariant.1 in
    let V = c.in-Some.ensures in
    (turn_spreads m c.args.site _ c.requires.at.fit O V c.turn.ensures c.loop-v.invariant.0, turn_orderly m c.args.site _ c.requires.at.fit O V c.turn.ensures)

pub returns-clause-closed : goal.returns-clause-closed
returns-clause-closed g c =
    let m = g.B.Hierarchy.meaning c.args.self.now.h.now in
    all_closed m c.args.site _ c.loop-v.invariant.1 c.in_default.ensures
