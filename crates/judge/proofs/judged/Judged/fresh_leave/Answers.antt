-- A place to which v is left by an exit, or all are reached.
use Rattle.std.proofs.Common.{arith}
use Rattle.guide.specs.Layout.{look}
use Rattle.judge.proofs.Fresh.{spent_some, spent_all}
use Rattle.judge.proofs.Looks.{stands_inner}
use Rattle.judge.proofs.judged.Judged.fresh_leave.Goals as goal

pub passed-requires : goal.passed-requires
passed-requires g c =
    let x = c.args.self.now in
    record { stands = stands_inner (g.B.Hierarchy.meaning x.h.now) (g.B.Hierarchy.lawful x.h.now) _ _ _ c.requires.named x.structures x.structures_are _ _ c.requires.at.stands; inside = omega arith }

pub returns-in-loop-by : goal.returns-in-loop-by
returns-in-loop-by g c =
    let m = g.B.Hierarchy.meaning c.args.self.now.h.now in
    let L = g.B.Hierarchy.lawful c.args.self.now.h.now in
    spent_some m L c.args.site c.args.v c.args.inner c.requires.named (look c.args.guide.now c.args.site.places) c.requires.behind c.loop-by.by c.in-Some.w _ c.passed.ensures c.if-passed.true c.in-Some.ensures

pub returns : goal.returns
returns g c =
    let m = g.B.Hierarchy.meaning c.args.self.now.h.now in
    let L = g.B.Hierarchy.lawful c.args.self.now.h.now in
    spent_all m L c.args.site c.args.v c.args.inner c.requires.named (look c.args.guide.now c.args.site.places) c.requires.behind c.loop-by.by (omega (arith, c.requires.at.fit.places, c.loop-by-test.false)) c.loop-by.invariant
