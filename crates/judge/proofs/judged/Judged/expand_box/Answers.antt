-- A box is left by each exit that it can be passed by.
use Rattle.std.proofs.Common.{arith}
use Rattle.judge.proofs.Expanding.{exits_no, exits_yes, exits_all}
use Rattle.judge.proofs.Looks.{stands_inner}
use Rattle.judge.proofs.judged.Judged.expand_box.Goals as goal
use Rattle.judge.proofs.judged.Judged.expand_box.Goals.{then-passed, else-passed}

pub passed-requires : goal.passed-requires
passed-requires g c =
    let x = c.args.self.now in
    record { stands = stands_inner (g.B.Hierarchy.meaning x.h.now) (g.B.Hierarchy.lawful x.h.now) _ _ _ c.requires.named x.structures x.structures_are _ _ (omega (arith, c.requires.at.stands)); inside = omega arith }

pub loop-by-preserved : goal.loop-by-preserved
loop-by-preserved g c =
    let m = g.B.Hierarchy.meaning c.args.self.now.h.now in
    let L = g.B.Hierarchy.lawful c.args.self.now.h.now in
    let s = c.args.site in
    let a = c.args.along in
    elim c.if-passed.branch [
      | then-passed w ↦ simp w.guide-is (exits_yes m L s a c.args.v c.args.depth c.args.inner c.requires.at.fit.apart c.requires.named c.loop-by.by _ c.passed.ensures w.if-passed.true c.loop-by.invariant w.entry.ensures w.follow.ensures)
      | else-passed w ↦ simp w.guide-is (exits_no m L s a c.args.v c.args.depth c.args.inner c.requires.at.fit.apart c.requires.named c.loop-by.by _ c.passed.ensures w.if-passed.false c.loop-by.invariant)
    ]

pub returns : goal.returns
returns g c =
    let m = g.B.Hierarchy.meaning c.args.self.now.h.now in
    let L = g.B.Hierarchy.lawful c.args.self.now.h.now in
    exits_all m L c.args.site c.args.along c.args.v c.args.depth c.args.inner c.requires.at.fit.apart c.requires.named c.loop-by.by (omega (arith, c.requires.at.fit.places, c.loop-by-test.false)) c.loop-by.invariant
