-- Each known structure is searched for a ring.
use Rattle.std.proofs.Common.{arith}
use Rattle.guide.specs.Layout.{look}
use Rattle.judge.proofs.Rings.{behind_keep, no_round}
use Rattle.judge.proofs.judged.Judged.ring_any.Goals as goal

pub ring_in-requires-clause-rows : goal.ring_in-requires-clause-rows
ring_in-requires-clause-rows g c =
    let m = g.B.Hierarchy.meaning c.args.self.now.h.now in
    let T = look c.args.guide.now c.args.self.now.places in
    let T₁ = look c.loop-i.guide c.args.self.now.places in
    record { stands = omega (arith, c.requires.rows.stands); behind = behind_keep m T T₁ c.args.self.now.structures 0 c.args.self.now.structures_are c.loop-i.invariant.0 c.requires.rows.behind }

pub returns-clause-answer : goal.returns-clause-answer
returns-clause-answer g c =
    let m = g.B.Hierarchy.meaning c.args.self.now.h.now in
    let L = g.B.Hierarchy.lawful c.args.self.now.h.now in
    no_round m L (look c.args.guide.now c.args.self.now.places) c.requires.rows.behind c.requires.knows (omega (arith, (L.sized c.args.self.now.fits).0)) (λ i h. c.loop-i.invariant.1 i (omega (arith, c.loop-i-test.false, c.args.self.now.structures_are)))
