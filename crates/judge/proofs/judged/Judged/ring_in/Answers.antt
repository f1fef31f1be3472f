-- A place with a ring is sought, and then its ring is drawn.
use Rattle.std.proofs.Common.{arith}
use Rattle.guide.specs.Layout.{look}
use Rattle.judge.proofs.Rings.{behind_keep}
use Rattle.judge.proofs.judged.Judged.ring_in.Goals as goal

pub draw_ring-requires-clause-rows : goal.draw_ring-requires-clause-rows
draw_ring-requires-clause-rows g c =
    let m = g.B.Hierarchy.meaning c.args.self.now.h.now in
    let T = look c.args.guide.now c.args.self.now.places in
    let T₁ = look c.seek.new.guide c.args.self.now.places in
    let A = c.in_ok-u.ensures in
    record { stands = omega (arith, c.requires.rows.stands, c.seek.auto.guide); behind = behind_keep m T T₁ c.args.self.now.structures 0 c.args.self.now.structures_are A.kept c.requires.rows.behind }
