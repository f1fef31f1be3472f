-- From the home of the ring up, each structure gets the box to take as its aim.
use Rattle.std.proofs.Common.{◌≡◌, ◌<◌, sym, refl, ap, ◌∙◌, subst, arith}
use Rattle.guide.specs.Layout.{look, aim_of_lem}
use Rattle.judge.specs.Ring.{Pointed, at_home, Falls}
use Rattle.judge.proofs.Looks.{stands_less}
use Rattle.judge.proofs.Guides.{knows_falls}
use Rattle.judge.proofs.Pointing.{point_up, known_up, point_home}
use Rattle.judge.proofs.judged.Judged.point.Goals as goal

pub loop-inner-init : goal.loop-inner-init
loop-inner-init g c = (refl, omega arith, c.requires.known, at_home refl)

pub set_aim-requires-clause-stands : goal.set_aim-requires-clause-stands
set_aim-requires-clause-stands g c =
    let T = look c.loop-inner.guide c.args.self.now.places in
    let l : c.loop-inner.inner < c.args.self.now.structures = omega (arith, c.loop-inner.invariant.1, c.requires.home) in
    let m = g.B.Hierarchy.meaning c.args.self.now.h.now in
    let L = g.B.Hierarchy.lawful c.args.self.now.h.now in
    let F : Falls c.args.self.now.structures T = subst (Falls c.args.self.now.structures) (sym c.loop-inner.invariant.0) (knows_falls m L (look c.args.guide.now c.args.self.now.places) c.args.self.now.structures c.args.self.now.structures_are c.requires.knows) in
    let b = (F c.loop-inner.inner c.loop-inner-test.true l c.loop-inner.invariant.2).0 in
    let u = ap (λ x. x.from) c.entry_at-up.ensures in
    stands_less _ _ c.entry_at-up.result.from c.args.self.now.structures (omega (arith, b, u, c.loop-inner.invariant.1, c.requires.home)) (omega (arith, c.requires.stands))

pub loop-inner-preserved : goal.loop-inner-preserved
loop-inner-preserved g c =
    let T = look c.loop-inner.guide c.args.self.now.places in
    let T' = look c.set_aim.new.guide c.args.self.now.places in
    let e : T' ≡ T = c.set_aim.ensures.rest in
    let m = g.B.Hierarchy.meaning c.args.self.now.h.now in
    let L = g.B.Hierarchy.lawful c.args.self.now.h.now in
    let F : Falls c.args.self.now.structures T = subst (Falls c.args.self.now.structures) (sym c.loop-inner.invariant.0) (knows_falls m L (look c.args.guide.now c.args.self.now.places) c.args.self.now.structures c.args.self.now.structures_are c.requires.knows) in
    let l : c.loop-inner.inner < c.args.self.now.structures = omega (arith, c.loop-inner.invariant.1, c.requires.home) in
    let b = (F c.loop-inner.inner c.loop-inner-test.true l c.loop-inner.invariant.2).0 in
    let u = ap (λ x. x.from) c.entry_at-up.ensures in (
      e ∙ c.loop-inner.invariant.0,
      omega (arith, b, u, c.loop-inner.invariant.1),
      known_up c.args.self.now.structures c.args.self.now.places T T' c.loop-inner.guide c.set_aim.new.guide e F c.loop-inner.inner _ c.loop-inner-test.true l c.loop-inner.invariant.2 c.entry_at-up.ensures,
      point_up c.args.self.now.structures c.args.self.now.places T T' c.loop-inner.guide c.set_aim.new.guide e F c.args.ring.home c.loop-inner.inner _ c.loop-inner-test.true l c.loop-inner.invariant.2 c.entry_at-up.ensures c.set_aim.ensures.aims c.loop-inner.invariant.3,
    )

pub returns-clause-points : goal.returns-clause-points
returns-clause-points g c =
    let T = look c.loop-inner.guide c.args.self.now.places in
    let T' = look c.set_aim-2.new.guide c.args.self.now.places in
    let m = g.B.Hierarchy.meaning c.args.self.now.h.now in
    let L = g.B.Hierarchy.lawful c.args.self.now.h.now in
    let F : Falls c.args.self.now.structures T = subst (Falls c.args.self.now.structures) (sym c.loop-inner.invariant.0) (knows_falls m L (look c.args.guide.now c.args.self.now.places) c.args.self.now.structures c.args.self.now.structures_are c.requires.knows) in
    let z : c.loop-inner.inner ≡ 0 = omega (arith, c.loop-inner-test.false) in
    point_home c.args.self.now.structures c.args.self.now.places T T' c.loop-inner.guide c.set_aim-2.new.guide c.set_aim-2.ensures.rest F c.args.ring c.set_aim-2.ensures.aims (subst (Pointed T (aim_of_lem c.loop-inner.guide c.args.self.now.places) c.args.ring.home) z c.loop-inner.invariant.3)
