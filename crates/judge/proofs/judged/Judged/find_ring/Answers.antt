-- The rows, the ring and the aims make a good guide.
use Rattle.std.proofs.Common.{◌≡◌, sym, subst}
use Rattle.guide.specs.Layout.{look, aim_of_lem, trees_of, guide_of}
use Rattle.guide.specs.Trees.{Good}
use Rattle.judge.specs.Ring.{Points}
use Rattle.judge.proofs.Rings.{behind_keep}
use Rattle.judge.proofs.Guides.{good, ring_round, knows_last}
use Rattle.judge.proofs.judged.Judged.find_ring.Goals as goal

pub returns : goal.returns
returns g c =
    let m = g.B.Hierarchy.meaning c.args.self.now.h.now in
    let L = g.B.Hierarchy.lawful c.args.self.now.h.now in
    let T = look c.args.guide.now c.args.self.now.places in
    let T₁ = look c.ring_any.new.guide c.args.self.now.places in
    let T₂ = look c.point.new.guide c.args.self.now.places in
    let A = c.in_ok-ring.ensures in
    let x = c.in_ok-ring.ring in
    let aim = aim_of_lem c.point.new.guide c.args.self.now.places in
    let B = behind_keep m T T₁ c.args.self.now.structures 0 c.args.self.now.structures_are A.kept c.requires.rows.behind in
    let K = knows_last m L T T₁ c.args.self.now.structures c.args.self.now.fits c.args.self.now.structures_are A.kept c.requires.knows in
    let e : T₂ ≡ T₁ = c.point.ensures.rest in
    let X : Points T₁ aim x = subst (λ Y. Points Y aim x) e c.point.ensures.points in
    let G = good m L T₁ B aim x A.answer.2 X A.answer.0 A.answer.1 K in (
      ring_round m L T₁ B aim x A.answer.2 X A.answer.0 A.answer.1 K,
      subst (λ p. Good m (guide_of c.point.new.guide m.structures p x.home)) c.args.self.now.places_are
          (subst (λ Y. Good m (record { tree = trees_of Y m.structures; aim = aim; home = x.home })) (sym e) G),
    )
