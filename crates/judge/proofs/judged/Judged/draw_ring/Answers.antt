-- A search from the marked hops of u comes back to u, if u has a ring.
use Rattle.std.proofs.Common.{arith, ◌+◌}
use Rattle.guide.specs.Layout.{look}
use Rattle.guide.specs.declared.Lane.TheVariants.{Plain}
use Rattle.judge.specs.Tables.{Others}
use Rattle.judge.proofs.Grow.{others_trans}
use Rattle.judge.proofs.Rings.{ring_fit, behind_last, behind_from, ring_orderly, ring_drawn}
use Rattle.judge.proofs.judged.Judged.draw_ring.Goals as goal

pub seed_from-requires-clause-at : goal.seed_from-requires-clause-at
seed_from-requires-clause-at g c =
    let m = g.B.Hierarchy.meaning c.args.self.now.h.now in
    let L = g.B.Hierarchy.lawful c.args.self.now.h.now in
    record { stands = omega (arith, c.requires.rows.stands, c.clear.auto.guide); fit = ring_fit m L c.args.self.now.structures c.args.self.now.places c.args.structure c.args.self.now.fits c.args.self.now.places_are c.args.self.now.structures_are }

pub seed_from-requires-clause-behind : goal.seed_from-requires-clause-behind
seed_from-requires-clause-behind g c =
    let m = g.B.Hierarchy.meaning c.args.self.now.h.now in
    let T = look c.args.guide.now c.args.self.now.places in
    let T₁ = look c.clear.new.guide c.args.self.now.places in
    behind_from m T₁ (c.args.structure + 1) (behind_last m T T₁ Plain c.args.self.now.structures 0 c.args.self.now.structures_are c.clear.ensures.others c.requires.rows.behind)

pub spread-requires-clause-at : goal.spread-requires-clause-at
spread-requires-clause-at g c =
    let m = g.B.Hierarchy.meaning c.args.self.now.h.now in
    let L = g.B.Hierarchy.lawful c.args.self.now.h.now in
    record { stands = omega (arith, c.requires.rows.stands, c.clear.auto.guide, c.seed_from.auto.guide); fit = ring_fit m L c.args.self.now.structures c.args.self.now.places c.args.structure c.args.self.now.fits c.args.self.now.places_are c.args.self.now.structures_are }

pub spread-requires-clause-orderly : goal.spread-requires-clause-orderly
spread-requires-clause-orderly g c =
    let m = g.B.Hierarchy.meaning c.args.self.now.h.now in
    let L = g.B.Hierarchy.lawful c.args.self.now.h.now in
    let F = ring_fit m L c.args.self.now.structures c.args.self.now.places c.args.structure c.args.self.now.fits c.args.self.now.places_are c.args.self.now.structures_are in
    let T₁ = look c.clear.new.guide c.args.self.now.places in
    let T₂ = look c.seed_from.new.guide c.args.self.now.places in
    ring_orderly m L c.args.self.now.structures c.args.self.now.places c.args.structure c.args.u F T₁ T₂ c.clear.ensures.blank c.seed_from.ensures c.requires.below

pub returns-clause-row : goal.returns-clause-row
returns-clause-row g c =
    let m = g.B.Hierarchy.meaning c.args.self.now.h.now in
    let L = g.B.Hierarchy.lawful c.args.self.now.h.now in
    let F = ring_fit m L c.args.self.now.structures c.args.self.now.places c.args.structure c.args.self.now.fits c.args.self.now.places_are c.args.self.now.structures_are in
    let T = look c.args.guide.now c.args.self.now.places in
    let T₁ = look c.clear.new.guide c.args.self.now.places in
    let T₂ = look c.seed_from.new.guide c.args.self.now.places in
    let T₃ = look c.spread.new.guide c.args.self.now.places in
    let f : Others T T₂ Plain c.args.self.now.structures = others_trans c.clear.ensures.others c.seed_from.ensures.sown.others in
    let B = behind_from m T₂ (c.args.structure + 1) (behind_last m T T₂ Plain c.args.self.now.structures 0 c.args.self.now.structures_are f c.requires.rows.behind) in
    ring_drawn m L c.args.self.now.structures c.args.self.now.places c.args.structure c.args.u F T₁ T₂ c.clear.ensures.blank c.seed_from.ensures
    T₃ B c.spread.ensures.spreads c.spread.ensures.closed c.spread.ensures.done
