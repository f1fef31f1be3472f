-- Either v is swept, and has a ring, or all that is swept is left already.
use Rattle.std.proofs.Common.{◌+◌, sym, ap, ◌∙◌, arith}
use Rattle.guide.specs.Layout.{look}
use Rattle.guide.specs.declared.Lane.TheVariants.{Plain}
use Rattle.judge.specs.Tables.{Others}
use Rattle.std.proofs.lemmas.Bool.{not-true}
use Rattle.judge.proofs.Grow.{others_trans}
use Rattle.judge.proofs.Stays.{behind_plain}
use Rattle.judge.proofs.Rings.{ring_fit, behind_last, behind_from}
use Rattle.judge.proofs.Sweeps.{sweep_orderly}
use Rattle.judge.proofs.Visits.{sweep_skips, sweep_tells}
use Rattle.judge.proofs.judged.Judged.sweep.Goals as goal

pub returns-then-not-entry_at-clause-answer : goal.returns-then-not-entry_at-clause-answer
returns-then-not-entry_at-clause-answer g c =
    let m = g.B.Hierarchy.meaning c.args.self.now.h.now in
    let T = look c.args.guide.now c.args.self.now.places in
    sweep_skips m c.args.self.now.structures c.args.self.now.places c.args.structure c.args.v T c.requires.nested (c.requires.rows.behind c.args.structure (omega arith) (omega arith)).marked (sym (ap (λ x. x.reached) c.entry_at.ensures) ∙ not-true _ c.if-not-entry_at.true)

pub spread-requires-clause-orderly : goal.spread-requires-clause-orderly
spread-requires-clause-orderly g c =
    let m = g.B.Hierarchy.meaning c.args.self.now.h.now in
    let L = g.B.Hierarchy.lawful c.args.self.now.h.now in
    let F = ring_fit m L c.args.self.now.structures c.args.self.now.places c.args.structure c.args.self.now.fits c.args.self.now.places_are c.args.self.now.structures_are in
    let T = look c.args.guide.now c.args.self.now.places in
    let T₁ = look c.seed_from.new.guide c.args.self.now.places in
    let B = behind_from m T₁ (c.args.structure + 1) (behind_last m T T₁ Plain c.args.self.now.structures 0 c.args.self.now.structures_are c.seed_from.ensures.sown.others c.requires.rows.behind) in
    sweep_orderly m L c.args.self.now.structures c.args.self.now.places c.args.structure c.args.v F T T₁ (behind_plain m (c.args.structure + 1) T₁ B) c.requires.nested.order c.requires.nested.swept c.seed_from.ensures

pub returns-clause-answer : goal.returns-clause-answer
returns-clause-answer g c =
    let m = g.B.Hierarchy.meaning c.args.self.now.h.now in
    let L = g.B.Hierarchy.lawful c.args.self.now.h.now in
    let F = ring_fit m L c.args.self.now.structures c.args.self.now.places c.args.structure c.args.self.now.fits c.args.self.now.places_are c.args.self.now.structures_are in
    let T = look c.args.guide.now c.args.self.now.places in
    let T₁ = look c.seed_from.new.guide c.args.self.now.places in
    let T₂ = look c.spread.new.guide c.args.self.now.places in
    let B = behind_from m T₁ (c.args.structure + 1) (behind_last m T T₁ Plain c.args.self.now.structures 0 c.args.self.now.structures_are c.seed_from.ensures.sown.others c.requires.rows.behind) in
    let f : Others T T₂ Plain c.args.self.now.structures = others_trans c.seed_from.ensures.sown.others c.spread.ensures.spreads.others in
    sweep_tells m L c.args.self.now.structures c.args.self.now.places c.args.structure c.args.v F T T₁ T₂ c.requires.nested c.requires.spent (behind_plain m (c.args.structure + 1) T₁ B)
    c.seed_from.ensures c.spread.ensures.spreads c.spread.ensures.closed c.spread.ensures.orderly c.spread.ensures.done f _ (ap (λ x. x.reached) c.get.ensures)
