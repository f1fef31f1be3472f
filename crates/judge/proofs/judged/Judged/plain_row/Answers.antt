-- A search from the entry makes the plain row right.
use Rattle.std.proofs.Common.{sym, ap, ◌∙◌, arith}
use Rattle.guide.specs.Layout.{look}
use Rattle.guide.specs.declared.Lane.TheVariants.{Plain}
use Rattle.judge.specs.Tables.{Others}
use Rattle.judge.specs.Rows.{at_entry}
use Rattle.judge.specs.Seeds.{plain_site}
use Rattle.judge.proofs.Grow.{others_trans}
use Rattle.judge.proofs.Fills.{plain_filled, plain_start, plain_fit, seeded_orderly, seed_of, from_others}
use Rattle.judge.proofs.judged.Judged.plain_row.Goals as goal

pub spread-requires-clause-orderly : goal.spread-requires-clause-orderly
spread-requires-clause-orderly g c =
    let m = g.B.Hierarchy.meaning c.args.self.now.h.now in
    let s = plain_site c.args.self.now.places c.args.structure in
    let T₂ = look c.put.new.guide c.args.self.now.places in
    let Z = plain_start m s (look c.clear.new.guide c.args.self.now.places) T₂ _ _ c.entry.ensures c.clear.ensures.blank c.child.ensures c.put.ensures in
    seeded_orderly m s (at_entry m c.args.structure) T₂ Z (λ u h. omega (arith, (seed_of m s (at_entry m c.args.structure) T₂ Z u h).why.0))

pub returns-clause-row : goal.returns-clause-row
returns-clause-row g c =
    let m = g.B.Hierarchy.meaning c.args.self.now.h.now in
    let L = g.B.Hierarchy.lawful c.args.self.now.h.now in
    let i = c.args.structure in
    let T = look c.args.guide.now c.args.self.now.places in
    let T₁ = look c.clear.new.guide c.args.self.now.places in
    let T₂ = look c.put.new.guide c.args.self.now.places in
    let T₃ = look c.spread.new.guide c.args.self.now.places in
    let Z = plain_start m (plain_site c.args.self.now.places i) T₁ T₂ _ _ c.entry.ensures c.clear.ensures.blank c.child.ensures c.put.ensures in
    let F = plain_fit m L c.args.self.now.places i c.args.self.now.fits c.args.self.now.places_are (omega arith) in
    let f : Others T T₂ Plain i = others_trans c.clear.ensures.others c.put.ensures.others in
    plain_filled m L c.args.self.now.places i T₂ T₃ F Z (from_others m i T T₂ f c.requires.behind) c.spread.ensures.spreads c.spread.ensures.closed c.spread.ensures.done
    (ap (λ k. (T₂ Plain i k).reached) (sym c.entry.ensures) ∙ ap (λ x. x.reached) (c.put.ensures.here ∙ c.child.ensures))
