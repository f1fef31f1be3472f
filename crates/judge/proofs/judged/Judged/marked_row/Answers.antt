-- A search from the seeds makes the marked row right.
use Rattle.std.proofs.Common.{◌+◌, sym, subst, arith}
use Rattle.guide.specs.Layout.{look}
use Rattle.guide.specs.declared.Lane.TheVariants.{Plain, Marked}
use Rattle.judge.specs.Tables.{Others}
use Rattle.judge.specs.Rows.{from_row, MarkedRow, Behind}
use Rattle.judge.specs.Seeds.{marked_site}
use Rattle.judge.proofs.Grow.{others_trans}
use Rattle.judge.proofs.Stays.{behind_kept, behind_plain, plain_same, plain_stays}
use Rattle.judge.proofs.Fills.{seeded_orderly}
use Rattle.judge.proofs.Sows.{sown_seeded}
use Rattle.judge.proofs.Reaps.{marked_fit, marked_filled, seed_depth, hop_inside}
use Rattle.judge.proofs.judged.Judged.marked_row.Goals as goal

pub seed_all-requires-clause-behind : goal.seed_all-requires-clause-behind
seed_all-requires-clause-behind g c =
    let m = g.B.Hierarchy.meaning c.args.self.now.h.now in
    let i = c.args.structure in
    let T = look c.args.guide.now c.args.self.now.places in
    let T₁ = look c.clear.new.guide c.args.self.now.places in
    behind_kept m T T₁ Marked i i c.clear.ensures.others (omega arith) c.requires.behind

pub seed_all-requires-clause-plain : goal.seed_all-requires-clause-plain
seed_all-requires-clause-plain g c =
    let m = g.B.Hierarchy.meaning c.args.self.now.h.now in
    let i = c.args.structure in
    let T = look c.args.guide.now c.args.self.now.places in
    let T₁ = look c.clear.new.guide c.args.self.now.places in
    plain_stays m T T₁ i i c.clear.ensures.others c.requires.plain

pub spread-requires-clause-at : goal.spread-requires-clause-at
spread-requires-clause-at g c =
    let m = g.B.Hierarchy.meaning c.args.self.now.h.now in
    let L = g.B.Hierarchy.lawful c.args.self.now.h.now in
    let i = c.args.structure in
    record { stands = omega (arith, c.requires.stands, c.clear.auto.guide, c.seed_all.auto.guide); fit = marked_fit m L c.args.self.now.places i c.args.self.now.fits c.args.self.now.places_are (omega arith) }

pub spread-requires-clause-orderly : goal.spread-requires-clause-orderly
spread-requires-clause-orderly g c =
    let m = g.B.Hierarchy.meaning c.args.self.now.h.now in
    let L = g.B.Hierarchy.lawful c.args.self.now.h.now in
    let i = c.args.structure in
    let s = marked_site c.args.self.now.places i in
    let T = look c.args.guide.now c.args.self.now.places in
    let T₁ = look c.clear.new.guide c.args.self.now.places in
    let T₂ = look c.seed_all.new.guide c.args.self.now.places in
    let Z = sown_seeded s (from_row m i (T₁ Plain i)) T₁ T₂ c.clear.ensures.blank c.seed_all.ensures.sown in
    let F = marked_fit m L c.args.self.now.places i c.args.self.now.fits c.args.self.now.places_are (omega arith) in
    seeded_orderly m s (from_row m i (T₁ Plain i)) T₂ Z (seed_depth m L c.args.self.now.places i (T₁ Plain i) (plain_stays m T T₁ i i c.clear.ensures.others c.requires.plain) T₂ F Z)

pub returns-clause-row : goal.returns-clause-row
returns-clause-row g c =
    let m = g.B.Hierarchy.meaning c.args.self.now.h.now in
    let L = g.B.Hierarchy.lawful c.args.self.now.h.now in
    let i = c.args.structure in
    let s = marked_site c.args.self.now.places i in
    let T = look c.args.guide.now c.args.self.now.places in
    let T₁ = look c.clear.new.guide c.args.self.now.places in
    let T₂ = look c.seed_all.new.guide c.args.self.now.places in
    let T₃ = look c.spread.new.guide c.args.self.now.places in
    let X = c.seed_all.ensures in
    let Y = c.spread.ensures.spreads in
    let f : Others T T₂ Marked i = others_trans c.clear.ensures.others X.sown.others in
    let f' : Others T₁ T₃ Marked i = others_trans X.sown.others Y.others in
    let B : Behind m (i + 1) T₂ = behind_kept m T T₂ Marked i i f (omega arith) c.requires.behind in
    let Z = sown_seeded s (from_row m i (T₁ Plain i)) T₁ T₂ c.clear.ensures.blank X.sown in
    let F = marked_fit m L c.args.self.now.places i c.args.self.now.fits c.args.self.now.places_are (omega arith) in
    subst (λ r. MarkedRow m i r (T₃ Marked i)) (sym (plain_same T₁ T₃ i i f'))
    (marked_filled m L c.args.self.now.places i (T₁ Plain i) (plain_stays m T T₁ i i c.clear.ensures.others c.requires.plain) T₂ F Z T₃ (behind_plain m (i + 1) T₂ B)
    (λ v w p k. X.below v w (hop_inside m L i v w c.args.self.now.places c.args.self.now.places_are k) p k) Y c.spread.ensures.closed c.spread.ensures.done)
