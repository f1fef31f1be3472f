-- The place is left, and the search goes on above it.
use Rattle.std.proofs.Common.{sym, ◌∙◌}
use Rattle.guide.specs.Layout.{look}
use Rattle.judge.proofs.Visits.{close_end, close_on}
use Rattle.judge.proofs.judged.Judged.close.Goals as goal

pub returns-then-v-entry-clause-visited : goal.returns-then-v-entry-clause-visited
returns-then-v-entry-clause-visited g c =
    let m = g.B.Hierarchy.meaning c.args.self.now.h.now in
    let T = look c.args.guide.now c.args.self.now.places in
    let T₁ = look c.sweep.new.guide c.args.self.now.places in
    let T₂ = look c.finish-old.new.guide c.args.self.now.places in
    let A = c.sweep.ensures.answer in
    close_end m c.args.self.now.structures c.args.self.now.places c.args.structure c.args.v T T₁ T₂ _ c.requires.nested c.requires.spent c.sweep.ensures.others (A.swept c.if-sweep.false) (A.none c.if-sweep.false) c.finish-old.ensures.was c.finish-old.ensures.done (c.if-v-entry.true ∙ c.entry.ensures)

pub returns-clause-visited : goal.returns-clause-visited
returns-clause-visited g c =
    let m = g.B.Hierarchy.meaning c.args.self.now.h.now in
    let T = look c.args.guide.now c.args.self.now.places in
    let T₁ = look c.sweep.new.guide c.args.self.now.places in
    let T₂ = look c.finish-old.new.guide c.args.self.now.places in
    let A = c.sweep.ensures.answer in
    close_on m c.args.self.now.structures c.args.self.now.places c.args.structure c.args.v T T₁ T₂ _ c.requires.nested c.requires.spent c.sweep.ensures.others (A.swept c.if-sweep.false) (A.none c.if-sweep.false) c.finish-old.ensures.was c.finish-old.ensures.done (λ e. c.if-v-entry.false (e ∙ sym c.entry.ensures))
