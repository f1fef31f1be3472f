-- Each known structure is asked.
use Rattle.std.proofs.Common.{◌≡◌, true, sym, ◌∙◌, arith, below_more}
use Rattle.std.proofs.lemmas.Bool.{both_ways}
use Rattle.guide.specs.Layout.{look}
use Rattle.judge.specs.Known.{MarkIn, known}
use Rattle.judge.proofs.Knowing.{yes_is, no_is, mark_of, no_mark}
use Rattle.judge.proofs.judged.Judged.marked_any.Goals.{else-is_known-via-then-is_known+else-marked_in, else-is_known-via-else-is_known}
use Rattle.judge.proofs.judged.Judged.marked_any.Goals as goal

pub returns-then-marked_in : goal.returns-then-marked_in
returns-then-marked_in g c =
    let m = g.B.Hierarchy.meaning c.args.self.now.h.now in
    let L = g.B.Hierarchy.lawful c.args.self.now.h.now in
    let i = c.loop-i.i in
    yes_is _ (mark_of m L (look c.args.guide.now c.args.self.now.places) c.requires.rows.behind c.requires.knows i (omega (arith, c.loop-i-test.true, c.args.self.now.structures_are)) (sym c.is_known.ensures ∙ c.if-is_known.true) (c.marked_in.ensures.sure c.if-marked_in.true))

pub loop-i-preserved : goal.loop-i-preserved
loop-i-preserved g c =
    let m = g.B.Hierarchy.meaning c.args.self.now.h.now in
    let T = look c.args.guide.now c.args.self.now.places in
    let i = c.loop-i.i in
    elim c.else-is_known.branch [
      | else-is_known-via-then-is_known+else-marked_in w ↦ below_more (λ k. known T k ≡ true → MarkIn m k → ⊥) i c.loop-i.invariant (λ p x. w.marked_in.ensures.never w.if-marked_in.false x)
      | else-is_known-via-else-is_known w ↦ below_more (λ k. known T k ≡ true → MarkIn m k → ⊥) i c.loop-i.invariant (λ p x. both_ways _ w.if-is_known.false (c.is_known.ensures ∙ p))
    ]

pub returns : goal.returns
returns g c =
    let m = g.B.Hierarchy.meaning c.args.self.now.h.now in
    let L = g.B.Hierarchy.lawful c.args.self.now.h.now in
    no_is _ (no_mark m L (look c.args.guide.now c.args.self.now.places) c.requires.rows.behind c.requires.knows (omega (arith, (L.sized c.args.self.now.fits).0)) (λ i h. c.loop-i.invariant i (omega (arith, c.loop-i-test.false, c.args.self.now.structures_are))))
