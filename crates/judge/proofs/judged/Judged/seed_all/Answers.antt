-- The targets of the marked hops of all reached places are seeds, one deeper than where they come from.
use Rattle.std.proofs.Common.{◌+◌, sym, ap, ◌∙◌, arith}
use Rattle.guide.specs.declared.Lane.TheVariants.{Marked}
use Rattle.guide.specs.Layout.{look}
use Rattle.judge.proofs.Stays.{behind_kept}
use Rattle.judge.proofs.Sows.{below_no, below_yes}
use Rattle.judge.proofs.judged.Judged.seed_all.Goals as goal
use Rattle.judge.proofs.judged.Judged.seed_all.Goals.{then-found, else-found}

pub seed_from-requires-clause-behind : goal.seed_from-requires-clause-behind
seed_from-requires-clause-behind g c =
    let m = g.B.Hierarchy.meaning c.args.self.now.h.now in
    behind_kept m (look c.args.guide.now c.args.self.now.places) (look c.loop-v.guide c.args.self.now.places) Marked c.args.structure c.args.structure c.loop-v.invariant.sown.others (omega arith) c.requires.behind

pub loop-v-preserved : goal.loop-v-preserved
loop-v-preserved g c =
    let m = g.B.Hierarchy.meaning c.args.self.now.h.now in
    elim c.if-found.branch [
      | then-found w ↦ simp w.guide-is (below_yes m c.args.self.now.places c.args.structure c.loop-v.v _ c.requires.plain (sym (ap (λ x. x.reached) c.entry_at-found.ensures) ∙ w.if-found.true) (ap (λ x. x.depth + 1) c.entry_at-found.ensures) c.loop-v.invariant w.seed_from.ensures)
      | else-found w ↦ simp w.guide-is (below_no m c.args.self.now.places c.args.structure c.loop-v.v c.requires.plain (sym (ap (λ x. x.reached) c.entry_at-found.ensures) ∙ w.if-found.false) c.loop-v.invariant)
    ]
