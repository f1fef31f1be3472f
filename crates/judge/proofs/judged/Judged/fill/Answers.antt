-- From the last structure up, each row finds the rows behind it right.
use Rattle.std.proofs.Common.{◌≡◌, ℕ, ◌+◌, ◌-◌, sym, subst, arith}
use Rattle.guide.specs.Layout.{look, Table}
use Rattle.judge.specs.Rows.{Behind}
use Rattle.guide.specs.declared.Lane.TheVariants.{Plain}
use Rattle.hierarchy.specs.Meaning.{Meaning}
use Rattle.judge.proofs.Stays.{behind_more, behind_kept}
use Rattle.judge.proofs.judged.Judged.fill.Goals as goal

at_next : (m : Meaning) (T : Table) (i k : ℕ) → k ≡ i → Behind m i T → Behind m k T
at_next m T i k e = subst (λ n. Behind m n T) (sym e)

pub marked_row-requires-clause-behind : goal.marked_row-requires-clause-behind
marked_row-requires-clause-behind g c =
    let m = g.B.Hierarchy.meaning c.args.self.now.h.now in
    let T = look c.loop-i.guide c.args.self.now.places in
    let T₁ = look c.plain_row.new.guide c.args.self.now.places in
    let k = c.loop-i.i - 1 in
    behind_kept m T T₁ Plain k k c.plain_row.ensures.others (omega arith) (at_next m T c.loop-i.i (k + 1) (omega arith) c.loop-i.invariant)

pub loop-i-preserved : goal.loop-i-preserved
loop-i-preserved g c =
    let m = g.B.Hierarchy.meaning c.args.self.now.h.now in
    let T = look c.loop-i.guide c.args.self.now.places in
    let T₁ = look c.plain_row.new.guide c.args.self.now.places in
    let T₂ = look c.marked_row.new.guide c.args.self.now.places in
    let k = c.loop-i.i - 1 in
    behind_more m k T T₁ T₂ c.plain_row.ensures.others c.marked_row.ensures.others (at_next m T c.loop-i.i (k + 1) (omega arith) c.loop-i.invariant) c.plain_row.ensures.row c.marked_row.ensures.row
