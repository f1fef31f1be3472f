use Rattle.std.proofs.Common.{◌<◌, length, rules}
use Rattle.chart.specs.Layout.{structure_of}
use Rattle.chart.proofs.Tables.{triples_set}
use Rattle.chart.proofs.row.Row.with_leave.Goals as goal

pub returns-clause-is : goal.returns-clause-is
unfolding structure_of
returns-clause-is c =
    let h : c.args.b < length c.args.self.leaves = search rules in
    simp (triples_set c.args.self.leaves c.args.b c.args.e c.args.w c.args.there c.with.result h c.with.ensures)
