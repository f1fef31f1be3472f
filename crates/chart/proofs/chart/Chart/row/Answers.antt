use Rattle.std.proofs.Common.{sym, arith}
use Rattle.chart.proofs.Tables.{at_sheet}
use Rattle.chart.proofs.chart.Chart.row.Goals as goal

pub returns-clause-row : goal.returns-clause-row
returns-clause-row c =
    let s = c.args.self.now in
    sym (at_sheet s.count s.table c.args.i _ (omega (arith, s.few, s.rows)) (omega (arith, c.requires, s.structures)))
