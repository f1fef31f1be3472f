use Rattle.std.proofs.Common.{arith}
use Rattle.chart.proofs.Tables.{row_found}
use Rattle.chart.proofs.chart.Chart.find_row.Goals as goal

pub returns-clause-row : goal.returns-clause-row
returns-clause-row c =
    row_found c.args.self.now.count c.args.self.now.table c.args.i c.get.result (omega (arith, c.args.self.now.few, c.args.self.now.rows)) c.get.ensures.lookup
