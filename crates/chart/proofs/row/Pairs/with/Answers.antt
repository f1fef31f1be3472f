use Rattle.std.proofs.Common.{◌<◌, length, rules}
use Rattle.chart.proofs.Tables.{pairs_set}
use Rattle.chart.proofs.row.Pairs.with.Goals as goal

pub returns : goal.returns
returns c =
    let h : c.args.x < length c.args.self.from = search rules in
    pairs_set c.args.self.from c.args.x c.args.y c.args.there c.with.result h c.with.ensures
