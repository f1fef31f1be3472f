use Rattle.std.proofs.Common.{◌^◌, ◌<◌, rules}
use Rattle.chart.proofs.Bits.{with_bit, without_bit}
use Rattle.chart.proofs.row.Ends.with.Goals as goal

pub returns-then-there : goal.returns-then-there
returns-then-there c = rw c.if-there.true (with_bit c.args.self.bits c.args.y c.requires)

pub returns-else-there : goal.returns-else-there
returns-else-there c =
    let h : c.args.self.bits < 2 ^ 16 = search rules in
    rw c.if-there.false (without_bit c.args.self.bits c.args.y c.requires h)
