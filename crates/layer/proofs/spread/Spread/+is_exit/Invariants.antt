-- Each call has one monitor less.
use Rattle.std.proofs.Common.{length}
use Rattle.layer.proofs.spread.Spread.+is_exit.Given as goal

abbrev pub decreases-is_exit : goal.decreases-is_exit
decreases-is_exit g l = length l.self.now.monitors.now
