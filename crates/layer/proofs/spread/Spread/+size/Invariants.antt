-- Each call has one monitor less.
use Rattle.std.proofs.Common.{length}
use Rattle.layer.proofs.spread.Spread.+size.Given as goal

abbrev pub decreases-size : goal.decreases-size
decreases-size g l = length l.self.now.monitors.now
