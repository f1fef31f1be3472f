-- Each call has one monitor less.
use Rattle.std.proofs.Common.{length}
use Rattle.layer.proofs.spread.Spread.+entry.Given as goal

abbrev pub decreases-entry : goal.decreases-entry
decreases-entry g l = length l.self.now.monitors.now
