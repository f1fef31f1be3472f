-- Each call has one monitor less.
use Rattle.std.proofs.Common.{length}
use Rattle.layer.proofs.spread.Spread.+place.Given as goal

abbrev pub decreases-place : goal.decreases-place
decreases-place g l = length l.self.now.monitors.now
