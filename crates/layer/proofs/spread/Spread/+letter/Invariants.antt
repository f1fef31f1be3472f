-- Each call has one monitor less.
use Rattle.std.proofs.Common.{length}
use Rattle.layer.proofs.spread.Spread.+letter.Given as goal

abbrev pub decreases-letter : goal.decreases-letter
decreases-letter g l = length l.self.now.monitors.now
