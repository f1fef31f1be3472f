-- Each call has one monitor less.
use Rattle.std.proofs.Common.{length}
use Rattle.layer.proofs.spread.Spread.+has_edge.Given as goal

abbrev pub decreases-has_edge : goal.decreases-has_edge
decreases-has_edge g l = length l.self.now.monitors.now
