-- Each call has one monitor less.
use Rattle.std.proofs.Common.{length}
use Rattle.layer.proofs.spread.Spread.+has_leave.Given as goal

abbrev pub decreases-has_leave : goal.decreases-has_leave
decreases-has_leave g l = length l.self.now.monitors.now
