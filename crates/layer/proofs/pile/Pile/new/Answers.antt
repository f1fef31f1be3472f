-- Every monitor is proper.
use Rattle.monitor.specs.Tables.{monitors_proper}
use Rattle.layer.proofs.pile.Pile.new.Goals as goal

pub returns-clause-proper : goal.returns-clause-proper
returns-clause-proper g c = monitors_proper c.args.monitors.now
