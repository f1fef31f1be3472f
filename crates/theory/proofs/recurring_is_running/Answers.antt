use Rattle.theory.proofs.Running.{running}
use Rattle.theory.proofs.recurring_is_running.Goals as goal

pub returns : goal.returns
returns c = record { running = running }
