-- Each cell is empty.
use mathlib.Core.Path.{fun_ext}
use Rattle.monitor.specs.Tables.{steps_of}
use Rattle.monitor.proofs.Cells.{at_none}
use Rattle.monitor.proofs.steps.Steps.none.Goals as goal

pub returns : goal.returns
unfolding steps_of
returns c = fun_ext (λ q. fun_ext (λ a. fun_ext (λ r. at_none q a r)))
