-- A walk starts along a run by every good guide.
use Rattle.std.proofs.Common.{refl, rules}
use Rattle.judge.specs.Verdicts.{home_of}
use Rattle.walk.proofs.Along.{starts_run}
use Rattle.walk.proofs.steps.start.Goals as goal

pub returns-clause-run : goal.returns-clause-run
returns-clause-run c = starts_run (home_of c.args.found) _ (search rules) (λ m g fs. refl)
