use Rattle.theory.proofs.Witnesses.{dot_tells}
use Rattle.theory.proofs.dot_recurs.Goals as goal

pub returns : goal.returns
returns c = dot_tells c.args.turns
