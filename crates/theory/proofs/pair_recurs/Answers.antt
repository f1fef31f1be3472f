use Rattle.theory.proofs.Witnesses.{pair_tells}
use Rattle.theory.proofs.pair_recurs.Goals as goal

pub returns : goal.returns
returns c = pair_tells c.args.returns
