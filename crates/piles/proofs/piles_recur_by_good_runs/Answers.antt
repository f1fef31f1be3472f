-- By the words of the pile, and as recurring is running without end.
use Rattle.piles.proofs.piles_recur_by_good_runs.Goals as goal
use Rattle.piles.proofs.Piles.{pile_good}

pub returns : goal.returns
returns c = pile_good
