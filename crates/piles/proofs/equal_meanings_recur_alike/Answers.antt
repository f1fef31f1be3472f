-- By the equation of the meanings.
use Rattle.piles.proofs.equal_meanings_recur_alike.Goals as goal
use Rattle.piles.proofs.Piles.{same_meaning}

pub returns : goal.returns
returns c = same_meaning
