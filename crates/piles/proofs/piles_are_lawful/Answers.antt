-- By induction over the automata.
use Rattle.piles.proofs.piles_are_lawful.Goals as goal
use Rattle.piles.proofs.Piles.{pile_lawful}

pub returns : goal.returns
returns c = pile_lawful
