-- By induction over the automata.
use Rattle.piles.proofs.pile_sizes_multiply.Goals as goal
use Rattle.piles.proofs.Piles.{pile_large, pile_sizes}

pub returns : goal.returns
returns c = record { large = pile_large; sizes = pile_sizes }
