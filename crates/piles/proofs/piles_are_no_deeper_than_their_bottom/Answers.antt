-- By projecting the path to the bottom.
use Rattle.piles.proofs.piles_are_no_deeper_than_their_bottom.Goals as goal
use Rattle.piles.proofs.Depth.{pile_depth}

pub returns : goal.returns
returns c = pile_depth
