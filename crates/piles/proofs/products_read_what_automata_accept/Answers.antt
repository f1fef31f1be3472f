-- By projecting the runs of the product, and lifting those below.
use Rattle.piles.proofs.products_read_what_automata_accept.Goals as goal
use Rattle.piles.proofs.Piles.{one_monitor}

pub returns : goal.returns
returns c = one_monitor
