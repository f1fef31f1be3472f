-- By the good runs of the bottom.
use Rattle.piles.proofs.small_piles_tell.Goals as goal
use Rattle.piles.proofs.Witnesses.{piles_tell}

pub returns : goal.returns
returns c = piles_tell
