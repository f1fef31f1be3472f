use Rattle.walk.proofs.Endless.{walk_shows_run}
use Rattle.walk.proofs.walking.Goals as goal

pub returns : goal.returns
returns c = walk_shows_run
