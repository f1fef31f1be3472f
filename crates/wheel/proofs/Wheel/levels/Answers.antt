-- As many sizes count as there are levels.
use Rattle.std.proofs.Common.{sym, arith}
use Rattle.std.proofs.lemmas.List.{length-take-le}
use Rattle.wheel.specs.Made.{sizes_of}
use Rattle.wheel.proofs.Wheel.levels.Goals as goal

pub returns-clause-levels : goal.returns-clause-levels
unfolding sizes_of
returns-clause-levels c = let w = c.args.self.now in sym (length-take-le w.levels w.sizes (omega (arith, w.few, w.room)))
