use Rattle.std.proofs.Common.{◌≡◌}
use Rattle.guide.specs.Trees.{up}
use Rattle.walk.specs.Memory.{spot_told, guide_by}
use Rattle.walk.proofs.read.Plan.climb.Given as goal

abbrev pub invariant-loop : goal.invariant-loop
invariant-loop l = spot_told l.spot ≡ up (guide_by l.self).tree l.structure (spot_told l.initial.spot) l.counter
