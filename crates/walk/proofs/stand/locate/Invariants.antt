use Rattle.std.proofs.Common.{◌≡◌, drop}
use Rattle.walk.specs.Standing.{located}
use Rattle.walk.proofs.stand.locate.Given as goal

abbrev pub invariant-loop-f : goal.invariant-loop-f
invariant-loop-f g l = located (g.B.Hierarchy.meaning l.h) 0 l.frames ≡ located (g.B.Hierarchy.meaning l.h) l.structure (drop l.f-index l.frames)
