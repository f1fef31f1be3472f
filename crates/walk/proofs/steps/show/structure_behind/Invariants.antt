use Rattle.std.proofs.Common.{◌≡◌, drop}
use Rattle.walk.specs.Shown.{structure_behind_lem}
use Rattle.walk.proofs.steps.show.structure_behind.Given as goal

abbrev pub invariant-loop-f : goal.invariant-loop-f
invariant-loop-f g l =
    structure_behind_lem (g.B.Hierarchy.meaning l.h) 0 l.frames ≡ structure_behind_lem (g.B.Hierarchy.meaning l.h) l.structure (drop l.f-index l.frames)
