-- Paths of a relation that meet an element, and marks inside a box.
-- Assumes nothing.
use Rattle.hierarchy.specs.Flat.{Star}

-- a path from a to c that meets an element of M, the ends included
pub record Meets {X : Type 0} (R : X → X → Type 0) (M : X → Type 0) (a c : X) : Type 0 where
  pub met : X
  pub before : Star R a met
  pub there : M met
  pub after : Star R met c

-- a marked state stays marked inside a box
