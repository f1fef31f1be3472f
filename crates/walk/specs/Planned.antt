-- The plan of a walk, of the size of its hierarchy.
-- Assumes nothing.
use Rattle.std.specs.Prelude.{◌≡◌, false}
use Rattle.hierarchy.specs.Meaning.{Meaning}
use Rattle.walk.specs.declared.read.Plan.{Plan}

-- the plan is of this hierarchy, which is not too large
pub record Planned (m : Meaning) (p : Plan) : Type 0 where
  pub fits : m.large ≡ false
  pub structures : p.size.structures ≡ m.structures
  pub places : p.size.places ≡ m.places
