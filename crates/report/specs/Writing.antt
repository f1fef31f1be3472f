-- Text that is built piece after piece, of at most so many bytes.
-- Assumes nothing.
use Rattle.std.specs.Prelude.{ℕ, ◌+◌, ◌≤◌, List, length}

-- a piece still fits behind what is written, where n bytes fit in all
pub record Room (n : ℕ) (written piece : List ℕ) : Type 0 where
  pub fits : length written + length piece ≤ n
