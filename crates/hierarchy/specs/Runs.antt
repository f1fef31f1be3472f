-- Endless runs of the flat form of a hierarchy, and what it is to hold without end.
-- Assumes nothing.
use Rattle.std.specs.Prelude.{◌≡◌, ℕ, suc, ◌≤◌}
use Rattle.hierarchy.specs.Meaning.{Meaning}
use Rattle.hierarchy.specs.Flat.{State, Step, Marked, initial}

-- P holds without end: from every number on it holds again
abbrev pub Often : (ℕ → Type 0) → Type 0
Often P = (n : ℕ) → (k : ℕ) × (n ≤ k) × P k

-- an endless run from the initial state
pub record Run (m : Meaning) : Type 0 where
  pub state : ℕ → State
  pub begins : state 0 ≡ initial m 0
  pub moves : (n : ℕ) → Step m 0 (state n) (state (suc n))

-- the run meets marked states without end
abbrev pub MarkedOften : (m : Meaning) → Run m → Type 0
MarkedOften m r = Often (λ n. Marked m 0 (r.state n))

-- some endless run from the initial state is marked without end
pub record Endless (m : Meaning) : Type 0 where
  pub run : Run m
  pub often : MarkedOften m run
