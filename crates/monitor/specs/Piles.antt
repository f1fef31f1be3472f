-- A pile: monitors laid one upon another over a hierarchy. Its good runs, and how large it is.
-- Assumes nothing.
use Rattle.std.specs.Prelude.{ℕ, ◌*◌, Bool, ◌||◌, List, [], ◌∷◌, nat_lt}
use Rattle.hierarchy.specs.Meaning.{Meaning}
use Rattle.hierarchy.specs.Flat.{letter_of}
use Rattle.hierarchy.specs.Runs.{Run, MarkedOften}
use Rattle.monitor.specs.Automata.{Automaton, AllAccept}
use Rattle.monitor.specs.Product.{width}

-- A good run: an endless run of the hierarchy from its initial state, marked without end, that every automaton accepts
-- by the letter of each state as that state is left.
pub record GoodRun (m : Meaning) (automata : List Automaton) : Type 0 where
  pub run : Run m
  pub often : MarkedOften m run
  pub accepted : AllAccept automata (λ n. letter_of m 0 (run.state n))

-- by how much the automata multiply both sizes
abbrev pub widths : List Automaton → ℕ
widths [] = 1
widths (a ∷ rest) = widths rest * width a

-- the size formulas: a pile is too large if its hierarchy is, or if a size multiplied exceeds 1,024
abbrev pub pile_too_large : Meaning → List Automaton → Bool
pile_too_large m automata = m.large || (nat_lt 1024 (m.structures * widths automata) || nat_lt 1024 (m.places * widths automata))
