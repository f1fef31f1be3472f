-- Why monitors laid over a hierarchy are right: what one of them does, and what a pile of them does, its size, laws and depth.
-- Assumes nothing.
use Rattle.std.specs.Prelude.{◌≡◌, ℕ, ◌*◌, ◌<◌, false, ◌↔◌, List}
use Rattle.hierarchy.specs.Meaning.{Meaning, Lawful}
use Rattle.hierarchy.specs.Flat.{State, Reach, Recurs, letter_of}
use Rattle.hierarchy.specs.Runs.{Run, MarkedOften}
use Rattle.monitor.specs.Automata.{Automaton, Proper, AllProper, Accepts}
use Rattle.monitor.specs.Product.{product, laid}
use Rattle.monitor.specs.Piles.{GoodRun, widths, pile_too_large}
use Rattle.theory.specs.OneSearch.{boxes}

-- the letters are a word of the hierarchy: some endless run, marked without end, reads them, state by state
pub record Word (m : Meaning) (letters : ℕ → ℕ) : Type 0 where
  pub run : Run m
  pub often : MarkedOften m run
  pub reads : (n : ℕ) → letter_of m 0 (run.state n) ≡ letters n

-- One monitor: the words of the product are the words below that the automaton accepts.
abbrev pub OneMonitor : Type 0
OneMonitor = (m : Meaning) → Lawful m → (a : Automaton) → Proper a → (product m a).large ≡ false → (letters : ℕ → ℕ)
    → Word (product m a) letters ↔ (Word m letters × Accepts a letters)

-- A marked state of a pile recurs exactly if the hierarchy at the bottom has a good run for its automata.
abbrev pub PileGood : Type 0
PileGood = (m : Meaning) → Lawful m → (automata : List Automaton) → AllProper automata → (laid automata m).large ≡ false
    → Recurs (laid automata m) ↔ GoodRun m automata

-- A pile is too large exactly if the size formulas, worked from the bottom's size, say so.
abbrev pub PileLarge : Type 0
PileLarge = (m : Meaning) → Lawful m → (automata : List Automaton) → AllProper automata → (laid automata m).large ≡ pile_too_large m automata

-- A pile that is not too large has the bottom's sizes, each multiplied by the widths of its automata.
abbrev pub PileSizes : Type 0
PileSizes = (m : Meaning) (automata : List Automaton) → (laid automata m).large ≡ false
    → ((laid automata m).structures ≡ m.structures * widths automata) × ((laid automata m).places ≡ m.places * widths automata)

-- A pile over a lawful hierarchy is lawful.
abbrev pub PileLawful : Type 0
PileLawful = (m : Meaning) → Lawful m → (automata : List Automaton) → AllProper automata → Lawful (laid automata m)

-- The reachable states of a pile have fewer boxes than the hierarchy at the bottom has structures.
abbrev pub PileDepth : Type 0
PileDepth = (m : Meaning) → Lawful m → (automata : List Automaton) → AllProper automata → (laid automata m).large ≡ false
    → (s : State) → Reach (laid automata m) 0 s → boxes s < m.structures

-- What recurs is told by the meaning alone.
abbrev pub SameMeaning : Type 0
SameMeaning = (m n : Meaning) → m ≡ n → Recurs m ↔ Recurs n
