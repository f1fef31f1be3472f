-- Small piles that recur or do not, as three choices have it: what is proved of all is not proved of none.
-- Assumes nothing.
use Rattle.std.specs.Prelude.{◌≡◌, ℕ, Bool, true, false, ◌↔◌, List, [], ◌∷◌, ◌==◌}
use Rattle.hierarchy.specs.Meaning.{Lawful}
use Rattle.hierarchy.specs.Flat.{Recurs}
use Rattle.monitor.specs.Automata.{Automaton, AllProper}
use Rattle.monitor.specs.Product.{laid}
use Rattle.theory.specs.Witnesses.{pair}

-- one state, which reads one letter only, and is accepting if it wins
abbrev pub reader : ℕ → Bool → Automaton
reader letter wins = record { states = 1; follows = λ q a r. (a == letter); accepting = λ q. wins }

-- two readers; the letters of the pair below are all 0
abbrev pub readers : ℕ → Bool → List Automaton
readers letter wins = reader letter wins ∷ reader 0 true ∷ []

-- lawful, not too large, and recurring exactly if the pair turns, the reader wins, and its letter is 0
pub record PileTells (turns wins : Bool) (letter : ℕ) : Type 0 where
  pub proper : AllProper (readers letter wins)
  pub lawful : Lawful (laid (readers letter wins) (pair turns))
  pub fits : (laid (readers letter wins) (pair turns)).large ≡ false
  pub recurs : Recurs (laid (readers letter wins) (pair turns)) ↔ ((turns ≡ true) × (wins ≡ true) × (letter ≡ 0))

abbrev pub PilesTell : Type 0
PilesTell = (turns wins : Bool) (letter : ℕ) → PileTells turns wins letter
