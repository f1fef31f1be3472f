-- Büchi automata that read letters, and which endless sequences of letters they accept.
-- Assumes nothing.
use Rattle.std.specs.Prelude.{◌≡◌, ℕ, suc, ◌<◌, ◌≤◌, Bool, true, List, [], ◌∷◌}
use Rattle.hierarchy.specs.Runs.{Often}

-- The states are the numbers below `states`; 0 is initial. `follows q a r`: r may follow q by the letter a.
pub record Automaton : Type 0 where
  pub states : ℕ
  pub follows : ℕ → ℕ → ℕ → Bool
  pub accepting : ℕ → Bool

-- there are 1 to 4 states
pub record Proper (a : Automaton) : Type 0 where
  pub some : 1 ≤ a.states
  pub few : a.states ≤ 4

abbrev pub AllProper : List Automaton → Type 0
AllProper [] = Unit {0}
AllProper (a ∷ rest) = Proper a × AllProper rest

-- The automaton accepts the letters: some sequence of its states starts at 0, steps by each letter in turn,
-- and is accepting without end.
pub record Accepts (a : Automaton) (letters : ℕ → ℕ) : Type 0 where
  pub state : ℕ → ℕ
  pub below : (n : ℕ) → state n < a.states
  pub begins : state 0 ≡ 0
  pub moves : (n : ℕ) → a.follows (state n) (letters n) (state (suc n)) ≡ true
  pub often : Often (λ n. a.accepting (state n) ≡ true)

-- each of the automata accepts the letters
abbrev pub AllAccept : List Automaton → (ℕ → ℕ) → Type 0
AllAccept [] letters = Unit {0}
AllAccept (a ∷ rest) letters = Accepts a letters × AllAccept rest letters
