-- The automaton that a monitor's tables hold; it has 1 to 4 states.
-- Assumes nothing.
use Rattle.std.specs.Prelude.{ℕ, ◌+◌, ◌*◌, Bool, false, ◌&&◌, List, [], ◌∷◌, map, nat_lt, slice_index_or}
use Rattle.monitor.specs.Automata.{Automaton, Proper, AllProper}
use Rattle.monitor.specs.declared.Monitor.{Monitor}
use Rattle.monitor.specs.declared.steps.Steps.{Steps}

-- beyond the states and letters that a table has room for there are no steps
unfoldable pub steps_of : Steps → ℕ → ℕ → ℕ → Bool
steps_of s q a r = nat_lt q 4 && (nat_lt a 16 && (nat_lt r 4 && slice_index_or s.cells ((q * 4 + r) * 16 + a) false))

unfoldable pub accepting_in : List Bool → ℕ → Bool
accepting_in flags q = nat_lt q 4 && slice_index_or flags q false

abbrev pub automaton_of : Monitor → Automaton
automaton_of m = record { states = m.states; follows = steps_of m.steps; accepting = accepting_in m.accepting }

pub monitor_proper : (m : Monitor) → Proper (automaton_of m)
monitor_proper m = record { some = m.some; few = m.few }

pub monitors_proper : (monitors : List Monitor) → AllProper (map automaton_of monitors)
monitors_proper [] = tt
monitors_proper (m ∷ rest) = (monitor_proper m, monitors_proper rest)
