-- The automaton that a list of edits makes.
-- Assumes nothing.
use Rattle.std.specs.Prelude.{ℕ, List, [], ◌∷◌, Ok, Err, Result}
use Rattle.hierarchy.specs.declared.refusal.Refusal.{Refusal}
use Rattle.monitor.specs.Automata.{Automaton}
use Rattle.monitor.specs.Edits.{Outcome, new_automaton, state_edit, step_edit, accept_edit}
use Rattle.monitor.specs.declared.replay.MonitorEdit.{MonitorEdit}
use Rattle.monitor.specs.declared.replay.MonitorEdit.TheVariants.{State, Step, Accept}

-- accepted or refused, without the number of a state
abbrev pub done : Result ℕ Refusal → Result (Unit {0}) Refusal
done (Ok number) = Ok tt
done (Err refusal) = Err refusal

abbrev pub applied : Automaton → MonitorEdit → Outcome (Unit {0})
applied a State = record { automaton = (state_edit a).automaton; answer = done (state_edit a).answer }
applied a (Step q care value r) = step_edit a q care value r
applied a (Accept q) = accept_edit a q

abbrev pub replayed : Automaton → List MonitorEdit → Automaton
replayed a [] = a
replayed a (edit ∷ rest) = replayed (applied a edit).automaton rest

-- the automaton of a monitor, by its edits since it was last new
abbrev pub made : List MonitorEdit → Automaton
made edits = replayed new_automaton edits
