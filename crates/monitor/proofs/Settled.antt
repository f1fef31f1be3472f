-- What the edit that makes a state accepting gives, by whether one of its tests holds.
-- Assumes nothing.
use Rattle.std.proofs.Common.{◌≡◌, ℕ, ◌<◌, true, false, Ok, Err}
use Rattle.std.proofs.lemmas.Bool.{lt-ltb}
use Rattle.hierarchy.specs.declared.refusal.Refusal.TheVariants.{AlreadyThere}
use Rattle.monitor.specs.Automata.{Automaton}
use Rattle.monitor.specs.Edits.{accept_edit, with_accepting}

pub accept_goes : (a : Automaton) (q : ℕ) → q < a.states → a.accepting q ≡ false → accept_edit a q ≡ record { automaton = with_accepting q a; answer = Ok tt }
accept_goes a q h e = rw (lt-ltb q a.states h, e)

pub accept_again : (a : Automaton) (q : ℕ) → q < a.states → a.accepting q ≡ true → accept_edit a q ≡ record { automaton = a; answer = Err AlreadyThere }
accept_again a q h e = rw (lt-ltb q a.states h, e)
