-- The tables are empty.
use Rattle.std.proofs.Common.{ℕ, Bool, false, replicate, ap, ◌∙◌}
use Rattle.monitor.specs.Automata.{Automaton}
use Rattle.monitor.specs.Edits.{no_steps}
use Rattle.monitor.specs.Tables.{accepting_in}
use Rattle.monitor.proofs.Flags.{no_flags}
use Rattle.monitor.proofs.Monitor.new.Goals as goal

pub returns : goal.returns
returns c =
    let one : (ℕ → ℕ → ℕ → Bool) → (ℕ → Bool) → Automaton = λ f g. record { states = 1; follows = f; accepting = g } in
    ap (λ f. one f (accepting_in (replicate 4 false))) c.none.ensures ∙ ap (one no_steps) no_flags
