-- What automaton a monitor's edits make, each by its arguments alone, and what each edit answers.
-- Assumes nothing.
use Rattle.std.specs.Prelude.{ℕ, ◌+◌, ◌<◌, Bool, false, not, ◌&&◌, ◌||◌, [], ◌∷◌, Some, None, Ok, Err, Option, Result, ◌==◌, bit_and, nat_lt}
use Rattle.hierarchy.specs.Refusals.{refusal_number, Refusals, first}
use Rattle.hierarchy.specs.declared.refusal.Refusal.{Refusal}
use Rattle.hierarchy.specs.declared.refusal.Refusal.TheVariants.{BadStepLetter, NoPlace, Full, AlreadyThere}
use Rattle.monitor.specs.Automata.{Automaton}

-- the numbers in a refusal list ascend, so that the first is the least
abbrev pub Ascends : Refusals → Type 0
Ascends [] = Unit {0}
Ascends (x ∷ []) = Unit {0}
Ascends (x ∷ (y ∷ rest)) = (refusal_number x.1 < refusal_number y.1) × Ascends (y ∷ rest)

-- what an edit gives: the automaton after it, and its answer
pub record Outcome (X : Type 0) : Type 0 where
  pub automaton : Automaton
  pub answer : Result X Refusal

-- a refused edit alters nothing
abbrev pub settled : {X : Type 0} → Option Refusal → Automaton → Automaton → X → Outcome X
settled None before after answer = record { automaton = after; answer = Ok answer }
settled (Some refusal) before after answer = record { automaton = before; answer = Err refusal }

-- ---- a new monitor

abbrev pub no_steps : ℕ → ℕ → ℕ → Bool
no_steps = λ _ _ _. false

abbrev pub new_automaton : Automaton
new_automaton = record { states = 1; follows = no_steps; accepting = λ _. false }

abbrev pub is_state : Automaton → ℕ → Bool
is_state a q = nat_lt q a.states

-- ---- the edit "state": adds the next state and answers its number

abbrev pub with_state : Automaton → Automaton
with_state a = record { states = a.states + 1; follows = a.follows; accepting = a.accepting }

abbrev pub state_refusals : Automaton → Refusals
state_refusals a = (not (nat_lt a.states 4), Full) ∷ []

abbrev pub state_edit : Automaton → Outcome ℕ
state_edit a = settled (first (state_refusals a)) a (with_state a) a.states

-- ---- the edit "step": for each letter a with a AND care = value, r may follow q

abbrev pub stepped : ℕ → ℕ → ℕ → ℕ → (ℕ → ℕ → ℕ → Bool) → ℕ → ℕ → ℕ → Bool
stepped q care value r follows =
    λ p a t. follows p a t || (p == q && (t == r && (nat_lt a 16 && bit_and a care == value)))

abbrev pub with_step : ℕ → ℕ → ℕ → ℕ → Automaton → Automaton
with_step q care value r a =
    record { states = a.states; follows = stepped q care value r a.follows; accepting = a.accepting }

-- care or value is above 15, or value has a bit outside care
abbrev pub bad_letters : ℕ → ℕ → Bool
bad_letters care value = nat_lt 15 care || (nat_lt 15 value || not (bit_and value care == value))

abbrev pub step_refusals : Automaton → ℕ → ℕ → ℕ → ℕ → Refusals
step_refusals a q care value r =
    (bad_letters care value, BadStepLetter) ∷ ((not (is_state a q && is_state a r), NoPlace) ∷ [])

abbrev pub step_edit : Automaton → ℕ → ℕ → ℕ → ℕ → Outcome (Unit {0})
step_edit a q care value r = settled (first (step_refusals a q care value r)) a (with_step q care value r a) tt

-- ---- the edit "accept": makes q accepting

abbrev pub with_accepting : ℕ → Automaton → Automaton
with_accepting q a = record { states = a.states; follows = a.follows; accepting = λ p. a.accepting p || (p == q) }

abbrev pub accept_refusals : Automaton → ℕ → Refusals
accept_refusals a q = (not (is_state a q), NoPlace) ∷ ((a.accepting q, AlreadyThere) ∷ [])

abbrev pub accept_edit : Automaton → ℕ → Outcome (Unit {0})
accept_edit a q = settled (first (accept_refusals a q)) a (with_accepting q a) tt
