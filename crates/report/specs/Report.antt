-- What a report of a hierarchy answers: why it is refused, and what it prints.
-- Assumes nothing.
use Rattle.std.specs.Prelude.{◌≡◌, ℕ, ◌+◌, ◌*◌, ◌<◌, ◌≤◌, Bool, true, false, cond, ◌||◌, List, ◌++◌, length, take, drop, Some, None, Ok, Err, Option, Result, nat_lt}
use Rattle.hierarchy.specs.Meaning.{Meaning}
use Rattle.hierarchy.specs.Flat.{State, Reach, Reaches, Recurs}
use Rattle.hierarchy.specs.Runs.{Endless}
use Rattle.hierarchy.specs.declared.refusal.Refusal.{Refusal}
use Rattle.hierarchy.specs.declared.refusal.Refusal.TheVariants.{TooLittleMemory}
use Rattle.theory.specs.OneSearch.{boxes}
use Rattle.judge.specs.Known.{Decides}
use Rattle.report.specs.Text.{head_text, run_lines}

-- too few guide records, frames or output bytes for a hierarchy of this size
abbrev pub short : ℕ → ℕ → ℕ → ℕ → ℕ → Bool
short structures places records frames bytes = nat_lt records ((structures + 1) * places) || (nat_lt frames structures || nat_lt bytes 2048)

-- a report is refused for that, and for nothing else
abbrev pub report_refusal : Meaning → ℕ → ℕ → ℕ → Option Refusal
report_refusal m records frames bytes = cond (short m.structures m.places records frames bytes) (Some TooLittleMemory) None

-- The text of a report: size, reach and recur, each decided, and after a yes to recur the first six states of some
-- endless run that is marked without end.
pub record Report (m : Meaning) (text : List ℕ) : Type 0 where
  pub reach : Bool
  pub recur : Bool
  pub reach_decided : Decides reach (Reaches m)
  pub recur_decided : Decides recur (Recurs m)
  pub endless : recur ≡ true → Endless m
  pub stops : recur ≡ false → text ≡ head_text m.structures m.places reach recur
  pub walks : (yes : recur ≡ true) → text ≡ head_text m.structures m.places reach recur ++ run_lines m (endless yes).run.state 6

-- the first n bytes of memory are a report, and those behind keep what they held
pub record Printed (m : Meaning) (old new : List ℕ) (n : ℕ) : Type 0 where
  pub within : n ≤ length old
  pub text : Report m (take n new)
  pub behind : drop n new ≡ drop n old

-- a report is printed, if it is not refused
abbrev pub Prints : Meaning → List ℕ → List ℕ → Result ℕ Refusal → Type 0
Prints m old new (Ok n) = Printed m old new n
Prints m old new (Err e) = Unit {0}

-- reachable states have fewer boxes than a chart may have structures
abbrev pub FewBoxes : Meaning → Type 0
FewBoxes m = (s : State) → Reach m 0 s → boxes s < 32
