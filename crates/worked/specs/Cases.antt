-- What is claimed of a chart, bare or under monitors, and of one edit more; and when a list of such cases holds.
-- Assumes nothing.
use Rattle.std.specs.Prelude.{◌≡◌, ℕ, Bool, true, false, ◌&&◌, List, [], ◌∷◌, map, is_ok, Some, None, Option}
use Rattle.std.specs.Result.{result_err}
use Rattle.hierarchy.specs.Meaning.{Meaning}
use Rattle.hierarchy.specs.Flat.{Reaches, Recurs}
use Rattle.hierarchy.specs.Answers.{size_told, fits}
use Rattle.hierarchy.specs.Refusals.{refusal_number}
use Rattle.hierarchy.specs.declared.refusal.Refusal.{Refusal}
use Rattle.sheet.specs.declared.Edit.{Edit}
use Rattle.sheet.specs.Sheet.{Sheet, meaning_of}
use Rattle.sheet.specs.Edits.{begin, begun}
use Rattle.sheet.specs.Replay.{applied, replayed}
use Rattle.monitor.specs.declared.replay.MonitorEdit.{MonitorEdit}
use Rattle.monitor.specs.Automata.{Automaton}
use Rattle.monitor.specs.Edits.{new_automaton}
use Rattle.monitor.specs.Product.{laid}
use Rattle.monitor.specs.Replay.{made}
use Rattle.monitor.specs.Replay as monitor
use Rattle.judge.specs.Verdicts.{judge_refusal}

pub data Claim : Type 0 where
  -- whether a marked state is reachable, and whether one can be reached from itself
  reach : Bool → Claim
  recur : Bool → Claim
  -- how many structures there are, and how many places each has
  size : ℕ → ℕ → Claim
  -- the number of the judge's refusal, whatever its guide memory
  unjudged : ℕ → Claim
  -- the number of the refusal of one edit more
  refused : Edit → ℕ → Claim

-- a chart begun with so many structures and edited, the edits of the monitors laid over it, the last one laid first, and
-- what is claimed
pub record Case : Type 0 where
  pub structures : ℕ
  pub edits : List Edit
  pub monitors : List (List MonitorEdit)
  pub claims : List Claim

abbrev pub sheet_of : Case → Sheet
sheet_of c = replayed (begun c.structures) c.edits

abbrev pub bottom_of : Case → Meaning
bottom_of c = meaning_of (sheet_of c)

abbrev pub pile_of : Case → Meaning
pile_of c = laid (map made c.monitors) (bottom_of c)

-- X holds, or does not, as it is told
abbrev pub Told : Bool → Type 0 → Type 0
Told true X = X
Told false X = X → ⊥

-- the number of a refusal, 0 for none
abbrev pub number : Option Refusal → ℕ
number None = 0
number (Some r) = refusal_number r

abbrev pub Holds : Case → Claim → Type 0
Holds c (reach told) = Told told (Reaches (pile_of c))
Holds c (recur told) = Told told (Recurs (pile_of c))
Holds c (size structures places) = size_told (pile_of c) ≡ fits structures places
Holds c (unjudged n) = (records : ℕ) → number (judge_refusal (pile_of c) records) ≡ n
Holds c (refused edit n) = number (result_err (applied (sheet_of c) edit).answer) ≡ n

abbrev pub Each : {X : Type 0} → (X → Type 0) → List X → Type 0
Each P [] = Unit {0}
Each P (x ∷ rest) = P x × Each P rest

-- the edits are accepted, one after the other
abbrev pub accepted : Sheet → List Edit → Bool
accepted s [] = true
accepted s (edit ∷ rest) = is_ok (applied s edit).answer && accepted (applied s edit).sheet rest

abbrev pub accepted_by : Automaton → List MonitorEdit → Bool
accepted_by a [] = true
accepted_by a (edit ∷ rest) = is_ok (monitor.applied a edit).answer && accepted_by (monitor.applied a edit).automaton rest

-- all that makes the case is accepted, and every claim holds
pub record Right (c : Case) : Type 0 where
  pub begins : is_ok (begin [] c.structures).answer ≡ true
  pub edited : accepted (begun c.structures) c.edits ≡ true
  pub monitored : Each (λ edits. accepted_by new_automaton edits ≡ true) c.monitors
  pub holds : Each (Holds c) c.claims
