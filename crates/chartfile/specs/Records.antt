-- The records of a chart file as bytes, and what each does to a chart's sheet and a monitor's automaton.
-- Assumes nothing.
use Rattle.std.specs.Prelude.{ℕ, Bool, true, false, cond, ◌||◌, List, [], ◌∷◌, ◌++◌, is_ok, Some, None, Ok, Err, Option, Result, ◌==◌}
use Rattle.hierarchy.specs.declared.refusal.Refusal.{Refusal}
use Rattle.sheet.specs.declared.Edit.{Edit}
use Rattle.sheet.specs.declared.Edit.TheVariants.{Node, Box, Exit, Look, Edge, Leave, Unedge, Unleave}
use Rattle.sheet.specs.Sheet.{Sheet}
use Rattle.sheet.specs.Edits as sheets
use Rattle.sheet.specs.Replay as sheets_replay
use Rattle.monitor.specs.declared.replay.MonitorEdit.{MonitorEdit}
use Rattle.monitor.specs.declared.replay.MonitorEdit.TheVariants.{State, Step, Accept}
use Rattle.monitor.specs.Automata.{Automaton}
use Rattle.monitor.specs.Edits.{new_automaton}
use Rattle.monitor.specs.Replay as automata
use Rattle.chartfile.specs.declared.record.Record.{Record}
use Rattle.chartfile.specs.declared.record.Record.TheVariants.{Begin, Draw, Watch}

-- kinds of record and how many bytes the body of each has; none for an unknown kind
abbrev pub body_lengths : List (ℕ × ℕ)
body_lengths =
    (1, 1) ∷ (2, 2) ∷ (3, 2) ∷ (4, 2) ∷ (5, 3) ∷ (6, 3) ∷ (7, 4) ∷ (8, 3) ∷ (9, 4) ∷ (16, 0) ∷ (17, 4) ∷ (18, 1) ∷ []

abbrev pub look_up : ℕ → List (ℕ × ℕ) → Option ℕ
look_up kind [] = None
look_up kind (x ∷ rest) = cond (kind == x.0) (Some x.1) (look_up kind rest)

abbrev pub body_length : ℕ → Option ℕ
body_length kind = look_up kind body_lengths

-- a record as bytes: its kind and its fields, each a byte
abbrev pub edit_bytes : Edit → List ℕ
edit_bytes (Node i look) = 2 ∷ i ∷ look ∷ []
edit_bytes (Box i inner) = 3 ∷ i ∷ inner ∷ []
edit_bytes (Exit i p) = 4 ∷ i ∷ p ∷ []
edit_bytes (Look i p look) = 5 ∷ i ∷ p ∷ look ∷ []
edit_bytes (Edge i p w) = 6 ∷ i ∷ p ∷ w ∷ []
edit_bytes (Leave i b e w) = 7 ∷ i ∷ b ∷ e ∷ w ∷ []
edit_bytes (Unedge i p w) = 8 ∷ i ∷ p ∷ w ∷ []
edit_bytes (Unleave i b e w) = 9 ∷ i ∷ b ∷ e ∷ w ∷ []

abbrev pub monitor_edit_bytes : MonitorEdit → List ℕ
monitor_edit_bytes State = 16 ∷ []
monitor_edit_bytes (Step q care value r) = 17 ∷ q ∷ care ∷ value ∷ r ∷ []
monitor_edit_bytes (Accept q) = 18 ∷ q ∷ []

abbrev pub record_bytes : Record → List ℕ
record_bytes (Begin structures) = 1 ∷ structures ∷ []
record_bytes (Draw edit) = edit_bytes edit
record_bytes (Watch edit) = monitor_edit_bytes edit

abbrev pub file_bytes : List Record → List ℕ
file_bytes [] = []
file_bytes (c ∷ rest) = record_bytes c ++ file_bytes rest

abbrev pub is_begin_lem : Record → Bool
is_begin_lem (Begin structures) = true
is_begin_lem (Draw edit) = false
is_begin_lem (Watch edit) = false

-- whether one of the records is a monitor's
abbrev pub is_watch_lem : Record → Bool
is_watch_lem (Begin structures) = false
is_watch_lem (Draw edit) = false
is_watch_lem (Watch edit) = true

abbrev pub watches : List Record → Bool
watches [] = false
watches (c ∷ rest) = is_watch_lem c || watches rest

-- a chart's sheet and a monitor's automaton
pub record Drawing : Type 0 where
  pub sheet : Sheet
  pub automaton : Automaton

pub record Performed : Type 0 where
  pub drawing : Drawing
  pub answer : Result (Unit {0}) Refusal

-- accepted or refused, whatever was answered
abbrev pub settled : {X : Type 0} → Result X Refusal → Result (Unit {0}) Refusal
settled (Ok x) = Ok tt
settled (Err r) = Err r

-- what the call does that a record names; an accepted begin makes the monitor new too
abbrev pub performed : Drawing → Record → Performed
performed d (Begin structures) = record {
  drawing = record {
    sheet = (sheets.begin d.sheet structures).sheet;
    automaton = cond (is_ok (sheets.begin d.sheet structures).answer) new_automaton d.automaton;
  };
  answer = (sheets.begin d.sheet structures).answer;
}
performed d (Draw edit) = record {
  drawing = record { sheet = (sheets_replay.applied d.sheet edit).sheet; automaton = d.automaton };
  answer = settled (sheets_replay.applied d.sheet edit).answer;
}
performed d (Watch edit) = record {
  drawing = record { sheet = d.sheet; automaton = (automata.applied d.automaton edit).automaton };
  answer = (automata.applied d.automaton edit).answer;
}
