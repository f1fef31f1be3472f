-- A refused call alters nothing, whichever record it is.
-- No contract leans on it: it is the law of records beside what `perform` promises of the values.
-- Assumes nothing.
use Rattle.std.proofs.Common.{◌≡◌, ℕ, true, false, cond, is_ok, Some, None, Err, Option, Result, refl, ap, ap₂, arith}
use Rattle.hierarchy.specs.declared.refusal.Refusal.{Refusal}
use Rattle.hierarchy.specs.Refusals.{first}
use Rattle.sheet.specs.declared.Edit.{Edit}
use Rattle.sheet.specs.declared.Edit.TheVariants.{Node, Box, Exit, Look, Edge, Leave, Unedge, Unleave}
use Rattle.sheet.specs.Sheet.{Sheet}
use Rattle.sheet.specs.Edits as sheets
use Rattle.sheet.specs.Replay.{applied, some, none as none_told}
use Rattle.monitor.specs.declared.replay.MonitorEdit.{MonitorEdit}
use Rattle.monitor.specs.declared.replay.MonitorEdit.TheVariants.{State, Step, Accept}
use Rattle.monitor.specs.Automata.{Automaton}
use Rattle.monitor.specs.Edits as automata
use Rattle.monitor.specs.Edits.{new_automaton}
use Rattle.monitor.specs.Replay as automata_replay
use Rattle.chartfile.specs.declared.record.Record.{Record}
use Rattle.chartfile.specs.declared.record.Record.TheVariants.{Begin, Draw, Watch}
use Rattle.chartfile.specs.Records.{Drawing, performed, settled}

sheet_kept : {X : Type 0} (o : Option Refusal) (s t : Sheet) (x : X) (r : Refusal) → (sheets.settle o s t x).answer ≡ Err r → (sheets.settle o s t x).sheet ≡ s
sheet_kept None s t x r e = let z : ◌≡◌ {A = ℕ} 0 1 = cc in absurd (omega arith)
sheet_kept (Some q) s t x r e = refl

place_kept : (o : Option Refusal) (s t : Sheet) (n : ℕ) (r : Refusal) → settled (some (sheets.settle o s t n).answer) ≡ Err r → (sheets.settle o s t n).sheet ≡ s
place_kept None s t n r e = let z : ◌≡◌ {A = ℕ} 0 1 = cc in absurd (omega arith)
place_kept (Some q) s t n r e = refl

arrow_kept : (o : Option Refusal) (s t : Sheet) (r : Refusal) → settled (none_told (sheets.settle {X = Unit {0}} o s t (tt {0})).answer) ≡ Err r → (sheets.settle {X = Unit {0}} o s t (tt {0})).sheet ≡ s
arrow_kept None s t r e = let z : ◌≡◌ {A = ℕ} 0 1 = cc in absurd (omega arith)
arrow_kept (Some q) s t r e = refl

edit_kept : (s : Sheet) (e : Edit) (r : Refusal) → settled (applied s e).answer ≡ Err r → (applied s e).sheet ≡ s
edit_kept s (Node i l) r h = place_kept (first (sheets.node_refusals s i l)) s _ _ r h
edit_kept s (Box i j) r h = place_kept (first (sheets.box_refusals s i j)) s _ _ r h
edit_kept s (Exit i p) r h = arrow_kept (first (sheets.exit_refusals s i p)) s _ r h
edit_kept s (Look i p l) r h = arrow_kept (first (sheets.look_refusals s i p l)) s _ r h
edit_kept s (Edge i p w) r h = arrow_kept (first (sheets.edge_refusals s i p w true)) s _ r h
edit_kept s (Leave i b e w) r h = arrow_kept (first (sheets.leave_refusals s i b e w true)) s _ r h
edit_kept s (Unedge i p w) r h = arrow_kept (first (sheets.edge_refusals s i p w false)) s _ r h
edit_kept s (Unleave i b e w) r h = arrow_kept (first (sheets.leave_refusals s i b e w false)) s _ r h

automaton_kept : (o : Option Refusal) (a b : Automaton) (r : Refusal) → (automata.settled {X = Unit {0}} o a b (tt {0})).answer ≡ Err r → (automata.settled {X = Unit {0}} o a b (tt {0})).automaton ≡ a
automaton_kept None a b r e = let z : ◌≡◌ {A = ℕ} 0 1 = cc in absurd (omega arith)
automaton_kept (Some q) a b r e = refl

state_kept : (o : Option Refusal) (a b : Automaton) (n : ℕ) (r : Refusal) → automata_replay.done (automata.settled o a b n).answer ≡ Err r → (automata.settled o a b n).automaton ≡ a
state_kept None a b n r e = let z : ◌≡◌ {A = ℕ} 0 1 = cc in absurd (omega arith)
state_kept (Some q) a b n r e = refl

monitor_edit_kept : (a : Automaton) (e : MonitorEdit) (r : Refusal) → (automata_replay.applied a e).answer ≡ Err r → (automata_replay.applied a e).automaton ≡ a
monitor_edit_kept a State r h = state_kept (first (automata.state_refusals a)) a _ _ r h
monitor_edit_kept a (Step q care value t) r h = automaton_kept (first (automata.step_refusals a q care value t)) a _ r h
monitor_edit_kept a (Accept q) r h = automaton_kept (first (automata.accept_refusals a q)) a _ r h

pub refused_unchanged : (d : Drawing) (c : Record) (r : Refusal) → (performed d c).answer ≡ Err r → (performed d c).drawing ≡ d
refused_unchanged d (Begin n) r h =
    let a : cond (is_ok (sheets.begin d.sheet n).answer) new_automaton d.automaton ≡ d.automaton
    = ap (λ (o : Result (Unit {0}) Refusal). cond (is_ok o) new_automaton d.automaton) h in
    let e : (sheets.begin d.sheet n).sheet ≡ d.sheet = sheet_kept (first (sheets.begin_refusals n)) d.sheet _ _ r h in
    ap₂ (λ (s : Sheet) (q : Automaton). record { sheet = s; automaton = q }) e a
refused_unchanged d (Draw e) r h = ap (λ (s : Sheet). record { sheet = s; automaton = d.automaton }) (edit_kept d.sheet e r h)
refused_unchanged d (Watch e) r h = ap (λ (q : Automaton). record { sheet = d.sheet; automaton = q }) (monitor_edit_kept d.automaton e r h)
