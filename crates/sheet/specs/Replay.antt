-- Edits as values, and the sheet after a list of them: whatever their order and number, and whichever are refused.
-- Assumes nothing.
use Rattle.std.specs.Prelude.{ℕ, true, false, List, [], ◌∷◌, Some, None, Ok, Err, Option, Result}
use Rattle.hierarchy.specs.declared.refusal.Refusal.{Refusal}
use Rattle.sheet.specs.declared.Edit.{Edit}
use Rattle.sheet.specs.declared.Edit.TheVariants.{Node, Box, Exit, Look, Edge, Leave, Unedge, Unleave}
use Rattle.sheet.specs.Sheet.{Sheet}
use Rattle.sheet.specs.Edits.{Outcome}
use Rattle.sheet.specs.Edits as edits

-- the answer is the new place's number for node and box, none for the others
abbrev pub some : Result ℕ Refusal → Result (Option ℕ) Refusal
some (Ok n) = Ok (Some n)
some (Err r) = Err r

abbrev pub none : Result (Unit {0}) Refusal → Result (Option ℕ) Refusal
none (Ok _) = Ok None
none (Err r) = Err r

abbrev pub placed : Outcome ℕ → Outcome (Option ℕ)
placed o = record { sheet = o.sheet; answer = some o.answer }

abbrev pub done : Outcome (Unit {0}) → Outcome (Option ℕ)
done o = record { sheet = o.sheet; answer = none o.answer }

abbrev pub applied : Sheet → Edit → Outcome (Option ℕ)
applied s (Node i look) = placed (edits.node s i look)
applied s (Box i inner) = placed (edits.box s i inner)
applied s (Exit i p) = done (edits.exit s i p)
applied s (Look i p look) = done (edits.relook s i p look)
applied s (Edge i p w) = done (edits.set_edge_lem s i p w true)
applied s (Leave i b e w) = done (edits.set_leave_lem s i b e w true)
applied s (Unedge i p w) = done (edits.set_edge_lem s i p w false)
applied s (Unleave i b e w) = done (edits.set_leave_lem s i b e w false)

abbrev pub replayed : Sheet → List Edit → Sheet
replayed s [] = s
replayed s (e ∷ es) = replayed (applied s e).sheet es
