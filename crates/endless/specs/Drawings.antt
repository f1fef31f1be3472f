-- A chart drawn from a list of edits, by its sheet alone, and why a judgment of it under monitors is refused.
-- Assumes nothing.
use Rattle.std.specs.Prelude.{ℕ, cond, not, ◌&&◌, List, Some, Option, nat_le, nat_lt}
use Rattle.hierarchy.specs.Meaning.{Meaning}
use Rattle.hierarchy.specs.declared.refusal.Refusal.{Refusal}
use Rattle.hierarchy.specs.declared.refusal.Refusal.TheVariants.{TooManyStructures}
use Rattle.monitor.specs.Automata.{Automaton}
use Rattle.sheet.specs.declared.Edit.{Edit}
use Rattle.sheet.specs.Sheet.{meaning_of}
use Rattle.sheet.specs.Edits.{begun}
use Rattle.sheet.specs.Replay.{replayed}
use Rattle.endless.specs.Judgments.{pile_lacking}

-- the hierarchy that the sheet of these edits means
abbrev pub drawn : ℕ → List Edit → Meaning
drawn structures edits = meaning_of (replayed (begun structures) edits)

-- no chart has so many structures; else what the pile lacks, by the size formulas worked from the sheet's size
abbrev pub drawing_refusal : ℕ → List Edit → List Automaton → ℕ → ℕ → Option Refusal
drawing_refusal structures edits automata records frames =
    cond (not (nat_lt 0 structures && nat_le structures 32)) (Some TooManyStructures) (pile_lacking (drawn structures edits) automata records frames)
