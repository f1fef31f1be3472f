-- What is printed of a refusal, and of a fault in a chart file.
-- Assumes nothing.
use Rattle.std.specs.Prelude.{◌≡◌, ℕ, ◌≤◌, cond, List, ◌++◌, length, take, drop, Some, None, Ok, Err, codes, decimal, Option, Result, nat_lt}
use Rattle.hierarchy.specs.Refusals.{refusal_number}
use Rattle.hierarchy.specs.declared.refusal.Refusal.{Refusal}
use Rattle.hierarchy.specs.declared.refusal.Refusal.TheVariants.{TooLittleMemory}
use Rattle.chartfile.specs.declared.Fault.{Fault}
use Rattle.report.specs.Text.{line_feed}

abbrev pub refused_text : ℕ → List ℕ
refused_text number = codes "refused " ++ decimal number

-- where a fault is: its record and the offset of the record's kind byte
abbrev pub place_text : ℕ → ℕ → List ℕ
place_text record-number offset = codes " record " ++ (decimal record-number ++ (codes " byte " ++ (decimal offset ++ line_feed)))

abbrev pub refusal_line : Refusal → List ℕ
refusal_line k = refused_text (refusal_number k) ++ line_feed

abbrev pub fault_line : Fault → List ℕ
fault_line f = refused_text (refusal_number f.refusal) ++ place_text f.record f.offset

-- such a line is refused for fewer than 80 bytes of output
abbrev pub line_refusal : ℕ → Option Refusal
line_refusal bytes = cond (nat_lt bytes 80) (Some TooLittleMemory) None

-- the first n bytes of memory are the text, and those behind keep what they held
pub record Given (text old new : List ℕ) (n : ℕ) : Type 0 where
  pub within : n ≤ length old
  pub front : take n new ≡ text
  pub behind : drop n new ≡ drop n old

-- the text is given; a refusal alters nothing
abbrev pub Gives : List ℕ → List ℕ → List ℕ → Result ℕ Refusal → Type 0
Gives text old new (Ok n) = Given text old new n
Gives text old new (Err e) = new ≡ old
