-- What is printed for a chart file: the report of what it draws, the line of why there is none, or that of its fault.
-- Assumes nothing.
use Rattle.std.specs.Prelude.{ℕ, Bool, cond, List, length, Some, None, Ok, Err, Option, Result, nat_lt}
use Rattle.hierarchy.specs.Meaning.{Meaning}
use Rattle.hierarchy.specs.declared.refusal.Refusal.{Refusal}
use Rattle.hierarchy.specs.declared.refusal.Refusal.TheVariants.{TooLittleMemory}
use Rattle.sheet.specs.Edits.{begun}
use Rattle.monitor.specs.Edits.{new_automaton}
use Rattle.chartfile.specs.Records.{Drawing}
use Rattle.chartfile.specs.Files.{Loaded}
use Rattle.chartfile.specs.declared.Fault.{Fault}
use Rattle.report.specs.Judged.{judged_as}
use Rattle.report.specs.Report.{report_refusal, Printed}
use Rattle.report.specs.Refused.{refusal_line, fault_line, Given}

-- it is refused for fewer than 2,048 bytes of output, and for nothing else
abbrev pub file_refusal : ℕ → Option Refusal
file_refusal bytes = cond (nat_lt bytes 2048) (Some TooLittleMemory) None

-- a file is loaded into a new chart and a new monitor
abbrev pub blank : Drawing
blank = record { sheet = begun 1; automaton = new_automaton }

-- The first n bytes of memory are the report of a hierarchy, or the line of why there is none, and those behind keep
-- what they held.
abbrev pub Tells : Meaning → Option Refusal → List ℕ → List ℕ → ℕ → Type 0
Tells m None old new n = Printed m old new n
Tells m (Some refusal) old new n = Given (refusal_line refusal) old new n

-- the same, with so many guide records and frames
abbrev pub TellsJudged : Meaning → ℕ → ℕ → List ℕ → List ℕ → ℕ → Type 0
TellsJudged m records frames old new n = Tells m (report_refusal m records frames (length old)) old new n

-- the same of what a file draws, or else the line of its fault, by what loading it answers and leaves
abbrev pub TellsLoaded : Result Bool Fault → Drawing → ℕ → ℕ → List ℕ → List ℕ → ℕ → Type 0
TellsLoaded (Ok watched) d records frames old new n = TellsJudged (judged_as d watched) records frames old new n
TellsLoaded (Err fault) d records frames old new n = Given (fault_line fault) old new n

pub record TellsFile (bytes : List ℕ) (records frames : ℕ) (old new : List ℕ) (n : ℕ) : Type 0 where
  pub answer : Result Bool Fault
  pub after : Drawing
  pub loaded : Loaded blank bytes answer after
  pub told : TellsLoaded answer after records frames old new n

-- the file is told of, if the call is not refused
abbrev pub PrintsFile : List ℕ → ℕ → ℕ → List ℕ → List ℕ → Result ℕ Refusal → Type 0
PrintsFile bytes records frames old new (Ok n) = TellsFile bytes records frames old new n
PrintsFile bytes records frames old new (Err refusal) = Unit {0}
