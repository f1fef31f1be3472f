-- What is told of a file lies within the output.
-- Assumes nothing.
use Rattle.std.proofs.Common.{ℕ, ◌≤◌, Bool, List, Some, None, Ok, Err, Option, Result, length, arith}
use Rattle.std.specs.Result.{result_unwrap_or}
use Rattle.hierarchy.specs.Meaning.{Meaning}
use Rattle.hierarchy.specs.declared.refusal.Refusal.{Refusal}
use Rattle.chartfile.specs.declared.Fault.{Fault}
use Rattle.chartfile.specs.Records.{Drawing}
use Rattle.report.specs.FileReports.{Tells, TellsLoaded, PrintsFile}

tells_within : (m : Meaning) (o : Option Refusal) (old new : List ℕ) (n : ℕ) → Tells m o old new n → n ≤ length old
tells_within m None old new n t = t.within
tells_within m (Some refusal) old new n t = t.within

loaded_within : (r : Result Bool Fault) (d : Drawing) (records frames : ℕ) (old new : List ℕ) (n : ℕ) → TellsLoaded r d records frames old new n → n ≤ length old
loaded_within (Ok watched) d records frames old new n t = tells_within _ _ old new n t
loaded_within (Err fault) d records frames old new n t = t.within

pub count_within : (r : Result ℕ Refusal) (bytes : List ℕ) (records frames : ℕ) (old new : List ℕ) → PrintsFile bytes records frames old new r → result_unwrap_or r 0 ≤ length old
count_within (Ok n) bytes records frames old new t = loaded_within t.answer t.after records frames old new n t.told
count_within (Err refusal) bytes records frames old new t = omega arith
