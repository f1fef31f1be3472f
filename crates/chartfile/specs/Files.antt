-- What a chart file is: records as bytes, each accepted in turn; or such records, and then a fault.
-- Assumes nothing.
use Rattle.std.specs.Prelude.{◌≡◌, ℕ, ◌+◌, ◌<◌, ◌≤◌, Bool, true, false, List, [], ◌∷◌, ◌++◌, length, Some, None, Ok, Err, Result, ◌==◌, ◌≢◌}
use Rattle.hierarchy.specs.declared.refusal.Refusal.{Refusal}
use Rattle.hierarchy.specs.declared.refusal.Refusal.TheVariants.{UnknownKind, CutRecord, FileTooLong, BeginMisplaced}
use Rattle.chart.specs.declared.chart.Chart.{Chart}
use Rattle.chart.specs.Charts.{sheet}
use Rattle.monitor.specs.declared.Monitor.{Monitor}
use Rattle.monitor.specs.Tables.{automaton_of}
use Rattle.chartfile.specs.declared.Fault.{Fault}
use Rattle.chartfile.specs.declared.record.Record.{Record}
use Rattle.chartfile.specs.Records.{Drawing, body_length, record_bytes, file_bytes, is_begin_lem, watches, performed}

abbrev pub drawing : Chart → Monitor → Drawing
drawing c m = record { sheet = sheet c; automaton = automaton_of m }

-- The records stand, one after another, from one drawing to another: the first is a begin and no other is, and each is
-- accepted. `first` says that none came before.
pub data Stand : Bool → Drawing → List Record → Drawing → Type 0 where
  none : {first : Bool} {d : Drawing} → Stand first d [] d
  then : {first : Bool} {d d' : Drawing} {c : Record} {rest : List Record} →
      is_begin_lem c ≡ first → (performed d c).answer ≡ Ok tt → Stand false (performed d c).drawing rest d' → Stand first d (c ∷ rest) d'

-- Why the bytes that come next are no record: unknown kind, then cut short.
pub data Unreadable : List ℕ → Refusal → Type 0 where
  unknown : {kind : ℕ} {rest : List ℕ} → body_length kind ≡ None → Unreadable (kind ∷ rest) UnknownKind
  cut : {kind n : ℕ} {rest : List ℕ} → body_length kind ≡ Some n → length rest < n → Unreadable (kind ∷ rest) CutRecord

-- Why the bytes that come next are refused: no record, then a begin in the wrong place or none in the first, then the
-- call's own refusal.
pub data Refused (first : Bool) (d : Drawing) (bytes : List ℕ) : Refusal → Type 0 where
  missing : first ≡ true → bytes ≡ [] → Refused first d bytes BeginMisplaced
  unreadable : {r : Refusal} → Unreadable bytes r → Refused first d bytes r
  misplaced : (c : Record) (rest : List ℕ) → bytes ≡ record_bytes c ++ rest → (is_begin_lem c ≢ first) → Refused first d bytes BeginMisplaced
  by_call : {r : Refusal} (c : Record) (rest : List ℕ) →
      bytes ≡ record_bytes c ++ rest → is_begin_lem c ≡ first → (performed d c).answer ≡ Err r → Refused first d bytes r

-- no record came before
abbrev pub first_of : List Record → Bool
first_of [] = true
first_of (c ∷ rest) = false

-- How loading ends behind the records that stand: at the end of the file, and then tells whether there is a monitor's
-- record; or at a fault in the next record, which starts where these end.
pub data Ends (records : List Record) (d : Drawing) : List ℕ → Result Bool Fault → Type 0 where
  whole : first_of records ≡ false → Ends records d [] (Ok (watches records))
  fault : {rest : List ℕ} {r : Refusal} → Refused (first_of records) d rest r →
      Ends records d rest (Err (record { refusal = r; «record» = length records + 1; offset = length (file_bytes records) }))

-- the bytes split into records that stand, from the drawing before to the one after, and the end
pub record Read (before : Drawing) (bytes : List ℕ) (answer : Result Bool Fault) (after : Drawing) : Type 0 where
  pub records : List Record
  pub rest : List ℕ
  pub split : bytes ≡ file_bytes records ++ rest
  pub stand : Stand true before records after
  pub ends : Ends records after rest answer

-- What loading a file does. A file that is too long is refused whole.
pub data Loaded (before : Drawing) (bytes : List ℕ) : Result Bool Fault → Drawing → Type 0 where
  too_long : 16384 < length bytes → Loaded before bytes (Err (record { refusal = FileTooLong; «record» = 1; offset = 0 })) before
  short : {answer : Result Bool Fault} {after : Drawing} → length bytes ≤ 16384 → Read before bytes answer after → Loaded before bytes answer after

-- the first record is at fault, so that none was accepted
abbrev pub first_faulty : Result Bool Fault → Bool
first_faulty (Ok watched) = false
first_faulty (Err f) = f.«record» == 1

-- one file loads in one way
abbrev pub LoadsOneWay : Type 0
LoadsOneWay = (before after after' : Drawing) (bytes : List ℕ) (answer answer' : Result Bool Fault) →
    Loaded before bytes answer after → Loaded before bytes answer' after' → (answer ≡ answer') × (after ≡ after')
