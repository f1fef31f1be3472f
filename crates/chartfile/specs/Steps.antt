-- What reading one record of a file does, and where it stops.
-- Assumes nothing.
use Rattle.std.specs.Prelude.{◌≡◌, ℕ, Bool, List, ◌++◌, Ok}
use Rattle.hierarchy.specs.declared.refusal.Refusal.{Refusal}
use Rattle.chartfile.specs.declared.Fault.{Fault}
use Rattle.chartfile.specs.declared.record.Record.{Record}
use Rattle.chartfile.specs.Records.{Drawing, record_bytes, is_begin_lem, is_watch_lem, performed}
use Rattle.chartfile.specs.Files.{Refused}

-- a record is read in its right place, its call is accepted, and `rest` stands behind it
pub record Took (first : Bool) (d d' : Drawing) (bytes : List ℕ) (watch : Bool) (rest : List ℕ) : Type 0 where
  pub call : Record
  pub split : bytes ≡ record_bytes call ++ rest
  pub placed : is_begin_lem call ≡ first
  pub accepted : (performed d call).answer ≡ Ok tt
  pub after : d' ≡ (performed d call).drawing
  pub watched : watch ≡ is_watch_lem call

-- the next bytes are refused, and nothing is altered
pub record Stopped (first : Bool) (d d' : Drawing) (bytes : List ℕ) (r : Refusal) : Type 0 where
  pub refused : Refused first d bytes r
  pub unchanged : d' ≡ d

pub record Faulty (first : Bool) (d d' : Drawing) (bytes : List ℕ) (number offset : ℕ) (f : Fault) : Type 0 where
  pub stopped : Stopped first d d' bytes f.refusal
  pub number_is : f.«record» ≡ number
  pub offset_is : f.offset ≡ offset
