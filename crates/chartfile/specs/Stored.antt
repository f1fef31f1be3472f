-- When records can be stored as a file, what the file then is, and that it loads to exactly these records.
-- Assumes nothing.
use Rattle.std.specs.Prelude.{◌≡◌, ℕ, ◌<◌, ◌≤◌, Bool, true, false, ◌&&◌, List, [], ◌∷◌, length, Ok, nat_lt}
use Rattle.chartfile.specs.declared.store.Unstored.{Unstored}
use Rattle.chartfile.specs.declared.store.Unstored.TheVariants.{Field, TooLong, NoMemory}
use Rattle.chartfile.specs.declared.record.Record.{Record}
use Rattle.chartfile.specs.Records.{Drawing, file_bytes, watches}
use Rattle.chartfile.specs.Files.{Stand, first_of, Loaded}

-- each number fits a byte
abbrev pub fit : List ℕ → Bool
fit [] = true
fit (n ∷ rest) = nat_lt n 256 && fit rest

-- the bytes of a file, not too long
pub record Stored (records : List Record) (bytes : List ℕ) : Type 0 where
  pub bytes_are : bytes ≡ file_bytes records
  pub short : length bytes ≤ 16384

-- why records are not stored; memory may always lack
abbrev pub Unstorable : List Record → Unstored → Type 0
Unstorable records Field = fit (file_bytes records) ≡ false
Unstorable records TooLong = 16384 < length (file_bytes records)
Unstorable records NoMemory = Unit {0}

-- why bytes are not pushed
abbrev pub Unpushed : List ℕ → Unstored → Type 0
Unpushed fields Field = fit fields ≡ false
Unpushed fields TooLong = ⊥
Unpushed fields NoMemory = Unit {0}

-- records that stand, stored, load to where they lead
abbrev pub StoredFilesLoad : Type 0
StoredFilesLoad = (before after : Drawing) (records : List Record) (bytes : List ℕ) →
    first_of records ≡ false → Stand true before records after → Stored records bytes → Loaded before bytes (Ok (watches records)) after
