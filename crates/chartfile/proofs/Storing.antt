-- A file stored record by record, byte by byte; and that it loads.
use Rattle.std.proofs.Common.{◌≡◌, ℕ, ◌<◌, Bool, true, false, ◌&&◌, ltb, List, [], ◌∷◌, ◌++◌, length, get_or, sym, refl, ap, ◌∙◌}
use Rattle.std.proofs.lemmas.List.{append-nil}
use Rattle.std.proofs.lemmas.List.Recursion.{and_fails_at}
use Rattle.chartfile.specs.declared.store.Unstored.{Unstored}
use Rattle.chartfile.specs.declared.store.Unstored.TheVariants.{Field, TooLong, NoMemory}
use Rattle.chartfile.specs.declared.record.Record.{Record}
use Rattle.chartfile.specs.Records.{record_bytes, file_bytes}
use Rattle.chartfile.specs.Files.{whole, short}
use Rattle.chartfile.specs.Stored.{fit, Unstorable, Unpushed, StoredFilesLoad}

fit-append : (xs ys : List ℕ) → fit (xs ++ ys) ≡ (fit xs && fit ys)
fit-append [] ys = refl
fit-append (x ∷ xs) ys = ap (λ b. ltb x 256 && b) (fit-append xs ys) ∙ and_assoc (ltb x 256) (fit xs) (fit ys)
  where
    and_assoc : (a b c : Bool) → (a && (b && c)) ≡ ((a && b) && c)
    and_assoc true b c = refl
    and_assoc false b c = refl

-- a record that is not pushed is why the file is not stored
pub not_stored : (rs : List Record) (i : ℕ) (d : Record) (e : Unstored) → i < length rs → Unpushed (record_bytes (get_or rs i d)) e → Unstorable rs e
not_stored rs i d Field l u =
    and_fails_at (λ (rs : List Record). fit (file_bytes rs)) (λ (r : Record). fit (record_bytes r)) refl
    (λ r rs. fit-append (record_bytes r) (file_bytes rs)) rs i d l u
not_stored rs i d TooLong l u = absurd u
not_stored rs i d NoMemory l u = tt

pub stored_files_load_lem : StoredFilesLoad
stored_files_load_lem before after records bytes n s x =
    short x.short (record {
      records = records;
      rest = [];
      split = x.bytes_are ∙ sym (append-nil (file_bytes records));
      stand = s;
      ends = whole n;
    })
