-- Why the bytes that come next are no record, by their first byte and by how many they are.
use Rattle.std.proofs.Common.{◌≡◌, ℕ, ◌<◌, ◌≤◌, List, [], ◌∷◌, length, get_or, Some, None, Option, unwrap_or, refl, arith}
use Rattle.std.proofs.lemmas.Bool.Decides.{nat_tests}
use Rattle.hierarchy.specs.declared.refusal.Refusal.TheVariants.{UnknownKind, CutRecord}
use Rattle.chartfile.specs.Records.{body_length}
use Rattle.chartfile.specs.Files.{Unreadable, unknown, cut}

-- fewer bytes than a record of this kind has; no kind is 0
pub cut_short : (bytes : List ℕ) → 0 < get_or bytes 0 0 → length bytes ≤ unwrap_or (body_length (get_or bytes 0 0)) 0 → Unreadable bytes CutRecord
cut_short [] h l = absurd (omega arith)
cut_short (k ∷ rest) h l = by_length (body_length k) refl l
  where
    by_length : (wanted : Option ℕ) → body_length k ≡ wanted → length (k ∷ rest) ≤ unwrap_or wanted 0 → Unreadable (k ∷ rest) CutRecord
    by_length None e l = absurd (omega arith)
    by_length (Some n) e l = cut {n = n} e (omega arith)

pub unknown_kind : (bytes : List ℕ) → 0 < length bytes → body_length (get_or bytes 0 0) ≡ None → Unreadable bytes UnknownKind
unknown_kind [] h e = absurd (omega arith)
unknown_kind (k ∷ rest) h e = unknown e

-- what the check lists for each record that is cut short
pub ruleset too_short = (nat_tests, cut_short)
