-- What an answer to a question tells of the meaning.
-- Assumes nothing.
use Rattle.std.proofs.Common.{◌≡◌, ℕ, ◌≤◌, Bool, true, false, cond, Option, None, Some, refl, ap, arith}
use Rattle.hierarchy.specs.Meaning.{Meaning, Kind, absent, node, box, Lawful}
use Rattle.hierarchy.specs.Answers.{place_told, size_told, fits}
use Rattle.hierarchy.specs.declared.Size.{Size}
use Rattle.hierarchy.specs.declared.Place.TheVariants.{Box}

-- ---- a place
pub told_box : (p : Kind) (j : ℕ) → Box j ≡ place_told p → p ≡ box j
told_box absent j e = absurd (let z : ◌≡◌ {A = ℕ} 0 1 = cc in omega arith)
told_box node j e = absurd (let z : ◌≡◌ {A = ℕ} 0 1 = cc in omega arith)
told_box (box i) j e = cc

-- ---- the size
abbrev rows_of : Option Size → ℕ
rows_of None = 0
rows_of (Some s) = s.structures

abbrev row_of : Option Size → ℕ
row_of None = 0
row_of (Some s) = s.places

pub fits_is : (m : Meaning) (a b : ℕ) → fits a b ≡ size_told m → (m.large ≡ false) × (a ≡ m.structures) × (b ≡ m.places)
fits_is m a b = by_large m.large m.structures m.places a b
  where
    by_large : (t : Bool) (s p a b : ℕ) → fits a b ≡ cond t None (fits s p) → (t ≡ false) × (a ≡ s) × (b ≡ p)
    by_large true s p a b e = absurd (let z : ◌≡◌ {A = ℕ} 0 1 = cc in omega arith)
    by_large false s p a b e = (refl, ap rows_of e, ap row_of e)

pub large_is : (m : Meaning) → None ≡ size_told m → m.large ≡ true
large_is m = by_large m.large m.structures m.places
  where
    by_large : (t : Bool) (s p : ℕ) → None ≡ cond t None (fits s p) → t ≡ true
    by_large true s p e = refl
    by_large false s p e = absurd (let z : ◌≡◌ {A = ℕ} 0 1 = cc in omega arith)

pub record Sized (m : Meaning) (structures places : ℕ) : Type 0 where
  pub fits : m.large ≡ false
  pub rows : structures ≡ m.structures
  pub row : places ≡ m.places
  pub few : structures ≤ 1024
  pub narrow : places ≤ 1024

pub size_fits : (m : Meaning) (s p : ℕ) → Lawful m → fits s p ≡ size_told m → Sized m s p
size_fits m s p law told =
    let is = fits_is m s p told in
    let bounds = law.sized is.0 in
    let rows : s ≡ m.structures = is.1 in
    let row : p ≡ m.places = is.2 in
    record { fits = is.0; rows = rows; row = row; few = omega arith; narrow = omega arith }
