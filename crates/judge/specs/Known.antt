-- Which structures are known to be reached, and through which box each became known first.
-- Assumes nothing.
use Rattle.std.specs.Prelude.{◌≡◌, ℕ, ◌<◌, Bool, true, false, ◌⊎◌, ◌≢◌}
use Rattle.hierarchy.specs.Meaning.{Meaning, box}
use Rattle.theory.specs.Hops.{Hops}
use Rattle.guide.specs.declared.Entry.{Entry}
use Rattle.guide.specs.declared.Lane.{Lane}
use Rattle.guide.specs.declared.Lane.TheVariants.{Plain, Up}
use Rattle.guide.specs.Layout.{Table}
use Rattle.judge.specs.Spread.{child}

abbrev pub known : Table → ℕ → Bool
known T j = (T Up j 0).reached

-- only the up lanes have changed
abbrev pub OnlyUp : Table → Table → Type 0
OnlyUp T T' = (c : Lane) (r u : ℕ) → (c ≢ Up) → T' c r u ≡ T c r u

-- the box b of structure i is reached and names j, and the entry x tells of it
pub record NamedBy (m : Meaning) (T : Table) (i b j : ℕ) (x : Entry) : Type 0 where
  pub is : x ≡ child i b 0
  pub reached : (T Plain i b).reached ≡ true
  pub named : m.place i b ≡ box j

-- the place b of structure i, if it is a box that is reached, has made its inner structure known
pub record ToldBy (m : Meaning) (i b : ℕ) (T T' : Table) : Type 0 where
  pub rest : OnlyUp T T'
  pub each : (j : ℕ) → (T' Up j 0 ≡ T Up j 0) ⊎ ((known T j ≡ false) × NamedBy m T i b j (T' Up j 0))
  pub all : (j : ℕ) → (T Plain i b).reached ≡ true → m.place i b ≡ box j → known T' j ≡ true

-- the reached boxes of structure i below n have made their inner structures known
pub record Shown (m : Meaning) (i n : ℕ) (T T' : Table) : Type 0 where
  pub rest : OnlyUp T T'
  pub each : (j : ℕ) → (T' Up j 0 ≡ T Up j 0) ⊎ ((known T j ≡ false) × (b : ℕ) × NamedBy m T i b j (T' Up j 0))
  pub below : (b j : ℕ) → b < n → (T Plain i b).reached ≡ true → m.place i b ≡ box j → known T' j ≡ true

-- how structure j became known: as structure 0, or through a reached box of a known structure
pub data Traced (m : Meaning) (T : Table) (j : ℕ) : Type 0 where
  outermost : j ≡ 0 → Traced m T j
  by_box : known T (T Up j 0).from ≡ true → (T Plain (T Up j 0).from (T Up j 0).via).reached ≡ true →
      m.place (T Up j 0).from (T Up j 0).via ≡ box j → Traced m T j

-- what is known once the structures below n are gone through
pub record Knows (m : Meaning) (n : ℕ) (T : Table) : Type 0 where
  pub top : known T 0 ≡ true
  pub sound : (j : ℕ) → j < m.structures → known T j ≡ true → Traced m T j
  pub below : (i b j : ℕ) → i < n → known T i ≡ true → (T Plain i b).reached ≡ true → m.place i b ≡ box j → known T j ≡ true

-- the same of all structures
abbrev pub AllKnown : Meaning → Table → Type 0
AllKnown m T = Knows m m.structures T

-- r says whether X holds
pub record Decides (r : Bool) (X : Type 0) : Type 0 where
  pub sure : r ≡ true → X
  pub never : r ≡ false → X → ⊥

-- a marked place that is reached in structure i
pub record MarkIn (m : Meaning) (i : ℕ) : Type 0 where
  pub u : ℕ
  pub come : Hops m i (m.entry i) u
  pub mark : m.mark i u ≡ true
