-- The nested search for a place that has a ring: places are left in depth-first order, and what a place that is left
-- leads to by a marked hop is swept once. Assumes nothing.
use Rattle.std.specs.Prelude.{◌≡◌, ℕ, ◌+◌, ◌<◌, ◌≤◌, Bool, true, false, Some, None, Option}
use Rattle.hierarchy.specs.Meaning.{Meaning}
use Rattle.theory.specs.Hops.{Hop, Hops}
use Rattle.guide.specs.declared.Entry.{Entry}
use Rattle.guide.specs.declared.Lane.TheVariants.{Plain, Marked}
use Rattle.guide.specs.Layout.{Table}
use Rattle.judge.specs.declared.table.Site.{Site}
use Rattle.judge.specs.declared.nested.Visit.{Visit}
use Rattle.judge.specs.declared.nested.Visit.TheVariants.{On, Found, End}
use Rattle.judge.specs.Spread.{here}
use Rattle.judge.specs.Search.{missing}
use Rattle.judge.specs.Ring.{Back}

-- where the depth-first order of structure i is kept
abbrev pub order_site : ℕ → ℕ → ℕ → Site
order_site S P i = record { structure = i; places = P; lane = Marked; row = S }

-- a place at which f is true and that is not reached, if there is one
abbrev pub Fresh : (ℕ → Bool) → Table → Site → Option ℕ → Type 0
Fresh f T s (Some w) = (w < s.places) × ((here T s w).reached ≡ false) × (f w ≡ true)
Fresh f T s None = (w : ℕ) → f w ≡ true → (here T s w).reached ≡ true

-- a hop from v to a place that is not reached, if there is one
abbrev pub FreshHop : Meaning → ℕ → Table → Site → Option ℕ → Type 0
FreshHop m v T s (Some w) = (w < s.places) × ((here T s w).reached ≡ false) × Hop m s.structure v w
FreshHop m v T s None = (w : ℕ) → Hop m s.structure v w → (here T s w).reached ≡ true

-- g is on the way up from v
pub data Above (row : ℕ → Entry) (g : ℕ) : ℕ → Type 0 where
  there : {v : ℕ} → g ≡ v → Above row g v
  higher : {v : ℕ} → Above row g (row v).from → Above row g v

-- how a reached place hangs in the order
pub data Hung (m : Meaning) (i : ℕ) (row : ℕ → Entry) (u : ℕ) : Type 0 where
  at_top : u ≡ m.entry i → (row u).from ≡ u → Hung m i row u
  below : (row (row u).from).reached ≡ true → Hop m i (row u).from u → (row u).depth ≡ (row (row u).from).depth + 1 →
      ((row u).done ≡ false → (row (row u).from).done ≡ false) → Hung m i row u

-- the order so far, with v the place that is being searched
pub record Order (m : Meaning) (i P v : ℕ) (row : ℕ → Entry) : Type 0 where
  pub top : (row (m.entry i)).reached ≡ true
  pub root : (row (m.entry i)).from ≡ m.entry i
  pub current : (row v).reached ≡ true
  pub busy : (row v).done ≡ false
  pub inside : (u : ℕ) → (row u).reached ≡ true → u < P
  pub come : (u : ℕ) → (row u).reached ≡ true → Hops m i (m.entry i) u
  pub hung : (u : ℕ) → (row u).reached ≡ true → Hung m i row u
  pub above : (u : ℕ) → (row u).reached ≡ true → (row u).done ≡ false → Above row u v
  pub closed : (u w : ℕ) → (row u).done ≡ true → Hop m i u w → (row w).reached ≡ true
  pub reached : (u : ℕ) → (row u).done ≡ true → (row u).reached ≡ true
  pub deep : (u : ℕ) → (row u).reached ≡ true → (row u).depth + missing (λ k. (row k).reached) P ≤ P

-- what is swept leads nowhere else, is left already, and no place that is left has a ring
pub record Swept (m : Meaning) (i P : ℕ) (order row : ℕ → Entry) : Type 0 where
  pub settled : (u : ℕ) → (row u).reached ≡ true → (row u).done ≡ true
  pub reached : (u : ℕ) → (row u).done ≡ true → (row u).reached ≡ true
  pub ranked : (u : ℕ) → (row u).reached ≡ true → (row u).depth + missing (λ k. (row k).done) P ≤ P
  pub closed : (u w : ℕ) → (row u).reached ≡ true → Hop m i u w → (row w).reached ≡ true
  pub left : (u : ℕ) → (row u).reached ≡ true → (order u).done ≡ true
  pub none : (u : ℕ) → (order u).done ≡ true → Back m i u → ⊥

-- how much is left to do
abbrev pub remaining : ℕ → (ℕ → Entry) → ℕ
remaining P row = missing (λ k. (row k).reached) P + missing (λ k. (row k).done) P

-- the order and the sweeps of row S
pub record Nested (m : Meaning) (S P i v : ℕ) (T : Table) : Type 0 where
  pub order : Order m i P v (T Marked S)
  pub swept : Swept m i P (T Marked S) (T Plain S)

-- no place that is reached has a ring
abbrev pub NoRing : Meaning → ℕ → Type 0
NoRing m i = (u : ℕ) → Hops m i (m.entry i) u → Back m i u → ⊥

-- a place that has a ring, and is reached
pub record HasRing (m : Meaning) (i u : ℕ) : Type 0 where
  pub come : Hops m i (m.entry i) u
  pub back : Back m i u

-- what a sweep from the place v tells
pub record SweptFrom (m : Meaning) (S P i v : ℕ) (T : Table) (r : Bool) : Type 0 where
  pub found : r ≡ true → Back m i v
  pub swept : r ≡ false → Swept m i P (T Marked S) (T Plain S)
  pub none : r ≡ false → Back m i v → ⊥

-- what one visit of the place v has come to
abbrev pub Visited : Meaning → ℕ → ℕ → ℕ → ℕ → Table → Table → Visit → Type 0
Visited m S P i v T T' (On w) = (w < P) × Nested m S P i w T' × (remaining P (T Marked S) ≡ remaining P (T' Marked S) + 1)
Visited m S P i v T T' Found = HasRing m i v
Visited m S P i v T T' End = NoRing m i

-- what a search for a place with a ring has found
abbrev pub Sought : Meaning → ℕ → Option ℕ → Type 0
Sought m i (Some u) = HasRing m i u
Sought m i None = NoRing m i
