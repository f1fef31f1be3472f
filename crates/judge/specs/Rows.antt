-- What a finished row of the guide says, in terms of the hierarchy alone.
-- Assumes nothing.
use Rattle.std.specs.Prelude.{◌≡◌, ℕ, ◌+◌, ◌<◌, ◌≤◌, true, false, ◌↔◌, List}
use Rattle.hierarchy.specs.Meaning.{Meaning, box}
use Rattle.theory.specs.Hops.{Pass, PassMarked, Hop, HopMarked, Hops}
use Rattle.guide.specs.declared.Entry.{Entry}
use Rattle.guide.specs.declared.Lane.TheVariants.{Plain, Marked}
use Rattle.guide.specs.Layout.{Table, look}
use Rattle.guide.specs.declared.GuideRecord.{GuideRecord}
use Rattle.judge.specs.Tables.{Stands}
use Rattle.judge.specs.Spread.{finished}

-- a hop from u to w, by the exit e if u is a box; a marked one
pub data HopBy (m : Meaning) (i u e w : ℕ) : Type 0 where
  on : m.edge i u w ≡ true → HopBy m i u e w
  by : {j : ℕ} → m.place i u ≡ box j → Pass m j e → m.leave i u e w ≡ true → HopBy m i u e w

pub data HopMarkedBy (m : Meaning) (i u e w : ℕ) : Type 0 where
  on! : m.mark i u ≡ true → m.edge i u w ≡ true → HopMarkedBy m i u e w
  by! : {j : ℕ} → m.place i u ≡ box j → PassMarked m j e → m.leave i u e w ≡ true → HopMarkedBy m i u e w

-- what speaks for a place at which a search starts, by the place and its entry
abbrev pub Start : Type 1
Start = ℕ → Entry → Type 0

-- why a place is reached: as a start, for which Q speaks, or by a hop from a place that is one less deep
pub data Rooted (m : Meaning) (i : ℕ) (Q : Start) (row : ℕ → Entry) (u : ℕ) : Type 0 where
  root : Q u (finished (row u)) → Rooted m i Q row u
  twig : {p e : ℕ} → (row u).from ≡ p → (row u).via ≡ e → (row u).seed ≡ false → (row p).reached ≡ true → (row u).depth ≡ (row p).depth + 1 → HopBy m i p e u → Rooted m i Q row u

-- a row that is searched to its end, no deeper than k
pub record Filled (m : Meaning) (i : ℕ) (Q : Start) (k : ℕ) (row : ℕ → Entry) : Type 0 where
  pub tree : (u : ℕ) → (row u).reached ≡ true → Rooted m i Q row u
  pub closed : (u w : ℕ) → (row u).reached ≡ true → Hop m i u w → (row w).reached ≡ true
  pub shallow : (u : ℕ) → (row u).reached ≡ true → (row u).depth < k

-- ---- the plain lane of structure i starts at the entry
abbrev pub at_entry : Meaning → ℕ → Start
at_entry m i u x = (x.depth ≡ 0) × (u ≡ m.entry i)

pub record PlainRow (m : Meaning) (i : ℕ) (row : ℕ → Entry) : Type 0 where
  pub right : (u : ℕ) → ((row u).reached ≡ true) ↔ Hops m i (m.entry i) u
  pub filled : Filled m i (at_entry m i) m.places row

-- the plain lanes from structure i on are right
abbrev pub From : Meaning → ℕ → Table → Type 0
From m i T = (j : ℕ) → i ≤ j → j < m.structures → PlainRow m j (T Plain j)

-- ---- the marked lane starts with seeds: the targets of marked hops
pub record SeedAt (m : Meaning) (i d u : ℕ) (x : Entry) : Type 0 where
  pub depth : x.depth ≡ d
  pub seed : x.seed ≡ true
  pub hop : HopMarkedBy m i x.from x.via u

-- from the place v, at the depth d
abbrev pub from_one : Meaning → ℕ → ℕ → ℕ → Start
from_one m i v d u x = (x.from ≡ v) × SeedAt m i d u x

-- from any place that the row has, one deeper than it
abbrev pub from_row : Meaning → ℕ → (ℕ → Entry) → Start
from_row m i row u x = ((row x.from).reached ≡ true) × SeedAt m i ((row x.from).depth + 1) u x

-- u is reached by a marked hop, and hops after it
pub record OnWay (m : Meaning) (i u : ℕ) : Type 0 where
  pub v : ℕ
  pub w : ℕ
  pub come : Hops m i (m.entry i) v
  pub go : HopMarked m i v w
  pub on : Hops m i w u

pub record MarkedRow (m : Meaning) (i : ℕ) (plain row : ℕ → Entry) : Type 0 where
  pub right : (u : ℕ) → ((row u).reached ≡ true) ↔ OnWay m i u
  pub filled : Filled m i (from_row m i plain) (m.places + m.places) row

pub record BothRows (m : Meaning) (i : ℕ) (T : Table) : Type 0 where
  pub plain : PlainRow m i (T Plain i)
  pub marked : MarkedRow m i (T Plain i) (T Marked i)

-- both lanes of each structure from i on are right
abbrev pub Behind : Meaning → ℕ → Table → Type 0
Behind m i T = (j : ℕ) → i ≤ j → j < m.structures → BothRows m j T

-- the guide has room for S structures of P places and one row behind them, and all lanes are right
pub record AllRows (m : Meaning) (g : List GuideRecord) (P S : ℕ) : Type 0 where
  pub stands : Stands g P S
  pub behind : Behind m 0 (look g P)
