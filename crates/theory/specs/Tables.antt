-- Tables of what the entry of each structure reaches by hops, and of what it reaches behind a mark; a row looks only at
-- the rows behind it, so they are filled from the last structure up to the first. Assumes nothing.
use Rattle.std.specs.Prelude.{◌≡◌, ℕ, ◌<◌, Bool, true, ◌↔◌}
use Rattle.hierarchy.specs.Meaning.{Meaning, Lawful, box}
use Rattle.hierarchy.specs.Flat.{Star}
use Rattle.theory.specs.Hops.{HopMarked, Hops}

abbrev pub Table : Type 0
Table = ℕ → ℕ → Bool

-- a hop, where the table T tells which exits of an inner structure are reached
pub data TableHop (m : Meaning) (T : Table) (i u w : ℕ) : Type 0 where
  table_over : m.edge i u w ≡ true → TableHop m T i u w
  table_through : {j e : ℕ} → m.place i u ≡ box j → m.exits j e ≡ true → T j e ≡ true → m.leave i u e w ≡ true → TableHop m T i u w

-- row i of T tells what hops over the rows behind it reach
abbrev pub Row : Meaning → Table → ℕ → Type 0
Row m T i = (u : ℕ) → (T i u ≡ true) ↔ Star (TableHop m T i) (m.entry i) u

-- a hop that meets a mark: from a marked node; or passing a box by an exit that is reached and itself marked, or that is
-- reached behind a mark, as the table M tells
pub data TableHopMarked (m : Meaning) (T M : Table) (i u w : ℕ) : Type 0 where
  table_over! : m.mark i u ≡ true → m.edge i u w ≡ true → TableHopMarked m T M i u w
  table_end! : {j e : ℕ} → m.place i u ≡ box j → m.exits j e ≡ true → T j e ≡ true → m.mark j e ≡ true → m.leave i u e w ≡ true → TableHopMarked m T M i u w
  table_through! : {j e : ℕ} → m.place i u ≡ box j → m.exits j e ≡ true → M j e ≡ true → m.leave i u e w ≡ true → TableHopMarked m T M i u w

-- row i of M tells what hops reach behind a marked hop from a place that is reached
pub record TableBehindMark (m : Meaning) (T M : Table) (i w : ℕ) : Type 0 where
  pub from : ℕ
  pub to : ℕ
  pub come : T i from ≡ true
  pub go : TableHopMarked m T M i from to
  pub on : Star (TableHop m T i) to w

abbrev pub RowMarked : Meaning → Table → Table → ℕ → Type 0
RowMarked m T M i = (w : ℕ) → (M i w ≡ true) ↔ TableBehindMark m T M i w

-- what the place w of structure i is, if it is reached behind a mark
pub record BehindMark (m : Meaning) (i w : ℕ) : Type 0 where
  pub from : ℕ
  pub to : ℕ
  pub come : Hops m i (m.entry i) from
  pub go : HopMarked m i from to
  pub on : Hops m i to w

-- a table that is right row by row tells what hops reach
abbrev pub Tabled : Type 0
Tabled = (m : Meaning) → Lawful m → (T : Table) → ((i : ℕ) → i < m.structures → Row m T i) →
    (i : ℕ) → i < m.structures → (u : ℕ) → (T i u ≡ true) ↔ Hops m i (m.entry i) u

-- and a second one, right row by row over the first, tells what they reach behind a mark
abbrev pub TabledMarks : Type 0
TabledMarks = (m : Meaning) → Lawful m → (T M : Table) →
    ((i : ℕ) → i < m.structures → Row m T i) → ((i : ℕ) → i < m.structures → RowMarked m T M i) →
    (i : ℕ) → i < m.structures → (w : ℕ) → (M i w ≡ true) ↔ BehindMark m i w
