-- A structure seen from inside it alone: hops between its places, and what hops say of the flat form.
-- Assumes nothing.
use Rattle.std.specs.Prelude.{◌≡◌, ℕ, true}
use Rattle.hierarchy.specs.Meaning.{Meaning, node, box}
use Rattle.hierarchy.specs.Flat.{State, at, within, Step, Marked, Star, Reach, initial}

-- a path from a to c that meets a state of M, the ends included
pub record Meets {X : Type 0} (R : X → X → Type 0) (M : X → Type 0) (a c : X) : Type 0 where
  pub met : X
  pub before : Star R a met
  pub there : M met
  pub after : Star R met c

-- the exit e of structure j is reachable from j's entry; by a path that meets a mark
pub record Pass (m : Meaning) (j e : ℕ) : Type 0 where
  pub exits : m.exits j e ≡ true
  pub path : Reach m j (at e)

pub record PassMarked (m : Meaning) (j e : ℕ) : Type 0 where
  pub exits : m.exits j e ≡ true
  pub path : Meets (Step m j) (Marked m j) (initial m j) (at e)

-- a hop from the place u to the place w of structure i: an edge, or passing a box by an exit that its inner entry
-- reaches and a leave
pub data Hop (m : Meaning) (i u w : ℕ) : Type 0 where
  over : m.edge i u w ≡ true → Hop m i u w
  through : {j e : ℕ} → m.place i u ≡ box j → Pass m j e → m.leave i u e w ≡ true → Hop m i u w

-- a hop that meets a mark: from a marked node, or passing a box by a path that meets one
pub data HopMarked (m : Meaning) (i u w : ℕ) : Type 0 where
  over! : m.mark i u ≡ true → m.edge i u w ≡ true → HopMarked m i u w
  through! : {j e : ℕ} → m.place i u ≡ box j → PassMarked m j e → m.leave i u e w ≡ true → HopMarked m i u w

abbrev pub Hops : Meaning → ℕ → ℕ → ℕ → Type 0
Hops m i = Star (Hop m i)

-- a structure that is reached from structure 0 through boxes that are reached
pub data Reached (m : Meaning) : ℕ → Type 0 where
  top : Reached m 0
  by_box : {i b j : ℕ} → Reached m i → Hops m i (m.entry i) b → m.place i b ≡ box j → Reached m j

-- what the hops from the place u of structure i say of a state
pub data HopReach (m : Meaning) (i u : ℕ) : State → Type 0 where
  a_node : {n : ℕ} → m.place i n ≡ node → Hops m i u n → HopReach m i u (at n)
  in_box : {b j : ℕ} {s : State} → Hops m i u b → m.place i b ≡ box j → Reach m j s → HopReach m i u (within b s)

-- what the hops say of a pass that meets a mark
pub data HopPass (m : Meaning) (j e : ℕ) : Type 0 where
  at_end : Hops m j (m.entry j) e → m.mark j e ≡ true → HopPass m j e
  on_way : {u w : ℕ} → Hops m j (m.entry j) u → HopMarked m j u w → Hops m j w e → HopPass m j e

-- a marked round of hops in a reached structure, and a marked node that hops reach in one
pub record MarkedRound (m : Meaning) : Type 0 where
  pub structure : ℕ
  pub reached : Reached m structure
  pub from : ℕ
  pub to : ℕ
  pub come : Hops m structure (m.entry structure) from
  pub go : HopMarked m structure from to
  pub back : Hops m structure to from

pub record MarkedNode (m : Meaning) : Type 0 where
  pub structure : ℕ
  pub reached : Reached m structure
  pub place : ℕ
  pub come : Hops m structure (m.entry structure) place
  pub noded : m.place structure place ≡ node
  pub marked : m.mark structure place ≡ true
