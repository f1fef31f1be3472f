-- Search trees over the places of each structure, and what makes them a good guide for an endless walk.
-- Assumes nothing.
use Rattle.std.specs.Prelude.{◌≡◌, true, false, cond, ◌⊎◌, ℕ, zero, suc, ◌+◌, ◌≤◌, ◌<◌}
use Rattle.hierarchy.specs.Meaning.{Meaning, box}
use Rattle.guide.specs.declared.Entry.{Entry}

-- The trees: all places reached; those reached after a mark; and the ring, which is the cycle found.
pub data Tree : Type 0 where
  plain marked ring : Tree

-- by tree, structure and place
abbrev pub Trees : Type 0
Trees = Tree → ℕ → ℕ → Entry

-- the trees, the place of each structure to go to, and the structure that has the ring
pub record Guide : Type 0 where
  pub tree : Trees
  pub aim : ℕ → ℕ
  pub home : ℕ

-- a place of a tree
pub record Vertex : Type 0 where
  pub lane : Tree
  pub spot : ℕ

abbrev pub entry_at : Trees → ℕ → Vertex → Entry
entry_at t i v = t v.lane i v.spot

-- one tree edge up: from a seed into the plain tree, else in the same tree
abbrev pub parent : Trees → ℕ → Vertex → Vertex
parent t i v = record { lane = cond (entry_at t i v).seed plain v.lane; spot = (entry_at t i v).from }

-- n tree edges up
abbrev pub up : Trees → ℕ → Vertex → ℕ → Vertex
up t i v zero = v
up t i v (suc n) = parent t i (up t i v n)

-- The hop from an entry's `from` to its place: an edge, or a leave by an exit that is reached in the inner structure.
-- The hop to a seed meets a mark: the node left is marked, or the exit is, or the exit is reached after a mark.
pub data TreeHop (m : Meaning) (t : Trees) (i : ℕ) (v : Vertex) : Type 0 where
  tree_edge : m.edge i (entry_at t i v).from v.spot ≡ true →
      ((entry_at t i v).seed ≡ true → m.mark i (entry_at t i v).from ≡ true) → TreeHop m t i v
  tree_leave : {j : ℕ} → m.place i (entry_at t i v).from ≡ box j →
      m.leave i (entry_at t i v).from (entry_at t i v).via v.spot ≡ true →
      (t plain j (entry_at t i v).via).reached ≡ true →
      ((entry_at t i v).seed ≡ true → (m.mark j (entry_at t i v).via ≡ true) ⊎ ((t marked j (entry_at t i v).via).reached ≡ true)) →
      TreeHop m t i v

-- Why place u of structure i is reached in a tree, where the ring starts from place c: as the root; as a child, one
-- deeper than its parent in the same tree; or as a seed, one deeper than its parent in the plain tree, or in the ring.
pub data Sound (m : Meaning) (t : Trees) (c i u : ℕ) : Tree → Type 0 where
  root : (t plain i u).depth ≡ 0 → u ≡ m.entry i → Sound m t c i u plain
  child : {l : Tree} {k : ℕ} → (t l i u).depth ≡ suc k → (t l i u).seed ≡ false →
      TreeHop m t i (record { lane = l; spot = u }) →
      (t l i (t l i u).from).reached ≡ true → (t l i (t l i u).from).depth ≡ k → Sound m t c i u l
  marked_seed : {k : ℕ} → (t marked i u).depth ≡ suc k → (t marked i u).seed ≡ true →
      TreeHop m t i (record { lane = marked; spot = u }) →
      (t plain i (t marked i u).from).reached ≡ true → (t plain i (t marked i u).from).depth ≡ k → Sound m t c i u marked
  ring_seed : (t ring i u).depth ≡ 1 → (t ring i u).seed ≡ true → TreeHop m t i (record { lane = ring; spot = u }) →
      (t ring i u).from ≡ c → Sound m t c i u ring

-- the rows that are read: each structure has its own, the ring has one
abbrev pub Row : Meaning → Guide → Tree → ℕ → Type 0
Row m g plain i = i < m.structures
Row m g marked i = i < m.structures
Row m g ring i = i ≡ g.home

-- structure i leads to the home of the ring by the aims, each a box that is reached but the last
pub data Chain (m : Meaning) (g : Guide) : ℕ → Type 0 where
  arrived : {i : ℕ} → i ≡ g.home → (g.tree plain i (g.aim i)).reached ≡ true → Chain m g i
  further : {i j : ℕ} → (g.tree plain i (g.aim i)).reached ≡ true → m.place i (g.aim i) ≡ box j → Chain m g j → Chain m g i

-- A good guide: what is reached is soundly reached, no tree is deeper than two rows of places, the ring comes back to
-- where it starts, and the aims lead to it.
pub record Good (m : Meaning) (g : Guide) : Type 0 where
  pub sound : (l : Tree) (i u : ℕ) → Row m g l i → (g.tree l i u).reached ≡ true → Sound m g.tree (g.aim g.home) i u l
  pub shallow : (l : Tree) (i u : ℕ) → Row m g l i → (g.tree l i u).reached ≡ true → (g.tree l i u).depth ≤ m.places + m.places
  pub back : (g.tree ring g.home (g.aim g.home)).reached ≡ true
  pub chain : Chain m g 0
