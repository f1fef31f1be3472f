-- What a hierarchy is, by its meaning: its structures, places, edges and leaves.
-- And the laws that every hierarchy keeps. Assumes nothing.
use Rattle.std.specs.Prelude.{◌≡◌, ℕ, ◌<◌, ◌≤◌, Bool, true, false, ◌≢◌}

-- What a place is: absent, a node, or a box that names an inner structure.
pub data Kind : Type 0 where
  absent : Kind
  node : Kind
  box : ℕ → Kind

-- The functions are total: beyond the size they answer as the laws below say.
pub record Meaning : Type 0 where
  -- too large to be judged; then there are no structures and no places
  pub large : Bool
  -- how many structures, and how many place numbers each has
  pub structures : ℕ
  pub places : ℕ
  -- what the place p of structure i is
  pub place : ℕ → ℕ → Kind
  -- the entry of structure i
  pub entry : ℕ → ℕ
  -- whether the place p of structure i is an exit
  pub exits : ℕ → ℕ → Bool
  -- letter and mark of the place p of structure i
  pub letter : ℕ → ℕ → ℕ
  pub mark : ℕ → ℕ → Bool
  -- whether in structure i an edge goes from p to w
  pub edge : ℕ → ℕ → ℕ → Bool
  -- whether in structure i a leave goes from the box b and the exit e of its inner structure to w
  pub leave : ℕ → ℕ → ℕ → ℕ → Bool

-- The laws, one to a field.
pub record Lawful (m : Meaning) : Type 0 where
  pub empty : m.large ≡ true → (m.structures ≡ 0) × (m.places ≡ 0)
  pub sized : m.large ≡ false → (1 ≤ m.structures) × (m.structures ≤ 1024) × (1 ≤ m.places) × (m.places ≤ 1024)
  -- beyond the size every place is absent
  pub within : (i p : ℕ) → m.place i p ≢ absent → (i < m.structures) × (p < m.places)
  pub inner : (i p j : ℕ) → m.place i p ≡ box j → (i < j) × (j < m.structures)
  pub entered : (i : ℕ) → i < m.structures → m.place i (m.entry i) ≡ node
  pub no_entry : (i : ℕ) → m.structures ≤ i → m.entry i ≡ 0
  pub exit_node : (i p : ℕ) → m.exits i p ≡ true → m.place i p ≡ node
  pub letter_small : (i p : ℕ) → m.letter i p < 16
  pub letter_node : (i p : ℕ) → m.place i p ≢ node → m.letter i p ≡ 0
  pub mark_node : (i p : ℕ) → m.mark i p ≡ true → m.place i p ≡ node
  pub edge_from : (i p w : ℕ) → m.edge i p w ≡ true → m.place i p ≡ node
  pub edge_to : (i p w : ℕ) → m.edge i p w ≡ true → m.place i w ≢ absent
  pub leave_from : (i b e w : ℕ) → m.leave i b e w ≡ true → (j : ℕ) × (m.place i b ≡ box j) × (m.exits j e ≡ true)
  pub leave_to : (i b e w : ℕ) → m.leave i b e w ≡ true → m.place i w ≢ absent
