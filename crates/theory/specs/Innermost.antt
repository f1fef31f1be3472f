-- The flat form read from inside: a list of boxes, outermost first, and then a node; a transition follows an edge inside the
-- innermost structure, or a leave of the innermost box when the node is that leave's exit. Assumes nothing.
use Rattle.std.specs.Prelude.{◌≡◌, ℕ, true, false, ◌↔◌, List, [], ◌∷◌, ◌++◌}
use Rattle.hierarchy.specs.Meaning.{Meaning, node, box, Lawful}
use Rattle.hierarchy.specs.Flat.{State, at, within, last_structure, last_node, Step, Reach}

pub record ListState : Type 0 where
  pub boxes : List ℕ
  pub last : ℕ

-- each box names the structure of what follows it: from structure i the boxes lead into structure k
pub data Into (m : Meaning) : ℕ → List ℕ → ℕ → Type 0 where
  there : {i : ℕ} → Into m i [] i
  through : {i b j k : ℕ} {bs : List ℕ} → m.place i b ≡ box j → Into m j bs k → Into m i (b ∷ bs) k

-- the boxes lead into a structure, and the last is a node of it
pub record FlatState (m : Meaning) (i : ℕ) (s : ListState) : Type 0 where
  pub structure : ℕ
  pub into : Into m i s.boxes structure
  pub noded : m.place structure s.last ≡ node

-- moving, behind the boxes bs, to the place w of their innermost structure k: to a node goes there, to a box goes to its
-- inner entry
pub data Arrive (m : Meaning) (k : ℕ) (bs : List ℕ) (w : ℕ) (t : ListState) : Type 0 where
  at_node : m.place k w ≡ node → t ≡ record { boxes = bs; last = w } → Arrive m k bs w t
  at_entry : {j : ℕ} → m.place k w ≡ box j → t ≡ record { boxes = bs ++ (w ∷ []); last = m.entry j } → Arrive m k bs w t

-- a transition, of the flat form of structure i
pub data Move (m : Meaning) (i : ℕ) (s t : ListState) : Type 0 where
  -- k is the innermost structure
  edge_inside : {k w : ℕ} → Into m i s.boxes k → m.edge k s.last w ≡ true → Arrive m k s.boxes w t → Move m i s t
  -- b is the innermost box, and k the structure in which it stands
  leave_box : {bs : List ℕ} {b k w : ℕ} → s.boxes ≡ bs ++ (b ∷ []) → Into m i bs k → m.leave k b s.last w ≡ true → Arrive m k bs w t → Move m i s t

-- ---- the conversion of states
abbrev pub boxes_of : State → List ℕ
boxes_of (at n) = []
boxes_of (within b s) = b ∷ boxes_of s

abbrev pub listed : State → ListState
listed s = record { boxes = boxes_of s; last = last_node s }

abbrev pub nested : List ℕ → ℕ → State
nested [] n = at n
nested (b ∷ bs) n = within b (nested bs n)

-- the states of the two forms are one to one
abbrev pub SameStates : Type 0
SameStates = ((s : State) → nested (boxes_of s) (last_node s) ≡ s) × ((x : ListState) → listed (nested x.boxes x.last) ≡ x)

-- and so are their transitions
abbrev pub FlatFormReadFromInside : Type 0
FlatFormReadFromInside = (m : Meaning) (i : ℕ) (s t : State) → Step m i s t ↔ Move m i (listed s) (listed t)

-- the structure that gives a state its letter and mark is the innermost one
abbrev pub InnermostLooks : Type 0
InnermostLooks = (m : Meaning) (i k : ℕ) (s : State) → Into m i (boxes_of s) k → last_structure m i s ≡ k

-- what is reachable is a flat state: each box names the structure of what follows it, and then comes a node
abbrev pub ReachableAreFlat : Type 0
ReachableAreFlat = (m : Meaning) → Lawful m → m.large ≡ false → (s : State) → Reach m 0 s → FlatState m 0 (listed s)
