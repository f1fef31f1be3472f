-- The flat form of a hierarchy: its states and transitions, and the questions "reach" and "recur" about it.
-- Assumes nothing.
use Rattle.std.specs.Prelude.{◌≡◌, ℕ, true}
use Rattle.hierarchy.specs.Meaning.{Meaning, Kind, absent, node, box}

-- A flat state: boxes, outermost first, and then a node. Read from a structure i on:
-- the first box stands in i, each next one in the structure that the box before it names.
pub data State : Type 0 where
  at : ℕ → State
  within : ℕ → State → State

-- the structure that a box names; 0 for what is no box
abbrev pub inner_of : Kind → ℕ
inner_of absent = 0
inner_of node = 0
inner_of (box j) = j

-- the structure of the last node of a state that starts in structure i, and that node
abbrev pub last_structure : Meaning → ℕ → State → ℕ
last_structure m i (at n) = i
last_structure m i (within b s) = last_structure m (inner_of (m.place i b)) s

abbrev pub last_node : State → ℕ
last_node (at n) = n
last_node (within b s) = last_node s

-- letter and mark of a state are those of its last node
abbrev pub letter_of : Meaning → ℕ → State → ℕ
letter_of m i s = m.letter (last_structure m i s) (last_node s)

abbrev pub Marked : Meaning → ℕ → State → Type 0
Marked m i s = m.mark (last_structure m i s) (last_node s) ≡ true

-- Moving to the place w of structure i: to a node goes there, to a box goes to its inner entry.
pub data Enter (m : Meaning) (i w : ℕ) : State → Type 0 where
  to_node : m.place i w ≡ node → Enter m i w (at w)
  to_box : {j : ℕ} → m.place i w ≡ box j → Enter m i w (within w (at (m.entry j)))

-- A transition of the flat form of structure i: by an edge, by a leave of the box when the node is that leave's exit,
-- or inside the structure that the first box names.
pub data Step (m : Meaning) : ℕ → State → State → Type 0 where
  by_edge : {i p w : ℕ} {t : State} → m.edge i p w ≡ true → Enter m i w t → Step m i (at p) t
  by_leave : {i b e w : ℕ} {t : State} → m.leave i b e w ≡ true → Enter m i w t → Step m i (within b (at e)) t
  inside : {i b j : ℕ} {s t : State} → m.place i b ≡ box j → Step m j s t → Step m i (within b s) (within b t)

-- none or more steps of a relation; one or more
pub data Star {X : Type 0} (R : X → X → Type 0) : X → X → Type 0 where
  stop : {a : X} → Star R a a
  step : {a b c : X} → R a b → Star R b c → Star R a c

pub record Plus {X : Type 0} (R : X → X → Type 0) (a c : X) : Type 0 where
  pub next : X
  pub first : R a next
  pub rest : Star R next c

-- the initial state, of the flat form of structure i
abbrev pub initial : Meaning → ℕ → State
initial m i = at (m.entry i)

-- s is reachable in the flat form of structure i
abbrev pub Reach : Meaning → ℕ → State → Type 0
Reach m i s = Star (Step m i) (initial m i) s

-- "Reach": a marked state is reachable. The flat form of a hierarchy is that of structure 0.
pub record Reaches (m : Meaning) : Type 0 where
  pub state : State
  pub reached : Reach m 0 state
  pub marked : Marked m 0 state

-- "Recur": a reachable marked state can be reached from itself in one step or more.
pub record Recurs (m : Meaning) : Type 0 where
  pub state : State
  pub reached : Reach m 0 state
  pub marked : Marked m 0 state
  pub round : Plus (Step m 0) state state
