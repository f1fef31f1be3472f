-- The parts of the flat state that a walk shows: its boxes, outermost first, its node and its mark.
-- Assumes nothing.
use Rattle.std.specs.Prelude.{ℕ, zero, suc, Bool, List, [], ◌∷◌, take, Some, None, Option}
use Rattle.hierarchy.specs.Meaning.{Meaning}
use Rattle.hierarchy.specs.Flat.{State, at, within, last_structure, last_node, inner_of}
use Rattle.walk.specs.declared.frame.Frame.{Frame}
use Rattle.walk.specs.declared.stand.Stand.{Stand}
use Rattle.walk.specs.declared.steps.Walk.{Walk}

abbrev pub boxes_of : State → List ℕ
boxes_of (at n) = []
boxes_of (within b s) = b ∷ boxes_of s

-- the places at which frames stand
abbrev pub box_places : List Frame → List ℕ
box_places [] = []
box_places (f ∷ fs) = f.place ∷ box_places fs

abbrev pub box_in : List ℕ → ℕ → Option ℕ
box_in [] k = None
box_in (b ∷ bs) zero = Some b
box_in (b ∷ bs) (suc k) = box_in bs k

-- whether the state of the whole hierarchy is marked
abbrev pub mark_of : Meaning → State → Bool
mark_of m s = m.mark (last_structure m 0 s) (last_node s)

-- the structure behind the boxes at which frames stand
abbrev pub structure_behind_lem : Meaning → ℕ → List Frame → ℕ
structure_behind_lem m i [] = i
structure_behind_lem m i (f ∷ fs) = structure_behind_lem m (inner_of (m.place i f.place)) fs

-- the frames in which the outer levels of a walk are
abbrev pub outer_at : List Frame → Option Stand → List Frame
outer_at fs None = []
outer_at fs (Some s) = take s.depth fs

abbrev pub outer_frames : Walk → List Frame → List Frame
outer_frames w fs = outer_at fs w.stand
