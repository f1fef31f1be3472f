-- What the edits do to one structure of a sheet.
-- Assumes nothing.
use Rattle.std.specs.Prelude.{ℕ, Bool, false, cond, [], ◌∷◌, ◌++◌, ◌==◌, slice_set}
use Rattle.sheet.specs.declared.Spot.{Spot}
use Rattle.sheet.specs.declared.Spot.TheVariants.{Node}
use Rattle.sheet.specs.Sheet.{Structure, Sheet, at}

abbrev pub no_ends : ℕ → Bool
no_ends = λ _. false

abbrev pub no_pairs : ℕ → ℕ → Bool
no_pairs = λ _ _. false

-- f, but v at k
abbrev pub but : {X : Type 0} → ℕ → X → (ℕ → X) → ℕ → X
but k v f = λ x. cond (x == k) v (f x)

-- the set f with (p, w) in it, or not; the same for (b, e, w)
abbrev pub but2 : ℕ → ℕ → Bool → (ℕ → ℕ → Bool) → ℕ → ℕ → Bool
but2 p w v f = but p (but w v (f p)) f

abbrev pub but3 : ℕ → ℕ → ℕ → Bool → (ℕ → ℕ → ℕ → Bool) → ℕ → ℕ → ℕ → Bool
but3 b e w v f = but b (but2 e w v (f b)) f

-- one place more; another spot at a place; an edge or a leave there or not
abbrev pub with_place_lem : Spot → Structure → Structure
with_place_lem v r = record { places = r.places ++ v ∷ []; edge = r.edge; leave = r.leave }

abbrev pub with_spot_lem : ℕ → Spot → Structure → Structure
with_spot_lem p v r = record { places = slice_set r.places p v; edge = r.edge; leave = r.leave }

abbrev pub with_edge_lem : ℕ → ℕ → Bool → Structure → Structure
with_edge_lem p w v r = record { places = r.places; edge = but2 p w v r.edge; leave = r.leave }

abbrev pub with_leave : ℕ → ℕ → ℕ → Bool → Structure → Structure
with_leave b e w v r = record { places = r.places; edge = r.edge; leave = but3 b e w v r.leave }

-- a structure with its entry only: one node of look 0, no exit
abbrev pub fresh : Structure
fresh = record { places = Node 0 false ∷ []; edge = no_pairs; leave = λ _. no_pairs }

-- the sheet with structure i changed
abbrev pub changed : Sheet → ℕ → (Structure → Structure) → Sheet
changed s i f = slice_set s i (f (at s i))
