-- The edits of a sheet, fed their arguments alone: what refuses each, in the order of the refusals' numbers, what it
-- answers, and the sheet after. Assumes nothing.
use Rattle.std.specs.Prelude.{ℕ, Bool, true, false, not, ◌&&◌, [], ◌∷◌, length, replicate, Some, None, Ok, Err, Option, Result, ◌==◌, bit_and, nat_le, nat_lt}
use Rattle.hierarchy.specs.Refusals.{Refusals, first}
use Rattle.hierarchy.specs.declared.refusal.Refusal.{Refusal}
use Rattle.hierarchy.specs.declared.refusal.Refusal.TheVariants.{TooManyStructures, ReservedLookBit, BoxNotBelow, NoStructure, NoPlace, NotANode, NotABox, NotAnExit, Full, AlreadyThere, NotThere}
use Rattle.sheet.specs.declared.Spot.TheVariants.{Node, Box}
use Rattle.sheet.specs.Sheet.{Sheet, at, present, spot, node?, box?, exit?, inner, look}
use Rattle.sheet.specs.Changes.{with_place_lem, with_spot_lem, with_edge_lem, with_leave, fresh, changed}

-- what an edit gives: the sheet after, and the answer
pub record Outcome (X : Type 0) : Type 0 where
  pub sheet : Sheet
  pub answer : Result X Refusal

-- refused, it alters nothing
abbrev pub settle : {X : Type 0} → Option Refusal → Sheet → Sheet → X → Outcome X
settle None old new x = record { sheet = new; answer = Ok x }
settle (Some r) old new x = record { sheet = old; answer = Err r }

-- bits 4 to 6 of a look are zero
abbrev pub bad_look : ℕ → Bool
bad_look l = not (bit_and l 112 == 0)

-- what is there already cannot be added, and what is not there cannot be erased
abbrev pub already : Bool → Bool → Bool × Refusal
already true there = (there, AlreadyThere)
already false there = (not there, NotThere)

-- The lists of refusals below stand in the order of the refusals' numbers.

-- begin: each of n structures is new
abbrev pub begun : ℕ → Sheet
begun n = replicate n fresh

abbrev pub begin_refusals : ℕ → Refusals
begin_refusals n = (not (nat_lt 0 n && nat_le n 32), TooManyStructures) ∷ []

abbrev pub begin : Sheet → ℕ → Outcome (Unit {0})
begin s n = settle (first (begin_refusals n)) s (begun n) tt

-- node and box answer the new place's number
abbrev pub node_refusals : Sheet → ℕ → ℕ → Refusals
node_refusals s i l =
    (bad_look l, ReservedLookBit)
    ∷ (not (nat_lt i (length s)), NoStructure)
    ∷ (not (nat_lt (length (at s i).places) 16), Full)
    ∷ []

abbrev pub node : Sheet → ℕ → ℕ → Outcome ℕ
node s i l = settle (first (node_refusals s i l)) s (changed s i (with_place_lem (Node l false))) (length (at s i).places)

abbrev pub box_refusals : Sheet → ℕ → ℕ → Refusals
box_refusals s i j =
    (not (nat_lt i j), BoxNotBelow)
    ∷ (not (nat_lt i (length s) && nat_lt j (length s)), NoStructure)
    ∷ (not (nat_lt (length (at s i).places) 16), Full)
    ∷ []

abbrev pub box : Sheet → ℕ → ℕ → Outcome ℕ
box s i j = settle (first (box_refusals s i j)) s (changed s i (with_place_lem (Box j))) (length (at s i).places)

abbrev pub exit_refusals : Sheet → ℕ → ℕ → Refusals
exit_refusals s i p =
    (not (nat_lt i (length s)), NoStructure)
    ∷ (not (present (at s i) p), NoPlace)
    ∷ (not (node? (spot s i p)), NotANode)
    ∷ (exit? (spot s i p), AlreadyThere)
    ∷ []

-- the node keeps its look
abbrev pub exit : Sheet → ℕ → ℕ → Outcome (Unit {0})
exit s i p = settle (first (exit_refusals s i p)) s (changed s i (with_spot_lem p (Node (look (spot s i p)) true))) tt

abbrev pub look_refusals : Sheet → ℕ → ℕ → ℕ → Refusals
look_refusals s i p l =
    (bad_look l, ReservedLookBit)
    ∷ (not (nat_lt i (length s)), NoStructure)
    ∷ (not (present (at s i) p), NoPlace)
    ∷ (not (node? (spot s i p)), NotANode)
    ∷ []

-- the node stays an exit, or none
abbrev pub relook : Sheet → ℕ → ℕ → ℕ → Outcome (Unit {0})
relook s i p l = settle (first (look_refusals s i p l)) s (changed s i (with_spot_lem p (Node l (exit? (spot s i p))))) tt

abbrev pub edge_refusals : Sheet → ℕ → ℕ → ℕ → Bool → Refusals
edge_refusals s i p w v =
    (not (nat_lt i (length s)), NoStructure)
    ∷ (not (present (at s i) p && present (at s i) w), NoPlace)
    ∷ (not (node? (spot s i p)), NotANode)
    ∷ already v ((at s i).edge p w)
    ∷ []

-- edge, where v is true, and unedge, where v is false
abbrev pub set_edge_lem : Sheet → ℕ → ℕ → ℕ → Bool → Outcome (Unit {0})
set_edge_lem s i p w v = settle (first (edge_refusals s i p w v)) s (changed s i (with_edge_lem p w v)) tt

abbrev pub leave_refusals : Sheet → ℕ → ℕ → ℕ → ℕ → Bool → Refusals
leave_refusals s i b e w v =
    (not (nat_lt i (length s)), NoStructure)
    ∷ (not (present (at s i) b && present (at s i) w), NoPlace)
    ∷ (not (box? (spot s i b)), NotABox)
    ∷ (not (exit? (spot s (inner (spot s i b)) e)), NotAnExit)
    ∷ already v ((at s i).leave b e w)
    ∷ []

-- leave, where v is true, and unleave, where v is false
abbrev pub set_leave_lem : Sheet → ℕ → ℕ → ℕ → ℕ → Bool → Outcome (Unit {0})
set_leave_lem s i b e w v = settle (first (leave_refusals s i b e w v)) s (changed s i (with_leave b e w v)) tt
