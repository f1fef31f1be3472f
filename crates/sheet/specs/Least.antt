-- Of several refusals of one edit the least number is given: the lists of refusals ascend.
-- Assumes nothing.
use Rattle.std.specs.Prelude.{◌≡◌, ℕ, ◌≤◌, Bool, true, ◌⊎◌, [], ◌∷◌, Some}
use Rattle.hierarchy.specs.declared.refusal.Refusal.{Refusal}
use Rattle.hierarchy.specs.Refusals.{refusal_number, Refusals, first}
use Rattle.sheet.specs.Sheet.{Sheet}
use Rattle.sheet.specs.Edits.{begin_refusals, node_refusals, box_refusals, exit_refusals, look_refusals, edge_refusals, leave_refusals}

-- r is a refusal of the list whose test holds
abbrev pub Holds : Refusal → Refusals → Type 0
Holds r [] = ⊥
Holds r (x ∷ xs) = ((x.0 ≡ true) × (x.1 ≡ r)) ⊎ Holds r xs

-- the refusal that is given has the least number of those that hold
abbrev pub GivesLeast : Refusals → Type 0
GivesLeast xs = (given other : Refusal) → first xs ≡ Some given → Holds other xs → refusal_number given ≤ refusal_number other

pub record LeastRefusalFirst : Type 0 where
  pub begin : (n : ℕ) → GivesLeast (begin_refusals n)
  pub node : (s : Sheet) (i l : ℕ) → GivesLeast (node_refusals s i l)
  pub box : (s : Sheet) (i j : ℕ) → GivesLeast (box_refusals s i j)
  pub exit : (s : Sheet) (i p : ℕ) → GivesLeast (exit_refusals s i p)
  pub look : (s : Sheet) (i p l : ℕ) → GivesLeast (look_refusals s i p l)
  pub edge : (s : Sheet) (i p w : ℕ) (v : Bool) → GivesLeast (edge_refusals s i p w v)
  pub leave : (s : Sheet) (i b e w : ℕ) (v : Bool) → GivesLeast (leave_refusals s i b e w v)
