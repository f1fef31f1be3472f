-- What every chart keeps of its sheet, so that the sheet means a lawful hierarchy.
-- Assumes nothing.
use Rattle.std.specs.Prelude.{◌≡◌, ℕ, ◌<◌, Bool, true, ◌&&◌, length, Some, None, Option, nat_lt}
use Rattle.std.specs.List.{slice_get}
use Rattle.sheet.specs.declared.Spot.{Spot}
use Rattle.sheet.specs.declared.Spot.TheVariants.{Node, Box}
use Rattle.sheet.specs.Sheet.{Structure, Sheet, at, present, spot, node?, box?, exit?, inner}

-- box order and inner numbers: a box of structure i, one of n, names a later one
abbrev pub later : ℕ → ℕ → Option Spot → Bool
later n i None = true
later n i (Some (Node look exit)) = true
later n i (Some (Box j)) = nat_lt i j && nat_lt j n

-- edge ends: an edge goes from a node to a place
abbrev pub edge_stands : Structure → ℕ → ℕ → Bool
edge_stands r p w = node? (slice_get r.places p) && present r w

-- exits of leaves: a leave goes from a box and an exit of its inner structure to a place
abbrev pub leave_stands : Sheet → Structure → ℕ → ℕ → ℕ → Bool
leave_stands s r b e w = box? (slice_get r.places b) && (exit? (spot s (inner (slice_get r.places b)) e) && present r w)

pub record Sound (s : Sheet) : Type 0 where
  pub entries : (i : ℕ) → i < length s → node? (spot s i 0) ≡ true
  pub order : (i p : ℕ) → later (length s) i (spot s i p) ≡ true
  pub edges : (i p w : ℕ) → (at s i).edge p w ≡ true → edge_stands (at s i) p w ≡ true
  pub leaves : (i b e w : ℕ) → (at s i).leave b e w ≡ true → leave_stands s (at s i) b e w ≡ true
