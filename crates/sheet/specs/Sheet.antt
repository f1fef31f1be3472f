-- The sheet: what a chart is by its edits alone. A row of places, a set of edges and a set of leaves for each structure.
-- And the hierarchy that a sheet means. Assumes nothing.
use Rattle.std.specs.Prelude.{ℕ, ◌%◌, max, Bool, true, false, List, [], ◌∷◌, length, Some, None, Option, nat_le, nat_lt, slice_index_or}
use Rattle.std.specs.List.{slice_get}
use Rattle.hierarchy.specs.Meaning.{Meaning, Kind}
use Rattle.hierarchy.specs.Meaning as meaning
use Rattle.sheet.specs.declared.Spot.{Spot}
use Rattle.sheet.specs.declared.Spot.TheVariants.{Node, Box}

-- one structure: its places, each a node with look, exit or not, or a box with its inner number; whether the edge (p, w)
-- is in its set of edges; whether the leave (b, e, w) is in its set of leaves
pub record Structure : Type 0 where
  pub places : List Spot
  pub edge : ℕ → ℕ → Bool
  pub leave : ℕ → ℕ → ℕ → Bool

abbrev pub Sheet : Type 0
Sheet = List Structure

-- what a number that is no structure's stands for
abbrev pub nothing : Structure
nothing = record { places = []; edge = λ _ _. false; leave = λ _ _ _. false }

abbrev pub at : Sheet → ℕ → Structure
at s i = slice_index_or s i nothing

-- whether a place of a structure is there
abbrev pub present : Structure → ℕ → Bool
present r p = nat_lt p (length r.places)

-- what stands at a place of a structure, if anything does
abbrev pub spot : Sheet → ℕ → ℕ → Option Spot
spot s i p = slice_get (at s i).places p

abbrev pub node? : Option Spot → Bool
node? None = false
node? (Some (Node look exit)) = true
node? (Some (Box inner)) = false

abbrev pub exit? : Option Spot → Bool
exit? None = false
exit? (Some (Node look exit)) = exit
exit? (Some (Box inner)) = false

abbrev pub box? : Option Spot → Bool
box? None = false
box? (Some (Node look exit)) = false
box? (Some (Box inner)) = true

abbrev pub inner : Option Spot → ℕ
inner None = 0
inner (Some (Node look exit)) = 0
inner (Some (Box j)) = j

abbrev pub look : Option Spot → ℕ
look None = 0
look (Some (Node l exit)) = l
look (Some (Box j)) = 0

-- bits 0 to 3 of a look are the letter, bit 7 of this byte is the mark
abbrev pub letter_of_look : ℕ → ℕ
letter_of_look l = l % 16

abbrev pub mark_of_look : ℕ → Bool
mark_of_look l = nat_le 128 l

-- the length of the longest row of places
abbrev pub longest : Sheet → ℕ
longest [] = 0
longest (r ∷ rest) = max (length r.places) (longest rest)

abbrev pub kind : Option Spot → Kind
kind None = meaning.absent
kind (Some (Node l exit)) = meaning.node
kind (Some (Box j)) = meaning.box j

-- The hierarchy that a sheet means: place 0 of each structure is its entry.
abbrev pub meaning_of : Sheet → Meaning
meaning_of s = record {
  large = false;
  structures = length s;
  places = longest s;
  place = λ i p. kind (spot s i p);
  entry = λ _. 0;
  exits = λ i p. exit? (spot s i p);
  letter = λ i p. letter_of_look (look (spot s i p));
  mark = λ i p. mark_of_look (look (spot s i p));
  edge = λ i p w. (at s i).edge p w;
  leave = λ i b e w. (at s i).leave b e w;
}
