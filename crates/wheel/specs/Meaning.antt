-- What a wheel is, worked out from its sizes, one a level: a hierarchy of one structure a level.
-- Assumes nothing.
use Rattle.std.specs.Prelude.{ℕ, ◌+◌, max, Bool, true, false, cond, not, ◌&&◌, ◌||◌, List, [], ◌∷◌, length, ◌==◌, nat_le, nat_lt, slice_index}
use Rattle.hierarchy.specs.Meaning.{Meaning, Kind, absent, node, box}

abbrev pub size_of : List ℕ → ℕ → ℕ
size_of sizes k = slice_index sizes k

-- there is a structure k; it is the last one
abbrev pub is_level : List ℕ → ℕ → Bool
is_level sizes k = nat_lt k (length sizes)

abbrev pub is_last : List ℕ → ℕ → Bool
is_last sizes k = k + 1 == length sizes

-- structure k has entry 0, items 1 to s, and an end s + 1
unfoldable pub is_entry_lem : List ℕ → ℕ → ℕ → Bool
is_entry_lem sizes k p = is_level sizes k && p == 0

unfoldable pub is_item_lem : List ℕ → ℕ → ℕ → Bool
is_item_lem sizes k p = is_level sizes k && (nat_lt 0 p && nat_le p (size_of sizes k))

unfoldable pub is_end_lem : List ℕ → ℕ → ℕ → Bool
is_end_lem sizes k p = is_level sizes k && p == size_of sizes k + 1

-- items are boxes naming k + 1, in the last structure nodes
abbrev pub item_kind : List ℕ → ℕ → Kind
item_kind sizes k = cond (is_last sizes k) node (box (k + 1))

unfoldable pub is_box_lem : List ℕ → ℕ → ℕ → Bool
is_box_lem sizes k p = is_item_lem sizes k p && not (is_last sizes k)

-- each place leads to the next; in structure 0 the end leads to 0
unfoldable pub leads : List ℕ → ℕ → ℕ → ℕ → Bool
leads sizes k p w =
    ((is_entry_lem sizes k p || is_item_lem sizes k p) && w == p + 1) || (k == 0 && (is_end_lem sizes k p && w == 0))

-- in structure 0 the end has letter 1, in the last structure the items have letter 2
unfoldable pub letter_of : List ℕ → ℕ → ℕ → ℕ
letter_of sizes k p = cond (k == 0 && is_end_lem sizes k p) 1 (cond (is_item_lem sizes k p && is_last sizes k) 2 0)

abbrev pub largest : List ℕ → ℕ
largest [] = 0
largest (s ∷ rest) = max s (largest rest)

abbrev pub wheel : List ℕ → Meaning
wheel sizes = record {
  large = false;
  structures = length sizes;
  places = largest sizes + 2;
  place = λ k p. cond (is_item_lem sizes k p) (item_kind sizes k) (cond (is_entry_lem sizes k p || is_end_lem sizes k p) node absent);
  entry = λ _. 0;
  exits = λ k p. is_end_lem sizes k p;
  letter = λ k p. letter_of sizes k p;
  mark = λ k p. (k == 0) && is_end_lem sizes k p;
  edge = λ k p w. not (is_box_lem sizes k p) && leads sizes k p w;
  -- a box is left by its inner end
  leave = λ k b e w. is_box_lem sizes k b && (is_end_lem sizes (k + 1) e && leads sizes k b w);
}

-- 1 to 16 levels, each of size 1 to 1,022
abbrev pub all_sized : List ℕ → Bool
all_sized [] = true
all_sized (s ∷ rest) = (nat_lt 0 s && nat_le s 1022) && all_sized rest

abbrev pub sizes_right : List ℕ → Bool
sizes_right sizes = (nat_lt 0 (length sizes) && nat_le (length sizes) 16) && all_sized sizes
