-- The sheet that a chart's table stands for: the one definition that speaks of how charts lie in memory.
-- Assumes nothing.
use Rattle.std.specs.Prelude.{ℕ, ◌/◌, ◌%◌, ◌^◌, ◌<◌, ◌≤◌, Bool, List, [], map, get_or, take, ◌==◌, slice_index_or}
use Rattle.chart.specs.declared.row.Row.{Row}
use Rattle.chart.specs.declared.row.Ends.{Ends}
use Rattle.chart.specs.declared.row.Pairs.{Pairs}
use Rattle.sheet.specs.Sheet.{Structure, Sheet}

-- the place y is in the set if bit y is set
abbrev pub ends_of : Ends → ℕ → Bool
ends_of e = λ y. (e.bits / 2 ^ y % 2 == 1)

abbrev pub no_bits : Ends
no_bits = record { bits = 0 }

abbrev pub pairs_of : Pairs → ℕ → ℕ → Bool
pairs_of g = λ x. ends_of (slice_index_or g.from x no_bits)

abbrev pub triples_of : List Pairs → ℕ → ℕ → ℕ → Bool
triples_of g = λ b. pairs_of (slice_index_or g b (record { from = [] }))

unfoldable pub structure_of : Row → Structure
structure_of r = record { places = take r.used r.places; edge = pairs_of r.edges; leave = triples_of r.leaves }

-- the sheet that the first n rows of a table stand for
unfoldable pub sheet_of : ℕ → List Row → Sheet
sheet_of n t = map structure_of (take n t)

-- place counts: each row that counts uses at most 16 places
abbrev pub Counts : ℕ → List Row → Type 0
Counts n t = (i : ℕ) (r : Row) → i < n → (get_or t i r).used ≤ 16
