-- What each question to a hierarchy is answered, by its meaning.
-- Assumes nothing.
use Rattle.std.specs.Prelude.{ℕ, cond, Option, None, Some}
use Rattle.hierarchy.specs.Meaning.{Meaning, Kind, absent, node, box}
use Rattle.hierarchy.specs.declared.Place.{Place}
use Rattle.hierarchy.specs.declared.Place.TheVariants.{Absent, Node, Box}
use Rattle.hierarchy.specs.declared.Size.{Size}
use Rattle.hierarchy.specs.declared.Look.{Look}

abbrev pub place_told : Kind → Place
place_told absent = Absent
place_told node = Node
place_told (box j) = Box j

-- a size that fits
abbrev pub fits : ℕ → ℕ → Option Size
fits s p = Some (record { structures = s; places = p })

abbrev pub size_told : Meaning → Option Size
size_told m = cond m.large None (fits m.structures m.places)

abbrev pub look_told : Meaning → ℕ → ℕ → Look
look_told m i p = record { letter = m.letter i p; mark = m.mark i p }
