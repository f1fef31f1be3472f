-- A pile of monitors, the one laid last first, over a hierarchy; it is lawful.
-- Assumes nothing.
use Rattle.std.specs.Prelude.{List, [], ◌∷◌, map}
use Rattle.hierarchy.specs.Meaning.{Meaning, Lawful}
use Rattle.monitor.specs.Product.{spread, laid}
use Rattle.monitor.specs.Tables.{automaton_of}
use Rattle.monitor.specs.declared.Monitor.{Monitor}
use Rattle.layer.specs.Lawful.{layer_lawful}

abbrev pub pile : List Monitor → Meaning → Meaning
pile monitors below = laid (map automaton_of monitors) below

-- the same, however large it is
abbrev pub spread_all : List Monitor → Meaning → Meaning
spread_all [] below = below
spread_all (m ∷ rest) below = spread (spread_all rest below) (automaton_of m)

pub pile_lawful : (monitors : List Monitor) {below : Meaning} → Lawful below → Lawful (pile monitors below)
pile_lawful [] law = law
pile_lawful (m ∷ rest) law = layer_lawful m (pile_lawful rest law)
