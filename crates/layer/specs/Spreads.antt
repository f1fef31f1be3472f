-- What the monitors over a base make, as one struct holds both: spread out, and as a pile.
-- Assumes nothing.
use Rattle.hierarchy.specs.Meaning.{Meaning}
use Rattle.layer.specs.Piles.{pile, spread_all}
use Rattle.layer.specs.declared.spread.Spread.{Spread}

abbrev pub spread_of : {B : Type 0} → (B → Meaning) → Spread B → Meaning
spread_of meaning s = spread_all s.monitors.now (meaning s.base.now)

abbrev pub pile_of : {B : Type 0} → (B → Meaning) → Spread B → Meaning
pile_of meaning s = pile s.monitors.now (meaning s.base.now)
