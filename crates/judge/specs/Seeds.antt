-- Seeds, with which a search starts, and what sowing them has made of a row.
-- Assumes nothing.
use Rattle.std.specs.Prelude.{◌≡◌, ℕ, ◌<◌, true, false, ◌⊎◌}
use Rattle.hierarchy.specs.Meaning.{Meaning}
use Rattle.theory.specs.Hops.{HopMarked, Hops}
use Rattle.guide.specs.declared.Entry.{Entry}
use Rattle.guide.specs.declared.Lane.TheVariants.{Plain, Marked}
use Rattle.guide.specs.Layout.{Table, blank}
use Rattle.judge.specs.declared.table.Site.{Site}
use Rattle.judge.specs.Tables.{Others}
use Rattle.judge.specs.Spread.{here, finished}
use Rattle.judge.specs.Rows.{Start, from_one, from_row}

abbrev pub plain_site : ℕ → ℕ → Site
plain_site P i = record { structure = i; places = P; lane = Plain; row = i }

abbrev pub marked_site : ℕ → ℕ → Site
marked_site P i = record { structure = i; places = P; lane = Marked; row = i }

abbrev pub seed_entry : ℕ → ℕ → ℕ → Entry
seed_entry v e d = record { reached = true; done = false; depth = d; from = v; via = e; seed = true }

-- an entry with which a search starts
pub record Seed (Q : Start) (u : ℕ) (x : Entry) : Type 0 where
  pub reached : x.reached ≡ true
  pub waiting : x.done ≡ false
  pub why : Q u (finished x)

-- a row with starts only
abbrev pub Seeded : Site → Start → Table → Type 0
Seeded s Q T = (u : ℕ) → (here T s u ≡ blank) ⊎ Seed Q u (here T s u)

-- seeds are sown, and nothing else
pub record Sown (s : Site) (Q : Start) (T T' : Table) : Type 0 where
  pub others : Others T T' s.lane s.row
  pub each : (u : ℕ) → (here T' s u ≡ here T s u) ⊎ (((here T s u).reached ≡ false) × Seed Q u (here T' s u))

-- the marked hops of v are seeds
pub record SownFrom (m : Meaning) (s : Site) (v d : ℕ) (T T' : Table) : Type 0 where
  pub sown : Sown s (from_one m s.structure v d) T T'
  pub all : (w : ℕ) → HopMarked m s.structure v w → (here T' s w).reached ≡ true

-- the marked hops of the reached places below n are seeds
pub record SownBelow (m : Meaning) (s : Site) (n : ℕ) (T T' : Table) : Type 0 where
  pub sown : Sown s (from_row m s.structure (T Plain s.structure)) T T'
  pub below : (v w : ℕ) → v < n → Hops m s.structure (m.entry s.structure) v → HopMarked m s.structure v w → (here T' s w).reached ≡ true
