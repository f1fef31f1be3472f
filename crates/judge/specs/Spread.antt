-- What one search of a structure's places writes into one row of the guide.
-- Assumes nothing.
use Rattle.std.specs.Prelude.{◌≡◌, ℕ, ◌<◌, ◌≤◌, Bool, true, false, cond, ◌≢◌, List}
use Rattle.hierarchy.specs.Meaning.{Meaning, box}
use Rattle.guide.specs.declared.Entry.{Entry}
use Rattle.guide.specs.declared.GuideRecord.{GuideRecord}
use Rattle.guide.specs.Layout.{Table}
use Rattle.judge.specs.declared.spread.Leads.{Leads}
use Rattle.judge.specs.declared.spread.Leads.TheVariants.{Edges, Leaves}
use Rattle.judge.specs.declared.table.Site.{Site}
use Rattle.judge.specs.Tables.{Others, Stands}

-- the row that is written is none that the structure's boxes name
abbrev pub Apart : Meaning → Site → Type 0
Apart m s = (b j : ℕ) → m.place s.structure b ≡ box j → j ≢ s.row

-- a site at which a structure of m can be searched
pub record Fit (m : Meaning) (s : Site) : Type 0 where
  pub places : s.places ≡ m.places
  pub apart : Apart m s
  pub small : s.places ≤ 1024
  pub row : s.row ≤ m.structures

-- the site is in the guide, which has room for S structures and one row behind them, and it fits m
pub record SiteIn (m : Meaning) (g : List GuideRecord) (s : Site) (S : ℕ) : Type 0 where
  pub stands : Stands g s.places S
  pub fit : Fit m s

-- the site's entry at a place
abbrev pub here : Table → Site → ℕ → Entry
here T s u = T s.lane s.row u

abbrev pub child : ℕ → ℕ → ℕ → Entry
child v e d = record { reached = true; done = false; depth = d; from = v; via = e; seed = false }

-- what is there, or else x
abbrev pub or_entry : Entry → Entry → Entry
or_entry y x = cond y.reached y x

-- whether such hops of structure i lead to a place
abbrev pub leads : Meaning → ℕ → Leads → ℕ → Bool
leads m i (Edges v) = m.edge i v
leads m i (Leaves v e) = m.leave i v e

-- each place at which f is true has got x, if it was not reached; all else is as it was
pub record Adds (s : Site) (x : Entry) (f : ℕ → Bool) (T T' : Table) : Type 0 where
  pub others : Others T T' s.lane s.row
  pub each : (u : ℕ) → here T' s u ≡ cond (f u) (or_entry (here T s u) x) (here T s u)

-- the same, for the places below n
pub record Adding (s : Site) (x : Entry) (f : ℕ → Bool) (n : ℕ) (T T' : Table) : Type 0 where
  pub others : Others T T' s.lane s.row
  pub below : (u : ℕ) → u < n → here T' s u ≡ cond (f u) (or_entry (here T s u) x) (here T s u)
  pub above : (u : ℕ) → n ≤ u → here T' s u ≡ here T s u

abbrev pub finished : Entry → Entry
finished x = record { reached = x.reached; done = true; depth = x.depth; from = x.from; via = x.via; seed = x.seed }
