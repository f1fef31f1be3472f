-- How the judge writes a guide: one entry at a time, all else as it was.
-- Assumes nothing.
use Rattle.std.specs.Prelude.{◌≡◌, ℕ, ◌+◌, ◌*◌, ◌<◌, ◌≤◌, ◌≢◌, List, length}
use Rattle.guide.specs.declared.Entry.{Entry}
use Rattle.guide.specs.declared.GuideRecord.{GuideRecord}
use Rattle.guide.specs.declared.Lane.{Lane}
use Rattle.guide.specs.declared.Lane.TheVariants.{Plain, Marked, Up}
use Rattle.guide.specs.Layout.{Table}

-- row r stands in the guide
abbrev pub Stands : List GuideRecord → ℕ → ℕ → Type 0
Stands g P r = r * P + P ≤ length g

-- n is where the place u of row r stands
pub record Position (g : List GuideRecord) (P r u n : ℕ) : Type 0 where
  pub is : n ≡ r * P + u
  pub within : n < length g

-- all but one row of one lane is as it was
abbrev pub Others : Table → Table → Lane → ℕ → Type 0
Others T T' l r = (l' : Lane) (r' u' : ℕ) → ((l' ≡ l) × (r' ≡ r) → ⊥) → T' l' r' u' ≡ T l' r' u'

-- all rows but one are as they were
abbrev pub Kept : ℕ → Table → Table → Type 0
Kept S T T' = (l : Lane) (r u : ℕ) → (r ≢ S) → T' l r u ≡ T l r u

-- the entry x is written, and nothing else
pub record Put (T T' : Table) (l : Lane) (r u : ℕ) (x : Entry) : Type 0 where
  pub here : T' l r u ≡ x
  pub rest : (u' : ℕ) → u' ≢ u → T' l r u' ≡ T l r u'
  pub others : Others T T' l r

abbrev pub with_lane_lem : GuideRecord → Lane → Entry → GuideRecord
with_lane_lem x Plain y = record { plain = y; marked = x.marked; up = x.up; aim = x.aim }
with_lane_lem x Marked y = record { plain = x.plain; marked = y; up = x.up; aim = x.aim }
with_lane_lem x Up y = record { plain = x.plain; marked = x.marked; up = y; aim = x.aim }
