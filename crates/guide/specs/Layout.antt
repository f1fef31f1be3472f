-- Where guide records stand in memory: row by row, one record for each place number.
-- Assumes nothing.
use Rattle.std.specs.Prelude.{false, cond, List, ℕ, ◌+◌, ◌*◌, get_or, ltb}
use Rattle.guide.specs.declared.Entry.{Entry}
use Rattle.guide.specs.declared.GuideRecord.{GuideRecord}
use Rattle.guide.specs.declared.Lane.{Lane}
use Rattle.guide.specs.declared.Lane.TheVariants.{Plain, Marked, Up}
use Rattle.guide.specs.Trees.{Trees, Guide, plain, marked, ring}

abbrev pub blank : Entry
blank = record { reached = false; done = false; depth = 0; from = 0; via = 0; seed = false }

abbrev pub blank_record_lem : GuideRecord
blank_record_lem = record { plain = blank; marked = blank; up = blank; aim = 0 }

abbrev pub lane_of : Lane → GuideRecord → Entry
lane_of Plain r = r.plain
lane_of Marked r = r.marked
lane_of Up r = r.up

-- by lane, row and place
abbrev pub Table : Type 0
Table = Lane → ℕ → ℕ → Entry

-- what a guide with so many places to a row holds; nothing past a row's end
unfoldable pub look : List GuideRecord → ℕ → Table
look g places l r u = cond (ltb u places) (lane_of l (get_or g (r * places + u) blank_record_lem)) blank

-- the row behind the structures' rows has the ring, in the plain lane
abbrev pub trees_of : Table → ℕ → Trees
trees_of t structures plain i u = t Plain i u
trees_of t structures marked i u = t Marked i u
trees_of t structures ring i u = t Plain structures u

-- the place of structure i to go to
unfoldable pub aim_of_lem : List GuideRecord → ℕ → ℕ → ℕ
aim_of_lem g places i = (get_or g (i * places) blank_record_lem).aim

-- the guide that memory is for a hierarchy of this size, with the ring in the structure `home`
abbrev pub guide_of : List GuideRecord → ℕ → ℕ → ℕ → Guide
guide_of g structures places home = record { tree = trees_of (look g places) structures; aim = aim_of_lem g places; home = home }
