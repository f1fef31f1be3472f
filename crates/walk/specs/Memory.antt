-- How the trees of a guide are read from lent memory.
-- Assumes nothing.
use Rattle.std.specs.Prelude.{ℕ, Bool, true, false, ◌==◌}
use Rattle.guide.specs.Trees.{Guide, Vertex, plain, marked, ring}
use Rattle.guide.specs.Trees
use Rattle.guide.specs.Layout.{guide_of}
use Rattle.walk.specs.declared.read.Plan.{Plan}
use Rattle.walk.specs.declared.read.Tree.{Tree}
use Rattle.walk.specs.declared.read.Tree.TheVariants.{Plain, Marked, Ring}
use Rattle.walk.specs.declared.read.Spot.{Spot}
use Rattle.walk.specs.declared.frame.Way.{Way}
use Rattle.walk.specs.declared.frame.Way.TheVariants.{Pass, PassMarked, Lead, Ring as WayRing}

-- the guide that memory is, for a hierarchy of this size and this home of the ring
abbrev pub guide_by : Plan → Guide
guide_by p = guide_of p.guide.now p.size.structures p.size.places p.home

abbrev pub tree_told : Tree → Trees.Tree
tree_told Plain = plain
tree_told Marked = marked
tree_told Ring = ring

abbrev pub spot_told : Spot → Vertex
spot_told s = record { lane = tree_told s.tree; spot = s.place }

-- whether a level of structure i at its goal goes round the ring from there
abbrev pub goes_round_lem : Plan → ℕ → Way → Bool
goes_round_lem p i Pass = false
goes_round_lem p i PassMarked = false
goes_round_lem p i Lead = i == p.home
goes_round_lem p i WayRing = true
