-- The levels of a walk, one for each structure that it is in: how each follows the trees of a guide to its goal.
-- Assumes nothing.
use Rattle.std.specs.Prelude.{ℕ, zero, suc, Bool, true, false, ◌==◌}
use Rattle.hierarchy.specs.Meaning.{Meaning}
use Rattle.guide.specs.declared.Entry.{Entry}
use Rattle.guide.specs.Trees.{Tree, plain, marked, ring, Guide, Vertex, entry_at, up}
use Rattle.walk.specs.declared.frame.Way.{Way}
use Rattle.walk.specs.declared.frame.Way.TheVariants.{Pass, PassMarked, Lead, Ring}
use Rattle.walk.specs.declared.frame.Frame.{Frame}

abbrev pub blank_frame : Frame
blank_frame = record { place = 0; way = Pass; goal = 0; left = 0 }

-- the tree in which a level's goal lies
abbrev pub tree_of : Way → Tree
tree_of Pass = plain
tree_of PassMarked = marked
tree_of Lead = plain
tree_of Ring = ring

abbrev pub is_pass_lem : Way → Bool
is_pass_lem Pass = true
is_pass_lem PassMarked = true
is_pass_lem Lead = false
is_pass_lem Ring = false

abbrev pub less : ℕ → ℕ
less zero = zero
less (suc n) = n

abbrev pub goal_of_lem : Frame → Vertex
goal_of_lem f = record { lane = tree_of f.way; spot = f.goal }

-- the level after its next hop: one tree edge nearer to its goal
abbrev pub hop : Guide → ℕ → Frame → Frame
hop g i f = record { place = (up g.tree i (goal_of_lem f) (less f.left)).spot; way = f.way; goal = f.goal; left = less f.left }

-- at its goal in the home structure a lead becomes a ring, and a ring begins again, d edges from its goal
abbrev pub turn_way : Way → ℕ → Bool → Way
turn_way Pass n home = Pass
turn_way PassMarked n home = PassMarked
turn_way Lead zero true = Ring
turn_way Lead zero false = Lead
turn_way Lead (suc n) home = Lead
turn_way Ring n home = Ring

abbrev pub turn_left : ℕ → Way → ℕ → Bool → ℕ
turn_left d Pass n home = n
turn_left d PassMarked n home = n
turn_left d Lead zero true = d
turn_left d Lead zero false = zero
turn_left d Lead (suc n) home = suc n
turn_left d Ring zero home = d
turn_left d Ring (suc n) home = suc n

abbrev pub turned : Guide → ℕ → Frame → Frame
turned g i f = record { place = f.place; way = turn_way f.way f.left (i == g.home); goal = f.goal; left = turn_left (g.tree ring i f.goal).depth f.way f.left (i == g.home) }

-- the level that goes from the entry of structure j to its aim
abbrev pub lead_level : Meaning → Guide → ℕ → Frame
lead_level m g j = turned g j (record { place = m.entry j; way = Lead; goal = g.aim j; left = (g.tree plain j (g.aim j)).depth })

-- the level that goes from the entry of structure j to the exit of a tree entry, past a mark if the hop has to meet one
abbrev pub pass_way : Bool → Bool → Way
pass_way true true = Pass
pass_way true false = PassMarked
pass_way false exit-marked = Pass

abbrev pub pass_on : Meaning → Guide → ℕ → ℕ → Way → Frame
pass_on m g j e w = record { place = m.entry j; way = w; goal = e; left = (g.tree (tree_of w) j e).depth }

abbrev pub pass_level : Meaning → Guide → ℕ → Entry → Frame
pass_level m g j e = pass_on m g j e.via (pass_way e.seed (m.mark j e.via))

-- what a level of structure i with so many edges left pushes where it stands at a box that names j
abbrev pub inner : Meaning → Guide → ℕ → Frame → ℕ → ℕ → Frame
inner m g i f j zero = lead_level m g j
inner m g i f j (suc n) = pass_level m g j (entry_at g.tree i (up g.tree i (goal_of_lem f) n))
