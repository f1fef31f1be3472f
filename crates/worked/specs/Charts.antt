-- The worked charts: small charts, bare or under monitors, each with what is claimed of it.
-- Assumes nothing.
use Rattle.std.specs.Prelude.{true, false, List, [], ◌∷◌, ◌++◌, replicate}
use Rattle.sheet.specs.declared.Edit.{Edit}
use Rattle.sheet.specs.declared.Edit.TheVariants.{Node, Box, Exit, Look, Edge, Leave, Unedge}
use Rattle.monitor.specs.declared.replay.MonitorEdit.{MonitorEdit}
use Rattle.monitor.specs.declared.replay.MonitorEdit.TheVariants.{State, Step, Accept}
use Rattle.worked.specs.Cases.{reach, recur, size, unjudged, refused, Case, Each, Right}

-- ---- edits
-- the entry of structure 0 is marked
abbrev pub marked_entry : List Edit
marked_entry = Look 0 0 128 ∷ []

-- round and round: the entry leads to box 1, whose inner entry leads to its exit 1, and box 1 by this exit to node 2,
-- marked and of letter 1, which leads to box 1
abbrev pub ring : List Edit
ring =
    Box 0 1 ∷ Node 0 129 ∷ Node 1 0 ∷ Exit 1 1 ∷ Edge 1 0 1
    ∷ Edge 0 0 1 ∷ Leave 0 1 1 2 ∷ Edge 0 2 1 ∷ []

-- boxes 1 and 2 share structure 1, whose entry leads to its marked exit 1; the entry leads to box 1, and box 1 to box 2
abbrev pub pair : List Edit
pair = Box 0 1 ∷ Box 0 1 ∷ Node 1 128 ∷ Exit 1 1 ∷ Edge 1 0 1 ∷ Edge 0 0 1 ∷ Leave 0 1 1 2 ∷ []

-- structure 0 has 16 places
abbrev pub full : List Edit
full = replicate 15 (Node 0 0)

-- ---- monitors
-- accepting whenever an odd letter was left
abbrev pub odd_often : List MonitorEdit
odd_often = State ∷ Step 0 1 1 1 ∷ Step 0 1 0 0 ∷ Step 1 1 1 1 ∷ Step 1 1 0 0 ∷ Accept 1 ∷ []

-- accepting from some letter on, after which no letter is odd
abbrev pub odd_no_more : List MonitorEdit
odd_no_more = State ∷ Step 0 0 0 0 ∷ Step 0 0 0 1 ∷ Step 1 1 0 1 ∷ Accept 1 ∷ []

abbrev pub four_states : List MonitorEdit
four_states = State ∷ State ∷ State ∷ []

-- ---- the cases
abbrev pub new_chart : Case
new_chart = record { structures = 1; edits = []; monitors = []; claims = reach false ∷ recur false ∷ [] }

abbrev pub entry_marked : Case
entry_marked = record { structures = 1; edits = marked_entry; monitors = []; claims = reach true ∷ recur false ∷ [] }

abbrev pub entry_turning : Case
entry_turning = record { structures = 1; edits = marked_entry ++ Edge 0 0 0 ∷ []; monitors = []; claims = reach true ∷ recur true ∷ [] }

abbrev pub ring_alone : Case
ring_alone = record { structures = 2; edits = ring; monitors = []; claims = size 2 3 ∷ reach true ∷ recur true ∷ [] }

abbrev pub ring_open : Case
ring_open = record { structures = 2; edits = ring ++ Unedge 0 2 1 ∷ []; monitors = []; claims = reach true ∷ recur false ∷ [] }

abbrev pub ring_blocked : Case
ring_blocked = record { structures = 2; edits = ring ++ Unedge 1 0 1 ∷ []; monitors = []; claims = reach false ∷ recur false ∷ [] }

abbrev pub ring_odd_often : Case
ring_odd_often = record { structures = 2; edits = ring; monitors = odd_often ∷ []; claims = size 8 12 ∷ reach true ∷ recur true ∷ [] }

abbrev pub ring_odd_no_more : Case
ring_odd_no_more = record { structures = 2; edits = ring; monitors = odd_no_more ∷ []; claims = recur false ∷ [] }

abbrev pub pair_alone : Case
pair_alone = record { structures = 2; edits = pair; monitors = []; claims = reach true ∷ recur false ∷ [] }

abbrev pub largest_pile : Case
largest_pile = record { structures = 16; edits = full; monitors = four_states ∷ four_states ∷ []; claims = size 1024 1024 ∷ [] }

abbrev pub one_structure_more : Case
one_structure_more = record { structures = 17; edits = full; monitors = four_states ∷ four_states ∷ []; claims = unjudged 28 ∷ [] }

abbrev pub no_inner_structure : Case
no_inner_structure = record { structures = 1; edits = []; monitors = []; claims = refused (Box 0 0) 3 ∷ refused (Box 0 1) 20 ∷ [] }

abbrev pub one_place_more : Case
one_place_more = record { structures = 1; edits = full; monitors = []; claims = refused (Node 0 0) 25 ∷ [] }

abbrev pub same_edge_twice : Case
same_edge_twice = record { structures = 1; edits = Edge 0 0 0 ∷ []; monitors = []; claims = refused (Edge 0 0 0) 26 ∷ [] }

abbrev pub worked : List Case
worked =
    new_chart ∷ entry_marked ∷ entry_turning ∷ ring_alone ∷ ring_open ∷ ring_blocked ∷ ring_odd_often ∷ ring_odd_no_more
    ∷ pair_alone ∷ largest_pile ∷ one_structure_more ∷ no_inner_structure ∷ one_place_more ∷ same_edge_twice ∷ []

abbrev pub WorkedChartsHold : Type 0
WorkedChartsHold = Each Right worked
