use Rattle.std.proofs.Common.{List, [], ◌∷◌, ◌++◌}
use Rattle.worked.specs.Cases.{Case, Each, Right}
use Rattle.worked.specs.Charts.{new_chart, entry_marked, entry_turning, ring_alone, ring_open, ring_blocked, ring_odd_often, ring_odd_no_more, pair_alone, largest_pile, one_structure_more, no_inner_structure, one_place_more, same_edge_twice}
use Rattle.worked.proofs.Bare.{new_right, entry_marked_right, entry_turning_right, ring_right, ring_open_right, ring_blocked_right, pair_right, no_inner_right, one_place_more_right, same_edge_right}
use Rattle.worked.proofs.Monitored.{often_right, no_more_right, largest_right, one_structure_more_right}
use Rattle.worked.proofs.worked_charts_hold.Goals as goal

-- two lists of cases, one behind the other
both : (xs ys : List Case) → Each Right xs → Each Right ys → Each Right (xs ++ ys)
both [] ys p q = q
both (x ∷ xs) ys p q = (p.0, both xs ys p.1 q)

entries : List Case
entries = new_chart ∷ entry_marked ∷ entry_turning ∷ []

rings : List Case
rings = ring_alone ∷ ring_open ∷ ring_blocked ∷ []

watched : List Case
watched = ring_odd_often ∷ ring_odd_no_more ∷ pair_alone ∷ []

refusals : List Case
refusals = largest_pile ∷ one_structure_more ∷ no_inner_structure ∷ one_place_more ∷ same_edge_twice ∷ []

pub returns : goal.returns
unfolding entries rings watched refusals
returns c =
    both entries (rings ++ (watched ++ refusals)) (new_right, (entry_marked_right, (entry_turning_right, tt)))
    (both rings (watched ++ refusals) (ring_right, (ring_open_right, (ring_blocked_right, tt)))
    (both watched refusals (often_right, (no_more_right, (pair_right, tt)))
    (largest_right, (one_structure_more_right, (no_inner_right, (one_place_more_right, (same_edge_right, tt)))))))
