-- The worked charts without monitors, and the edits that are refused.
-- Assumes nothing.
use Rattle.std.proofs.Common.{◌≡◌, ℕ, true, [], ◌∷◌, refl, arith}
use Rattle.hierarchy.specs.Meaning.{Meaning, node, box, Lawful}
use Rattle.hierarchy.specs.Flat.{State, at, within, to_node, to_box, by_edge, by_leave, inside, Star, stop, step, Step, Plus}
use Rattle.sheet.proofs.Replays.{replayed_lawful}
use Rattle.worked.specs.Cases.{bottom_of, Right}
use Rattle.worked.specs.Charts.{new_chart, entry_marked, entry_turning, ring_alone, ring_open, ring_blocked, pair_alone, no_inner_structure, one_place_more, same_edge_twice}
use Rattle.worked.proofs.Ranks.{Ranks, never_recurs, never_reaches}

-- ---- one structure
new_lawful : Lawful (bottom_of new_chart)
new_lawful = replayed_lawful 1 new_chart.edits (omega arith) (omega arith)

only_entry : Ranks
only_entry = (1, at 0) ∷ []

pub new_right : Right new_chart
unfolding only_entry
new_right = record {
  begins = refl;
  edited = refl;
  monitored = tt;
  holds = (never_reaches new_lawful only_entry refl refl, (never_recurs new_lawful only_entry refl, tt));
}

marked_lawful : Lawful (bottom_of entry_marked)
marked_lawful = replayed_lawful 1 entry_marked.edits (omega arith) (omega arith)

pub entry_marked_right : Right entry_marked
unfolding only_entry
entry_marked_right = record {
  begins = refl;
  edited = refl;
  monitored = tt;
  holds = (record { state = at 0; reached = stop; marked = refl }, (never_recurs marked_lawful only_entry refl, tt));
}

pub entry_turning_right : Right entry_turning
entry_turning_right = record {
  begins = refl;
  edited = refl;
  monitored = tt;
  holds = (
    record { state = at 0; reached = stop; marked = refl },
    (record { state = at 0; reached = stop; marked = refl; round = record { next = at 0; first = by_edge {w = 0} refl (to_node refl); rest = stop } }, tt),
  );
}

-- ---- the ring
-- from a node of structure 0 through box 1 to node 2
through_box : (m : Meaning) (p : ℕ) → m.edge 0 p 1 ≡ true → m.place 0 1 ≡ box 1 → m.edge 1 (m.entry 1) 1 ≡ true → m.place 1 1 ≡ node
    → m.leave 0 1 1 2 ≡ true → m.place 0 2 ≡ node → Plus (Step m 0) (at p) (at 2)
through_box m p e b d x l n = record {
  next = within 1 (at (m.entry 1));
  first = by_edge e (to_box b);
  rest = step (inside b (by_edge d (to_node x))) (step (by_leave l (to_node n)) stop);
}

reached_by : {m : Meaning} {s t : State} → Plus (Step m 0) s t → Star (Step m 0) s t
reached_by p = step p.first p.rest

ring_reached : Plus (Step (bottom_of ring_alone) 0) (at 0) (at 2)
ring_reached = through_box (bottom_of ring_alone) 0 refl refl refl refl refl refl

ring_round : Plus (Step (bottom_of ring_alone) 0) (at 2) (at 2)
ring_round = through_box (bottom_of ring_alone) 2 refl refl refl refl refl refl

pub ring_right : Right ring_alone
ring_right = record {
  begins = refl;
  edited = refl;
  monitored = tt;
  holds = (
    refl,
    (
      record { state = at 2; reached = reached_by ring_reached; marked = refl },
      (record { state = at 2; reached = reached_by ring_reached; marked = refl; round = ring_round }, tt),
    ),
  );
}

open_lawful : Lawful (bottom_of ring_open)
open_lawful = replayed_lawful 2 ring_open.edits (omega arith) (omega arith)

open_ranks : Ranks
open_ranks = (1, at 0) ∷ (1, within 1 (at 0)) ∷ (1, within 1 (at 1)) ∷ (1, at 2) ∷ []

open_reached : Plus (Step (bottom_of ring_open) 0) (at 0) (at 2)
open_reached = through_box (bottom_of ring_open) 0 refl refl refl refl refl refl

pub ring_open_right : Right ring_open
unfolding open_ranks
ring_open_right = record {
  begins = refl;
  edited = refl;
  monitored = tt;
  holds = (record { state = at 2; reached = reached_by open_reached; marked = refl }, (never_recurs open_lawful open_ranks refl, tt));
}

blocked_lawful : Lawful (bottom_of ring_blocked)
blocked_lawful = replayed_lawful 2 ring_blocked.edits (omega arith) (omega arith)

blocked_ranks : Ranks
blocked_ranks = (1, at 0) ∷ (1, within 1 (at 0)) ∷ []

pub ring_blocked_right : Right ring_blocked
unfolding blocked_ranks
ring_blocked_right = record {
  begins = refl;
  edited = refl;
  monitored = tt;
  holds = (never_reaches blocked_lawful blocked_ranks refl refl, (never_recurs blocked_lawful blocked_ranks refl, tt));
}

-- ---- the pair
pair_lawful : Lawful (bottom_of pair_alone)
pair_lawful = replayed_lawful 2 pair_alone.edits (omega arith) (omega arith)

pair_ranks : Ranks
pair_ranks = (1, at 0) ∷ (1, within 1 (at 0)) ∷ (1, within 1 (at 1)) ∷ (2, within 2 (at 0)) ∷ (2, within 2 (at 1)) ∷ []

pair_reached : Star (Step (bottom_of pair_alone) 0) (at 0) (within 1 (at 1))
pair_reached = step (by_edge {w = 1} refl (to_box refl)) (step (inside refl (by_edge {w = 1} refl (to_node refl))) stop)

pub pair_right : Right pair_alone
unfolding pair_ranks
pair_right = record {
  begins = refl;
  edited = refl;
  monitored = tt;
  holds = (record { state = within 1 (at 1); reached = pair_reached; marked = refl }, (never_recurs pair_lawful pair_ranks refl, tt));
}

-- ---- one edit more
pub no_inner_right : Right no_inner_structure
no_inner_right = record { begins = refl; edited = refl; monitored = tt; holds = (refl, (refl, tt)) }

pub one_place_more_right : Right one_place_more
one_place_more_right = record { begins = refl; edited = refl; monitored = tt; holds = (refl, tt) }

pub same_edge_right : Right same_edge_twice
same_edge_right = record { begins = refl; edited = refl; monitored = tt; holds = (refl, tt) }
