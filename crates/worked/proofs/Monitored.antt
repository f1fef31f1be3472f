-- The worked charts under monitors.
-- Assumes nothing.
use Rattle.std.proofs.Common.{[], ◌∷◌, refl, arith}
use Rattle.hierarchy.specs.Meaning.{Lawful}
use Rattle.hierarchy.specs.Flat.{at, within, to_node, to_box, by_edge, by_leave, inside, Star, stop, step, Step}
use Rattle.monitor.specs.Product.{moves, marks, overflows}
use Rattle.monitor.specs.Replay.{made}
use Rattle.sheet.proofs.Replays.{replayed_lawful}
use Rattle.piles.proofs.Piles.{pile_lawful}
use Rattle.worked.specs.Cases.{bottom_of, pile_of, Right}
use Rattle.worked.specs.Charts.{odd_no_more, ring_odd_often, ring_odd_no_more, largest_pile, one_structure_more}
use Rattle.worked.proofs.Ranks.{Ranks, never_recurs}

-- ---- odd letters without end; a number u × 4 + 2q + c stands for the place u, the state q and the phase c
-- the odd letter of node 2 is left: box 1 is entered in state 1 and phase 1, which is marked
often_reached : Star (Step (pile_of ring_odd_often) 0) (at 0) (within 7 (at 3))
unfolding moves marks overflows
often_reached =
    step (by_edge {w = 4} refl (to_box {j = 4} refl))
    (step (inside {j = 4} refl (by_edge {w = 4} refl (to_node refl)))
    (step (by_leave {w = 8} refl (to_node refl))
    (step (by_edge {w = 7} refl (to_box {j = 7} refl)) stop)))

often_back : Star (Step (pile_of ring_odd_often) 0) (within 7 (at 4)) (within 7 (at 3))
unfolding moves marks overflows
often_back = step (by_leave {w = 8} refl (to_node refl)) (step (by_edge {w = 7} refl (to_box {j = 7} refl)) stop)

pub often_right : Right ring_odd_often
unfolding moves marks overflows
often_right = record {
  begins = refl;
  edited = refl;
  monitored = (refl, tt);
  holds = (
    refl,
    (
      record { state = within 7 (at 3); reached = often_reached; marked = refl },
      (
        record {
          state = within 7 (at 3);
          reached = often_reached;
          marked = refl;
          round = record { next = within 7 (at 4); first = inside {j = 7} refl (by_edge {w = 4} refl (to_node refl)); rest = often_back };
        },
        tt,
      ),
    ),
  );
}

-- ---- no odd letter any more
no_more_lawful : Lawful (pile_of ring_odd_no_more)
no_more_lawful = pile_lawful (bottom_of ring_odd_no_more) (replayed_lawful 2 ring_odd_no_more.edits (omega arith) (omega arith))
    (made odd_no_more ∷ []) (record { some = omega arith; few = omega arith }, tt)

-- in state 1 and phase 1 a node is marked, and what it leads to never is again
no_more_ranks : Ranks
no_more_ranks =
    (1, at 0) ∷ (1, at 8) ∷ (1, at 9) ∷ (1, at 11)
    ∷ (1, within 4 (at 0)) ∷ (1, within 4 (at 4)) ∷ (1, within 4 (at 6))
    ∷ (1, within 5 (at 1)) ∷ (1, within 5 (at 5)) ∷ (1, within 5 (at 7))
    ∷ (1, within 6 (at 2)) ∷ (1, within 6 (at 6)) ∷ (1, within 7 (at 3))
    ∷ (2, at 10) ∷ (2, within 7 (at 6)) ∷ []

pub no_more_right : Right ring_odd_no_more
unfolding moves marks overflows no_more_ranks
no_more_right = record {
  begins = refl;
  edited = refl;
  monitored = (refl, tt);
  holds = (never_recurs no_more_lawful no_more_ranks refl, tt);
}

-- ---- sizes
pub largest_right : Right largest_pile
unfolding overflows
largest_right = record { begins = refl; edited = refl; monitored = (refl, (refl, tt)); holds = (refl, tt) }

pub one_structure_more_right : Right one_structure_more
unfolding overflows
one_structure_more_right = record { begins = refl; edited = refl; monitored = (refl, (refl, tt)); holds = ((λ records. refl), tt) }
