-- A marked state is reachable exactly if hops reach a marked node of a reached structure; it reaches itself exactly if a
-- reached structure has a marked round of hops. Assumes nothing.
use Rattle.std.proofs.Common.{◌≡◌, ℕ, ◌<◌, true, false, arith}
use Rattle.hierarchy.specs.Meaning.{Meaning, box, Lawful}
use Rattle.hierarchy.specs.Flat.{State, at, within, Marked, Enter, to_node, to_box, Step, by_edge, by_leave, inside, Star, stop, step, Plus, Reach, Reaches, Recurs}
use Rattle.theory.specs.Hops.{over!, Reached, top, by_box, HopReach, MarkedRound, MarkedNode}
use Rattle.theory.specs.OneSearch.{Marking, Recurring}
use Rattle.theory.proofs.Paths.{append, same_box, enter_present, marked_inside, marked_below}
use Rattle.theory.proofs.Reaching.{hops_path, hops_enter, path_keeps, node_hops, node_there, box_hops, box_there, box_reach, reach→hops}
use Rattle.theory.proofs.Passing.{hop_meets, marked_hop_arrives, marked_hop_starts, FromBox, stays, goes, path_from_box, marked_pass}

module _ {m : Meaning} (L : Lawful m) (fits : m.large ≡ false) where
  pub reached_below : {i : ℕ} → Reached m i → i < m.structures
  reached_below top = omega (arith, (L.sized fits).0)
  reached_below (by_box {i} {b} {j} r p c) = (L.inner i b j c).1

  -- ---- the flat form of a reached structure lies in that of structure 0
  pub record LiesInFlat (i : ℕ) : Type 0 where
    pub put : State → State
    pub come : Reach m 0 (put (at (m.entry i)))
    pub steps : {s t : State} → Step m i s t → Step m 0 (put s) (put t)
    pub marks : (s : State) → Marked m i s → Marked m 0 (put s)

  pub path_put : {i : ℕ} (l : LiesInFlat i) {s t : State} → Star (Step m i) s t → Star (Step m 0) (l.put s) (l.put t)
  path_put l stop = stop
  path_put l (step r p) = step (l.steps r) (path_put l p)

  pub reached_lies : {i : ℕ} → Reached m i → LiesInFlat i
  reached_lies top = record { put = λ s. s; come = stop; steps = λ d. d; marks = λ s k. k }
  reached_lies (by_box {i} {b} {j} r p c) =
      let l = reached_lies r in
      record {
        put = λ s. l.put (within b s);
        come = append l.come (path_put l (hops_path L p (to_node (L.entered i (reached_below r))) (to_box c)));
        steps = λ d. l.steps (inside c d);
        marks = λ s k. l.marks (within b s) (marked_inside m i b s c k);
      }

  -- ---- a marked node that hops reach
  pub marked_node→reaches : MarkedNode m → Reaches m
  marked_node→reaches x =
      let l = reached_lies x.reached in
      let i = x.structure in
      record {
        state = l.put (at x.place);
        reached = append l.come (path_put l (hops_path L x.come (to_node (L.entered i (reached_below x.reached))) (to_node x.noded)));
        marked = l.marks (at x.place) x.marked;
      }

  marked_node_in : (s : State) (i : ℕ) → Reached m i → Reach m i s → Marked m i s → MarkedNode m
  marked_node_in (at n) i r p k =
      let h = reach→hops L (reached_below r) p in
      record { structure = i; reached = r; place = n; come = node_hops L h; noded = node_there L h; marked = k }
  marked_node_in (within b s) i r p k =
      let h = reach→hops L (reached_below r) p in
      let c = box_there L h in
      marked_node_in s c.0 (by_box r (box_hops L h) c.1) (box_reach L h c.1) (marked_below m i b s c.1 k)

  pub reaches→marked_node : Reaches m → MarkedNode m
  reaches→marked_node r = marked_node_in r.state 0 top r.reached r.marked

  -- ---- a marked round of hops
  pub marked_round→recurs : MarkedRound m → Recurs m
  marked_round→recurs c =
      let i = c.structure in
      let l = reached_lies c.reached in
      let s = marked_hop_starts L c.go in
      let t = enter_present i c.to (marked_hop_arrives L c.go) in
      let o = hop_meets L c.go s.1 t.1 in
      let in-s : Reach m i s.0 = hops_path L c.come (to_node (L.entered i (reached_below c.reached))) s.1 in
      let on : Star (Step m i) o.after.next o.met = append o.after.rest (append (hops_path L c.back t.1 s.1) o.before) in
      record {
        state = l.put o.met;
        reached = append l.come (path_put l (append in-s o.before));
        marked = l.marks o.met o.there;
        round = record { next = l.put o.after.next; first = l.steps o.after.first; rest = path_put l on };
      }

  -- a round from a state inside a box stays there, or goes out by a leave
  data RoundFromBox (i b j : ℕ) (s t : State) : Type 0 where
    inner : {x : State} → t ≡ within b x → Plus (Step m j) s x → RoundFromBox i b j s t
    outer : {e w : ℕ} {x : State} → Star (Step m j) s (at e) → m.leave i b e w ≡ true → Enter m i w x → Star (Step m i) x t → RoundFromBox i b j s t

  first_inside : {i b j : ℕ} {s r t : State} → Step m j s r → FromBox L i b j r t → RoundFromBox i b j s t
  first_inside {r = r} d (stays e p) = inner e (record { next = r; first = d; rest = p })
  first_inside d (goes p l y q) = outer (step d p) l y q

  round_from_box : {i b j : ℕ} {s r t : State} → m.place i b ≡ box j → Step m i (within b s) r → Star (Step m i) r t → RoundFromBox i b j s t
  round_from_box c (by_leave l y) p = outer stop l y p
  round_from_box {j = j} c (inside {s = s} {t = r} f d) p =
      let d' : Step m j s r = rw (same_box f c) at d in
      first_inside d' (path_from_box L c p)

  marked_round_in : (s : State) (i : ℕ) → Reached m i → Reach m i s → Marked m i s → Plus (Step m i) s s → MarkedRound m
  marked_round_in (at n) i r p k q = out q.first q.rest
    where
      out : {t : State} → Step m i (at n) t → Star (Step m i) t (at n) → MarkedRound m
      out (by_edge {w = w} d y) q =
          record {
            structure = i;
            reached = r;
            from = n;
            to = w;
            come = node_hops L (reach→hops L (reached_below r) p);
            go = over! k d;
            back = node_hops L (path_keeps L (hops_enter L stop y) q);
          }
  marked_round_in (within b s) i r p k q =
      let h = reach→hops L (reached_below r) p in
      let c = box_there L h in
      let j = c.0 in
      let k' = marked_below m i b s c.1 k in
      let in-s : Reach m j s = box_reach L h c.1 in
      out j c.1 k' h in-s (marked_round_in s j (by_box r (box_hops L h) c.1) in-s k') (round_from_box c.1 q.first q.rest)
    where
      out : (j : ℕ) → m.place i b ≡ box j → Marked m j s → HopReach m i (m.entry i) (within b s) → Reach m j s →
          (Plus (Step m j) s s → MarkedRound m) → RoundFromBox i b j s (within b s) → MarkedRound m
      out j c k h in-s rec (inner {x = x} e q) =
          let e' : x ≡ s = cc in
          let q' : Plus (Step m j) s s = rw e' at q in
          rec q'
      out j c k h in-s rec (outer {w = w} q l y z) =
          record {
            structure = i;
            reached = r;
            from = b;
            to = w;
            come = box_hops L h;
            go = marked_pass L c in-s k q l;
            back = box_hops L (path_keeps L (hops_enter L stop y) z);
          }

  pub recurs→marked_round : Recurs m → MarkedRound m
  recurs→marked_round r = marked_round_in r.state 0 top r.reached r.marked r.round

pub marking : Marking
marking m L fits = (reaches→marked_node L fits, marked_node→reaches L fits)

pub recurring : Recurring
recurring m L fits = (recurs→marked_round L fits, marked_round→recurs L fits)
