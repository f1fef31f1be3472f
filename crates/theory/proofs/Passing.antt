-- An exit is reached by a path that meets a mark exactly if the hops say so.
-- A path from a state inside a box stays there, or goes out by a leave. Assumes nothing.
use Rattle.std.proofs.Common.{◌≡◌, ℕ, ◌<◌, true, refl, arith}
use Rattle.hierarchy.specs.Meaning.{Meaning, absent, box, Lawful}
use Rattle.hierarchy.specs.Flat.{State, at, within, Marked, Enter, to_node, to_box, Step, by_edge, by_leave, inside, Star, stop, step, Plus, Reach}
use Rattle.theory.specs.Hops.{PassMarked, HopMarked, over!, through!, HopReach, a_node, in_box, HopPass, at_end, on_way}
use Rattle.theory.specs.OneSearch.{Passing}
use Rattle.theory.proofs.Paths.{append, plus_path, plus_snoc, same_box, node_not_box, enter_present, path_inside, marked_inside, marked_below}
use Rattle.theory.proofs.Reaching.{leave_exit, hops_path, hops_enter, path_keeps, node_hops, reach→hops}

module _ {m : Meaning} (L : Lawful m) where
  -- ---- a marked hop, as a path of the flat form that meets a marked state and goes on from it
  pub record MarkMet (i : ℕ) (s t : State) : Type 0 where
    pub met : State
    pub before : Star (Step m i) s met
    pub there : Marked m i met
    pub after : Plus (Step m i) met t

  pub hop_meets : {i u w : ℕ} {s t : State} → HopMarked m i u w → Enter m i u s → Enter m i w t → MarkMet i s t
  hop_meets {u = u} (over! k e) (to_node n) y =
      record { met = at u; before = stop; there = k; after = plus_snoc stop (by_edge e y) }
  hop_meets (over! k e) (to_box f) y = absurd (node_not_box (L.edge_from _ _ _ e) f)
  hop_meets (through! b p l) (to_node n) y = absurd (node_not_box n b)
  hop_meets {i} {u} (through! {j} {e} b p l) (to_box {j = k} f) y =
      let q : PassMarked m k e = rw (same_box b f) at p in
      record {
        met = within u q.path.met;
        before = path_inside f q.path.before;
        there = marked_inside m i u q.path.met f q.path.there;
        after = plus_snoc (path_inside f q.path.after) (by_leave l y);
      }

  pub marked_hop_arrives : {i u w : ℕ} → HopMarked m i u w → m.place i w ≡ absent → ⊥
  marked_hop_arrives (over! k e) = L.edge_to _ _ _ e
  marked_hop_arrives (through! b p l) = L.leave_to _ _ _ _ l

  pub marked_hop_starts : {i u w : ℕ} → HopMarked m i u w → (s : State) × Enter m i u s
  marked_hop_starts {i} {u} (over! k e) = (at u, to_node (L.edge_from _ _ _ e))
  marked_hop_starts {i} {u} (through! {j} b p l) = (within u (at (m.entry j)), to_box b)

  -- ---- a path from a state inside a box stays inside it, or goes out by a leave
  pub data FromBox (i b j : ℕ) (s t : State) : Type 0 where
    stays : {x : State} → t ≡ within b x → Star (Step m j) s x → FromBox i b j s t
    goes : {e w : ℕ} {x : State} → Star (Step m j) s (at e) → m.leave i b e w ≡ true → Enter m i w x → Star (Step m i) x t → FromBox i b j s t

  step_then : {i b j : ℕ} {s r t : State} → Step m j s r → FromBox i b j r t → FromBox i b j s t
  step_then d (stays e p) = stays e (step d p)
  step_then d (goes p l y q) = goes (step d p) l y q

  pub path_from_box : {i b j : ℕ} {s t : State} → m.place i b ≡ box j → Star (Step m i) (within b s) t → FromBox i b j s t
  path_from_box c stop = stays refl stop
  path_from_box c (step (by_leave l y) p) = goes stop l y p
  path_from_box {j = j} c (step (inside {s = s} {t = r} f d) p) =
      let d' : Step m j s r = rw (same_box f c) at d in
      step_then d' (path_from_box c p)

  at_not_within : {n b : ℕ} {s : State} → at n ≡ within b s → ⊥
  at_not_within e = let z : ◌≡◌ {A = ℕ} 0 1 = cc in omega arith

  -- a marked state on the way from a box's inner entry to the exit of a leave makes a marked hop
  pub marked_pass : {i b j e w : ℕ} {s : State} →
      m.place i b ≡ box j → Reach m j s → Marked m j s → Star (Step m j) s (at e) → m.leave i b e w ≡ true → HopMarked m i b w
  marked_pass {s = s} c r k p l =
      through! c (record { exits = leave_exit L c l; path = record { met = s; before = r; there = k; after = p } }) l

  pub pass_from_mark : {j e : ℕ} {s : State} → HopReach m j (m.entry j) s → Marked m j s → Star (Step m j) s (at e) → HopPass m j e
  pass_from_mark (a_node n h) k stop = at_end h k
  pass_from_mark (a_node n h) k (step (by_edge d y) p) = on_way h (over! k d) (node_hops L (path_keeps L (hops_enter L stop y) p))
  pass_from_mark {j} {e} (in_box {b} {j = i} {s} h c r) k p = out (path_from_box c p)
    where
      out : FromBox j b i s (at e) → HopPass m j e
      out (stays q p') = absurd (at_not_within q)
      out (goes p' l y q) = on_way h (marked_pass c r (marked_below m j b s c k) p' l) (node_hops L (path_keeps L (hops_enter L stop y) q))

  -- ---- the theorem, one way and the other
  pub marked_pass→hops : {j e : ℕ} → j < m.structures → PassMarked m j e → HopPass m j e
  marked_pass→hops h p = pass_from_mark (reach→hops L h p.path.before) p.path.there p.path.after

  pub hops→marked_pass : {j e : ℕ} → j < m.structures → m.exits j e ≡ true → HopPass m j e → PassMarked m j e
  hops→marked_pass {j} {e} h x (at_end p k) =
      let n = L.exit_node j e x in
      record { exits = x; path = record { met = at e; before = hops_path L p (to_node (L.entered j h)) (to_node n); there = k; after = stop } }
  hops→marked_pass {j} {e} h x (on_way {u} {w} p k q) =
      let n = L.exit_node j e x in
      let s = marked_hop_starts k in
      let t = enter_present j w (marked_hop_arrives k) in
      let o = hop_meets k s.1 t.1 in
      record {
        exits = x;
        path = record {
          met = o.met;
          before = append (hops_path L p (to_node (L.entered j h)) s.1) o.before;
          there = o.there;
          after = append (plus_path o.after) (hops_path L q t.1 (to_node n));
        };
      }

pub passing : Passing
passing m L fits j e h = (λ p. (p.exits, marked_pass→hops L h p), λ p. hops→marked_pass L h p.0 p.1)
