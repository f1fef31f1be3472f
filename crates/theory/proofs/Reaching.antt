-- The flat states of a structure that are reachable are those that its own hops give.
-- One invariant, HopReach, is kept by every step. Assumes nothing.
use Rattle.std.proofs.Common.{◌≡◌, ℕ, ◌<◌, true, subst}
use Rattle.hierarchy.specs.Meaning.{Meaning, absent, node, box, Lawful}
use Rattle.hierarchy.specs.Flat.{State, at, within, Enter, to_node, to_box, Step, by_edge, by_leave, inside, Star, stop, step, Reach}
use Rattle.theory.specs.Hops.{Pass, Hop, over, through, Hops, HopReach, a_node, in_box}
use Rattle.theory.specs.OneSearch.{Reaching}
use Rattle.theory.proofs.Paths.{append, snoc, same_box, node_not_box, enter_once, enter_present, path_inside}

module _ {m : Meaning} (L : Lawful m) where
  -- the exit that a leave names is one of the box's inner structure
  pub leave_exit : {i b e w j : ℕ} → m.place i b ≡ box j → m.leave i b e w ≡ true → m.exits j e ≡ true
  leave_exit {i} {b} {e} {w} {j} c l =
      let f = L.leave_from i b e w l in
      subst (λ k. m.exits k e ≡ true) (same_box f.1 c) f.2

  -- ---- from hops to the flat form
  pub hop_arrives : {i u w : ℕ} → Hop m i u w → m.place i w ≡ absent → ⊥
  hop_arrives (over e) = L.edge_to _ _ _ e
  hop_arrives (through b p l) = L.leave_to _ _ _ _ l

  pub hop_path : {i u w : ℕ} {s t : State} → Hop m i u w → Enter m i u s → Enter m i w t → Star (Step m i) s t
  hop_path (over e) (to_node n) y = step (by_edge e y) stop
  hop_path (over e) (to_box f) y = absurd (node_not_box (L.edge_from _ _ _ e) f)
  hop_path (through b p l) (to_node n) y = absurd (node_not_box n b)
  hop_path (through {j} {e} b p l) (to_box {j = k} f) y =
      let q : Pass m k e = rw (same_box b f) at p in
      snoc (path_inside f q.path) (by_leave l y)

  pub hops_path : {i u v : ℕ} {s t : State} → Hops m i u v → Enter m i u s → Enter m i v t → Star (Step m i) s t
  hops_path {i} {s = s} stop x y = subst (Star (Step m i) s) (enter_once x y) stop
  hops_path {i} (step {b = w} h p) x y =
      let z = enter_present i w (hop_arrives h) in
      append (hop_path h x z.1) (hops_path p z.1 y)

  -- ---- from the flat form to hops
  pub hops_enter : {i u w : ℕ} {t : State} → Hops m i u w → Enter m i w t → HopReach m i u t
  hops_enter p (to_node e) = a_node e p
  hops_enter p (to_box e) = in_box p e stop

  pub step_keeps : {i u : ℕ} {s t : State} → HopReach m i u s → Step m i s t → HopReach m i u t
  step_keeps (a_node n p) (by_edge e y) = hops_enter (snoc p (over e)) y
  step_keeps (in_box p b r) (by_leave l y) =
      hops_enter (snoc p (through b (record { exits = leave_exit b l; path = r }) l)) y
  step_keeps (in_box {j = j} p b r) (inside {j = k} {s = s} {t = t} c d) =
      let d' : Step m j s t = rw (same_box c b) at d in
      in_box p b (snoc r d')

  pub path_keeps : {i u : ℕ} {s t : State} → HopReach m i u s → Star (Step m i) s t → HopReach m i u t
  path_keeps h stop = h
  path_keeps h (step r p) = path_keeps (step_keeps h r) p

  -- ---- what HopReach says of a node, and of a state inside a box
  pub node_hops : {i u n : ℕ} → HopReach m i u (at n) → Hops m i u n
  node_hops (a_node e p) = p

  pub node_there : {i u n : ℕ} → HopReach m i u (at n) → m.place i n ≡ node
  node_there (a_node e p) = e

  pub box_hops : {i u b : ℕ} {s : State} → HopReach m i u (within b s) → Hops m i u b
  box_hops (in_box p e r) = p

  pub box_there : {i u b : ℕ} {s : State} → HopReach m i u (within b s) → (j : ℕ) × (m.place i b ≡ box j)
  box_there (in_box {j = j} p e r) = (j, e)

  pub box_reach : {i u b j : ℕ} {s : State} → HopReach m i u (within b s) → m.place i b ≡ box j → Reach m j s
  box_reach {s = s} (in_box p e r) f = subst (λ k. Reach m k s) (same_box e f) r

  -- ---- the theorem, one way and the other
  pub reach→hops : {i : ℕ} {s : State} → i < m.structures → Reach m i s → HopReach m i (m.entry i) s
  reach→hops {i} h p = path_keeps (a_node (L.entered i h) stop) p

  pub hops→reach : {i : ℕ} {s : State} → i < m.structures → HopReach m i (m.entry i) s → Reach m i s
  hops→reach {i} h (a_node n p) = hops_path p (to_node (L.entered i h)) (to_node n)
  hops→reach {i} h (in_box p b r) = append (hops_path p (to_node (L.entered i h)) (to_box b)) (path_inside b r)

  -- ---- passing, by hops
  pub pass→hops : {j e : ℕ} → j < m.structures → Pass m j e → Hops m j (m.entry j) e
  pass→hops h p = node_hops (reach→hops h p.path)

  pub hops→pass : {j e : ℕ} → j < m.structures → m.exits j e ≡ true → Hops m j (m.entry j) e → Pass m j e
  hops→pass {j} {e} h x p = record { exits = x; path = hops→reach h (a_node (L.exit_node j e x) p) }

pub reaching : Reaching
reaching m L fits i h s = (reach→hops L h, hops→reach L h)
