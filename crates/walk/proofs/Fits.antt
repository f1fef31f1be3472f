-- Stacks of levels that fit a good guide, and that a level which comes to a place makes such a stack.
-- Assumes nothing.
use Rattle.std.proofs.Common.{◌≡◌, ℕ, zero, suc, ◌+◌, ◌<◌, ◌≤◌, Bool, true, false, eqb, ◌⊎◌, sym, refl, ap, ◌∙◌, subst, inl, inr, arith, eqb-true}
use borrow.Author.Tests.{eqb-false, both_ways}
use Rattle.hierarchy.specs.Meaning.{Meaning, Lawful, Kind, absent, node, box}
use Rattle.hierarchy.specs.Flat.{at, within, Enter, to_node, to_box}
use Rattle.guide.specs.Trees.{plain, marked, ring, Guide, entry_at, up, TreeHop, tree_edge, tree_leave}
use Rattle.guide.specs.Trees.{Sound, child, ring_seed, Chain, arrived, further, Good}
use Rattle.walk.specs.declared.frame.Way.{Way}
use Rattle.walk.specs.declared.frame.Way.TheVariants.{Pass, PassMarked, Lead, Ring}
use Rattle.walk.specs.declared.frame.Frame.{Frame}
use Rattle.walk.specs.Levels.{tree_of, is_pass_lem, goal_of_lem, turn_way, turn_left, turned, lead_level, pass_way, pass_on, inner}
use Rattle.walk.specs.Walks.{Stack, inmost, outer, shown, settle, land}
use Rattle.theory.proofs.Paths.{same_box, node_not_box}
use Rattle.walk.proofs.Climbs.{climb}

-- the outermost level
abbrev pub first : Stack → Frame
first (inmost lv) = lv
first (outer lv s) = lv

-- stacks that fit the guide
pub data Aim (m : Meaning) (g : Guide) (i : ℕ) : Way → ℕ → Type 0 where
  to_exit : {u : ℕ} → m.exits i u ≡ true → Aim m g i Pass u
  to_marked_exit : {u : ℕ} → m.exits i u ≡ true → Aim m g i PassMarked u
  to_aim : {u : ℕ} → u ≡ g.aim i → Chain m g i → Aim m g i Lead u
  to_turn : {u : ℕ} → u ≡ g.aim i → i ≡ g.home → Aim m g i Ring u

pub record Fit (m : Meaning) (g : Guide) (i : ℕ) (lv : Frame) : Type 0 where
  pub hops : (k : ℕ) → k < lv.left → TreeHop m g.tree i (up g.tree i (goal_of_lem lv) k)
  pub stands : lv.place ≡ (up g.tree i (goal_of_lem lv) lv.left).spot
  pub aims : Aim m g i lv.way lv.goal
  pub near : lv.left ≤ m.places + m.places

-- an inmost level has a hop to make, or is a pass at its exit
pub data Ready (lv : Frame) : Type 0 where
  goes : (n : ℕ) → lv.left ≡ suc n → Ready lv
  done : is_pass_lem lv.way ≡ true → lv.left ≡ 0 → Ready lv

-- why a level q lies inside a box at which the level lv stands
pub data Link (g : Guide) (i : ℕ) (lv q : Frame) : Type 0 where
  crossing : (n : ℕ) → lv.left ≡ suc n → is_pass_lem q.way ≡ true → q.goal ≡ (entry_at g.tree i (up g.tree i (goal_of_lem lv) n)).via → Link g i lv q
  handed : lv.way ≡ Lead → lv.left ≡ 0 → is_pass_lem q.way ≡ false → Link g i lv q

pub data Valid (m : Meaning) (g : Guide) : ℕ → Stack → Type 0 where
  alone : {i : ℕ} {lv : Frame} → Fit m g i lv → m.place i lv.place ≡ node → Ready lv → Valid m g i (inmost lv)
  above : {i j : ℕ} {lv : Frame} {s : Stack} → Fit m g i lv → m.place i lv.place ≡ box j → Link g i lv (first s) → Valid m g j s → Valid m g i (outer lv s)

-- a level that has just come to a place
pub data Awake (m : Meaning) (g : Guide) (i : ℕ) (lv : Frame) : Type 0 where
  moving : (n : ℕ) → lv.left ≡ suc n → Awake m g i lv
  ending : is_pass_lem lv.way ≡ true → lv.left ≡ 0 → Awake m g i lv
  handing : {j : ℕ} → lv.way ≡ Lead → lv.left ≡ 0 → m.place i lv.goal ≡ box j → Chain m g j → Awake m g i lv

abbrev pub frame : ℕ → Way → ℕ → ℕ → Frame
frame p w q n = record { place = p; way = w; goal = q; left = n }

pub turn_pass : (w : Way) (n : ℕ) (h : Bool) → is_pass_lem (turn_way w n h) ≡ is_pass_lem w
turn_pass Pass n h = refl
turn_pass PassMarked n h = refl
turn_pass Lead zero true = refl
turn_pass Lead zero false = refl
turn_pass Lead (suc n) h = refl
turn_pass Ring n h = refl

pub aim_lead : {m : Meaning} {g : Guide} {i u : ℕ} → Aim m g i Lead u → (u ≡ g.aim i) × Chain m g i
aim_lead (to_aim e c) = (e, c)

pub aim_ring : {m : Meaning} {g : Guide} {i u : ℕ} → Aim m g i Ring u → (u ≡ g.aim i) × (i ≡ g.home)
aim_ring (to_turn e c) = (e, c)

pub aim_pass : {m : Meaning} {g : Guide} {i u : ℕ} {w : Way} → Aim m g i w u → is_pass_lem w ≡ true → m.exits i u ≡ true
aim_pass (to_exit e) p = e
aim_pass (to_marked_exit e) p = e
aim_pass (to_aim e c) p = absurd (both_ways false refl p)
aim_pass (to_turn e c) p = absurd (both_ways false refl p)

module _ (m : Meaning) (g : Guide) where
  pub inner_place : (i j : ℕ) (lv : Frame) (n : ℕ) → (inner m g i lv j n).place ≡ m.entry j
  inner_place i j lv zero = refl
  inner_place i j lv (suc n) = refl

  pub land_enter : (i : ℕ) (lv : Frame) → (m.place i lv.place ≡ absent → ⊥) → Enter m i lv.place (shown (land m g i lv))
  land_enter i lv x = go (m.place i lv.place) refl
    where
      go : (q : Kind) → m.place i lv.place ≡ q → Enter m i lv.place (shown (settle m g i (turned g i lv) q))
      go absent e = absurd (x e)
      go node e = to_node e
      go (box j) e = subst (λ p. Enter m i lv.place (within lv.place (at p))) (sym (inner_place i j (turned g i lv) (turned g i lv).left)) (to_box e)

  pub land_first : (i : ℕ) (lv : Frame) → first (land m g i lv) ≡ turned g i lv
  land_first i lv = go (m.place i lv.place)
    where
      go : (q : Kind) → first (settle m g i (turned g i lv) q) ≡ turned g i lv
      go absent = refl
      go node = refl
      go (box j) = refl

abbrev pub settled : Meaning → Guide → ℕ → Frame → Stack
settled m g i lv = settle m g i lv (m.place i lv.place)

-- the level n tree edges from its goal
abbrev pub hopped : Guide → ℕ → Frame → ℕ → Frame
hopped g i lv n = frame (up g.tree i (goal_of_lem lv) n).spot lv.way lv.goal n

module _ {m : Meaning} (L : Lawful m) {g : Guide} (G : Good m g) where
  -- a level turned
  pub ring_back : {i q : ℕ} → i ≡ g.home → q ≡ g.aim i → (g.tree ring i q).reached ≡ true
  ring_back e f = let b = G.back in cc

  pub ring_deep : {i u : ℕ} → Sound m g.tree (g.aim g.home) i u ring → (n : ℕ) × ((g.tree ring i u).depth ≡ suc n)
  ring_deep (child {k = k} e s t h f) = (k, e)
  ring_deep (ring_seed e s t f) = (0, e)

  pub ring_fit : {i p q : ℕ} → i ≡ g.home → p ≡ g.aim i → q ≡ g.aim i →
      Fit m g i (frame p Ring q (g.tree ring i q).depth) × Awake m g i (frame p Ring q (g.tree ring i q).depth)
  ring_fit {i} {p} {q} e f h =
      let b = ring_back e h in
      let c = climb G (g.tree ring i q).depth ring i q e b refl in
      let far = ring_deep (G.sound ring i q e b) in
      (record { hops = c.hops; stands = f ∙ ap g.aim e ∙ sym c.foot; aims = to_turn h e; near = G.shallow ring i q e b }, moving far.0 far.1)

  pub hand : {i p q : ℕ} → (i ≡ g.home → ⊥) → q ≡ g.aim i → Chain m g i → Awake m g i (frame p Lead q zero)
  hand x f (arrived e r) = absurd (x e)
  hand {i} x f (further {j = j} r b c) = handing refl refl (rw f b) c

  pub turn_fit : (i p : ℕ) (w : Way) (q n : ℕ) (h : Bool) → eqb i g.home ≡ h → Fit m g i (frame p w q n) →
      Fit m g i (frame p (turn_way w n h) q (turn_left (g.tree ring i q).depth w n h)) ×
      Awake m g i (frame p (turn_way w n h) q (turn_left (g.tree ring i q).depth w n h))
  turn_fit i p Pass q zero h e F = (F, ending refl refl)
  turn_fit i p Pass q (suc n) h e F = (F, moving n refl)
  turn_fit i p PassMarked q zero h e F = (F, ending refl refl)
  turn_fit i p PassMarked q (suc n) h e F = (F, moving n refl)
  turn_fit i p Lead q zero true e F = let a = aim_lead F.aims in ring_fit (eqb-true _ _ e) (F.stands ∙ a.0) a.0
  turn_fit i p Lead q zero false e F = let a = aim_lead F.aims in (F, hand (eqb-false _ _ e) a.0 a.1)
  turn_fit i p Lead q (suc n) h e F = (F, moving n refl)
  turn_fit i p Ring q zero h e F = let a = aim_ring F.aims in ring_fit a.1 (F.stands ∙ a.0) a.0
  turn_fit i p Ring q (suc n) h e F = (F, moving n refl)

  pub turned_fit : {i : ℕ} {lv : Frame} → Fit m g i lv → Fit m g i (turned g i lv) × Awake m g i (turned g i lv)
  turned_fit {i} {lv} F = turn_fit i lv.place lv.way lv.goal lv.left (eqb i g.home) refl F

  -- a level pushed
  pub chain_aim : {i : ℕ} → Chain m g i → (g.tree plain i (g.aim i)).reached ≡ true
  chain_aim (arrived e r) = r
  chain_aim (further r b c) = r

  pub lead_fit : {i : ℕ} → i < m.structures → Chain m g i → Fit m g i (lead_level m g i) × Awake m g i (lead_level m g i)
  lead_fit {i} h c =
      let k = climb G (g.tree plain i (g.aim i)).depth plain i (g.aim i) h (chain_aim c) refl in
      turned_fit (record { hops = k.hops; stands = sym k.foot; aims = to_aim refl c; near = G.shallow plain i (g.aim i) h (chain_aim c) })

  pub pass_fit : {j e : ℕ} (w : Way) → j < m.structures → is_pass_lem w ≡ true → m.exits j e ≡ true → (g.tree (tree_of w) j e).reached ≡ true → Fit m g j (pass_on m g j e w)
  pass_fit {j} {e} Pass h p x r =
      let k = climb G (g.tree plain j e).depth plain j e h r refl in
      record { hops = k.hops; stands = sym k.foot; aims = to_exit x; near = G.shallow plain j e h r }
  pass_fit {j} {e} PassMarked h p x r =
      let k = climb G (g.tree marked j e).depth marked j e h r refl in
      record { hops = k.hops; stands = sym k.foot; aims = to_marked_exit x; near = G.shallow marked j e h r }
  pass_fit Lead h p x r = absurd (both_ways false refl p)
  pass_fit Ring h p x r = absurd (both_ways false refl p)

  pub pass_reached : {j e : ℕ} (s k : Bool) → m.mark j e ≡ k → (g.tree plain j e).reached ≡ true →
      (s ≡ true → (m.mark j e ≡ true) ⊎ ((g.tree marked j e).reached ≡ true)) →
      (is_pass_lem (pass_way s k) ≡ true) × ((g.tree (tree_of (pass_way s k)) j e).reached ≡ true)
  pass_reached true true q r f = (refl, r)
  pass_reached {j} {e} true false q r f = (refl, go (f refl))
    where
      go : (m.mark j e ≡ true) ⊎ ((g.tree marked j e).reached ≡ true) → (g.tree marked j e).reached ≡ true
      go (inl t) = absurd (both_ways _ q t)
      go (inr t) = t
  pass_reached false k q r f = (refl, r)

  -- a level that lands
  pub at_goal : {i : ℕ} {lv : Frame} → Fit m g i lv → lv.left ≡ 0 → lv.place ≡ lv.goal
  at_goal {i} {lv} F e = F.stands ∙ ap (λ n. (up g.tree i (goal_of_lem lv) n).spot) e

  pub end_node : {i : ℕ} {lv : Frame} → Fit m g i lv → is_pass_lem lv.way ≡ true → lv.left ≡ 0 → m.place i lv.place ≡ node
  end_node {i} F p e = rw (at_goal F e) (L.exit_node i _ (aim_pass F.aims p))

  pub node_ready : {i : ℕ} {lv : Frame} → Fit m g i lv → Awake m g i lv → m.place i lv.place ≡ node → Ready lv
  node_ready F (moving n e) q = goes n e
  node_ready F (ending p e) q = done p e
  node_ready {i} F (handing w e b c) q = absurd (node_not_box q (ap (m.place i) (at_goal F e) ∙ b))

  -- the hop that a level makes next
  pub stood : {i n : ℕ} {lv : Frame} → Fit m g i lv → lv.left ≡ suc n → lv.place ≡ (entry_at g.tree i (up g.tree i (goal_of_lem lv) n)).from
  stood {i} {n} {lv} F e = F.stands ∙ ap (λ k. (up g.tree i (goal_of_lem lv) k).spot) e

  pub hop_at : {i n : ℕ} {lv : Frame} → Fit m g i lv → lv.left ≡ suc n → TreeHop m g.tree i (up g.tree i (goal_of_lem lv) n)
  hop_at {n = n} F e = F.hops n (omega arith)

  -- ... out of a box
  pub record Crossed (i j n : ℕ) (lv : Frame) : Type 0 where
    pub exits : m.exits j (entry_at g.tree i (up g.tree i (goal_of_lem lv) n)).via ≡ true
    pub leaves : m.leave i lv.place (entry_at g.tree i (up g.tree i (goal_of_lem lv) n)).via (up g.tree i (goal_of_lem lv) n).spot ≡ true
    pub reached : (g.tree plain j (entry_at g.tree i (up g.tree i (goal_of_lem lv) n)).via).reached ≡ true
    pub seeds : (entry_at g.tree i (up g.tree i (goal_of_lem lv) n)).seed ≡ true →
        (m.mark j (entry_at g.tree i (up g.tree i (goal_of_lem lv) n)).via ≡ true) ⊎ ((g.tree marked j (entry_at g.tree i (up g.tree i (goal_of_lem lv) n)).via).reached ≡ true)

  pub crossed : {i j n : ℕ} {lv : Frame} → Fit m g i lv → lv.left ≡ suc n → m.place i lv.place ≡ box j → Crossed i j n lv
  crossed {i} {j} {n} {lv} F e b = go (hop_at F e)
    where
      at_from : lv.place ≡ (entry_at g.tree i (up g.tree i (goal_of_lem lv) n)).from
      at_from = stood F e

      go : TreeHop m g.tree i (up g.tree i (goal_of_lem lv) n) → Crossed i j n lv
      go (tree_edge d k) = absurd (node_not_box (L.edge_from _ _ _ d) (ap (m.place i) (sym at_from) ∙ b))
      go (tree_leave {j = j'} c l r k) =
          let q : j' ≡ j = same_box c (ap (m.place i) (sym at_from) ∙ b) in
          let f = L.leave_from _ _ _ _ l in
          record {
            exits = rw (same_box f.1 c ∙ q) at f.2;
            leaves = rw at_from l;
            reached = rw q at r;
            seeds = rw q at k;
          }

  -- ... over an edge
  pub record Edged (i n : ℕ) (lv : Frame) : Type 0 where
    pub edges : m.edge i lv.place (up g.tree i (goal_of_lem lv) n).spot ≡ true
    pub seeds : (entry_at g.tree i (up g.tree i (goal_of_lem lv) n)).seed ≡ true → m.mark i lv.place ≡ true

  pub edged : {i n : ℕ} {lv : Frame} → Fit m g i lv → lv.left ≡ suc n → m.place i lv.place ≡ node → Edged i n lv
  edged {i} {n} {lv} F e b = go (hop_at F e)
    where
      at_from : lv.place ≡ (entry_at g.tree i (up g.tree i (goal_of_lem lv) n)).from
      at_from = stood F e

      go : TreeHop m g.tree i (up g.tree i (goal_of_lem lv) n) → Edged i n lv
      go (tree_edge d k) = record { edges = rw at_from d; seeds = rw at_from k }
      go (tree_leave c l r k) = absurd (node_not_box b (ap (m.place i) at_from ∙ c))

  pub pass_in : {i j n : ℕ} {lv : Frame} → Fit m g i lv → lv.left ≡ suc n → m.place i lv.place ≡ box j →
      Fit m g j (inner m g i lv j (suc n)) × (is_pass_lem (inner m g i lv j (suc n)).way ≡ true)
  pass_in {i} {j} {n} {lv} F e b =
      let c = crossed F e b in
      let en = entry_at g.tree i (up g.tree i (goal_of_lem lv) n) in
      let r = pass_reached en.seed (m.mark j en.via) refl c.reached c.seeds in
      (pass_fit _ (L.inner _ _ _ b).1 r.0 c.exits r.1, r.0)

  pub pass_ready : {lv : Frame} → is_pass_lem lv.way ≡ true → Ready lv
  pass_ready {lv} p = go lv.left refl
    where
      go : (n : ℕ) → lv.left ≡ n → Ready lv
      go zero e = done p e
      go (suc n) e = goes n e

  pub lead_no_pass : (j : ℕ) → is_pass_lem (lead_level m g j).way ≡ false
  lead_no_pass j = turn_pass Lead (g.tree plain j (g.aim j)).depth (eqb j g.home)

  pub box_valid : {i j : ℕ} {lv : Frame} (n : ℕ) → lv.left ≡ n → Fit m g i lv → Awake m g i lv → m.place i lv.place ≡ box j →
      Valid m g i (outer lv (inmost (inner m g i lv j n)))
  box_valid zero e F (moving n f) b = absurd (omega arith)
  box_valid zero e F (ending p f) b = absurd (node_not_box (end_node F p f) b)
  box_valid {i} {j} {lv} zero e F (handing w f c k) b =
      let q = same_box (ap (m.place i) (at_goal F f) ∙ c) b in
      let h = (L.inner _ _ _ b).1 in
      let k' : Chain m g j = rw q at k in
      let l = lead_fit h k' in
      above F b (handed w f (lead_no_pass j)) (alone l.0 (L.entered j h) (node_ready l.0 l.1 (L.entered j h)))
  box_valid {i} {j} {lv} (suc n) e F a b =
      let p = pass_in F e b in
      above F b (crossing n e p.1 refl) (alone p.0 (L.entered j (L.inner _ _ _ b).1) (pass_ready p.1))

  pub settled_valid : {i : ℕ} {lv : Frame} → Fit m g i lv → Awake m g i lv → (m.place i lv.place ≡ absent → ⊥) → Valid m g i (settled m g i lv)
  settled_valid {i} {lv} F a x = go (m.place i lv.place) refl
    where
      go : (q : Kind) → m.place i lv.place ≡ q → Valid m g i (settle m g i lv q)
      go absent e = absurd (x e)
      go node e = alone F e (node_ready F a e)
      go (box j) e = box_valid _ refl F a e

  pub land_valid : {i : ℕ} {lv : Frame} → Fit m g i lv → (m.place i lv.place ≡ absent → ⊥) → Valid m g i (land m g i lv)
  land_valid F x = let t = turned_fit F in settled_valid t.0 t.1 x
