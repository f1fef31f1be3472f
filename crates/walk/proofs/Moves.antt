-- A step of a stack that fits is a transition of the flat form, and the stack goes on fitting.
-- Assumes nothing.
use Rattle.std.proofs.Common.{◌≡◌, ℕ, suc, Bool, true, false, eqb, sym, refl, ap, ◌∙◌, subst, arith}
use borrow.Author.Tests.{both_ways}
use Rattle.hierarchy.specs.Meaning.{Meaning, Lawful, absent, box}
use Rattle.hierarchy.specs.Flat.{State, at, within, Enter, Step, by_edge, by_leave, inside}
use Rattle.guide.specs.Trees.{Guide, Vertex, entry_at, up, TreeHop, tree_edge, tree_leave}
use Rattle.guide.specs.Trees.{Good}
use Rattle.walk.specs.declared.frame.Frame.{Frame}
use Rattle.walk.specs.Levels.{is_pass_lem, less, goal_of_lem, hop}
use Rattle.walk.specs.Walks.{Stack, inmost, outer, shown, land, done_at, ended, advance}
use Rattle.walk.proofs.Fits.{first, hopped, land_enter, land_first, goes, done, crossing, handed, alone, above, Fit, Link, Valid, turn_pass, land_valid, Crossed, crossed, at_goal, hop_at, edged}

module _ {m : Meaning} (L : Lawful m) {g : Guide} (G : Good m g) where
  -- one step is a transition, and keeps the stack valid
  pub hop_fit : {i n : ℕ} {lv : Frame} → Fit m g i lv → lv.left ≡ suc n → Fit m g i (hopped g i lv n)
  hop_fit F e = record { hops = λ k b. F.hops k (omega arith); stands = refl; aims = F.aims; near = let h = F.near in omega arith }

  pub tree_end : {i : ℕ} {v : Vertex} → TreeHop m g.tree i v → m.place i v.spot ≡ absent → ⊥
  tree_end (tree_edge d k) = L.edge_to _ _ _ d
  tree_end (tree_leave c l r k) = L.leave_to _ _ _ _ l

  pub record Moved (i : ℕ) (s t : Stack) : Type 0 where
    pub moves : Step m i (shown s) (shown t)
    pub valid : Valid m g i t
    pub goals : (first t).goal ≡ (first s).goal
    pub kinds : is_pass_lem (first t).way ≡ is_pass_lem (first s).way

  pub landed : {i n : ℕ} {s : Stack} → Fit m g i (first s) → (first s).left ≡ suc n →
      ((t : State) → Enter m i (up g.tree i (goal_of_lem (first s)) n).spot t → Step m i (shown s) t) → Moved i s (land m g i (hop g i (first s)))
  landed {i} {n} {s} F e f = subst (λ k. Moved i s (land m g i (hopped g i (first s) k))) (sym (ap less e)) (record {
    moves = f _ (land_enter m g i (hopped g i (first s) n) x);
    valid = land_valid L G (hop_fit F e) x;
    goals = ap (λ l. l.goal) (land_first m g i (hopped g i (first s) n));
    kinds = ap (λ l. is_pass_lem l.way) (land_first m g i (hopped g i (first s) n)) ∙ turn_pass (first s).way n (eqb i g.home);
  })
    where
      x : m.place i (up g.tree i (goal_of_lem (first s)) n).spot ≡ absent → ⊥
      x = tree_end (hop_at L G F e)

  pub ended_goes : {n : ℕ} (lv : Frame) → lv.left ≡ suc n → ended (inmost lv) ≡ false
  ended_goes lv e = ap (done_at (is_pass_lem lv.way)) e

  pub ended_done : (lv : Frame) → is_pass_lem lv.way ≡ true → lv.left ≡ 0 → ended (inmost lv) ≡ true
  ended_done lv p e = ap (done_at (is_pass_lem lv.way)) e ∙ p

  pub finished : {j : ℕ} {s : Stack} → Valid m g j s → ended s ≡ true → (shown s ≡ at (first s).goal) × (is_pass_lem (first s).way ≡ true)
  finished (alone {lv = lv} F b (goes n e)) o = absurd (both_ways _ (ended_goes lv e) o)
  finished (alone {lv = lv} F b (done p e)) o = (ap at (at_goal L G F e), p)
  finished (above F b K V) o = absurd (both_ways false refl o)

  pub adv_out : {i j : ℕ} (lv : Frame) (s : Stack) → m.place i lv.place ≡ box j → ended s ≡ true → advance m g i (outer lv s) ≡ land m g i (hop g i lv)
  adv_out {i} {j} lv s b o = rw (b, o) refl

  pub adv_in : {i j : ℕ} (lv : Frame) (s : Stack) → m.place i lv.place ≡ box j → ended s ≡ false → advance m g i (outer lv s) ≡ outer lv (advance m g j s)
  adv_in {i} {j} lv s b o = rw (b, o) refl

  pub relink : {i : ℕ} {lv p q : Frame} → q.goal ≡ p.goal → is_pass_lem q.way ≡ is_pass_lem p.way → Link g i lv p → Link g i lv q
  relink e f (crossing n h p v) = crossing n h (f ∙ p) (e ∙ v)
  relink e f (handed w h p) = handed w h (f ∙ p)

  pub out : {i j : ℕ} {lv : Frame} {s : Stack} → Fit m g i lv → m.place i lv.place ≡ box j → Link g i lv (first s) → Valid m g j s → ended s ≡ true →
      Moved i (outer lv s) (land m g i (hop g i lv))
  out {i} {j} {lv} {s} F b (crossing n e p v) V o = landed {s = outer lv s} F e go
    where
      c : Crossed L G i j n lv
      c = crossed L G F e b

      sh : shown s ≡ at (entry_at g.tree i (up g.tree i (goal_of_lem lv) n)).via
      sh = (finished V o).0 ∙ ap at v

      go : (t : State) → Enter m i (up g.tree i (goal_of_lem lv) n).spot t → Step m i (within lv.place (shown s)) t
      go t y = subst (λ x. Step m i (within lv.place x) t) (sym sh) (by_leave c.leaves y)
  out F b (handed w e p) V o = absurd (both_ways _ p (finished V o).1)

  pub move : {i : ℕ} {s : Stack} → Valid m g i s → ended s ≡ false → Moved i s (advance m g i s)
  move (alone {lv = lv} F b (goes n e)) o = landed {s = inmost lv} F e (λ t. by_edge (edged L G F e b).edges)
  move (alone {lv = lv} F b (done p e)) o = absurd (both_ways _ o (ended_done lv p e))
  move {i} (above {j = j} {lv = lv} {s = s} F b K V) o = go (ended s) refl (move V)
    where
      go : (t : Bool) → ended s ≡ t → (ended s ≡ false → Moved j s (advance m g j s)) → Moved i (outer lv s) (advance m g i (outer lv s))
      go true t rec = subst (Moved i (outer lv s)) (sym (adv_out lv s b t)) (out F b K V t)
      go false t rec =
          let r = rec t in
          subst (Moved i (outer lv s)) (sym (adv_in lv s b t)) (record {
            moves = inside b r.moves;
            valid = above F b (relink r.goals r.kinds K) r.valid;
            goals = refl;
            kinds = refl;
          })
