-- The walk by a good guide has no end, moves by transitions, and always has a mark ahead.
-- Assumes nothing.
use Rattle.std.proofs.Common.{◌≡◌, ℕ, zero, suc, ◌<◌, ◌≤◌, Bool, true, false, eqb, sym, refl, ap, ◌∙◌, subst, arith, eqb-true}
use borrow.Author.Tests.{eqb-false, both_ways}
use Rattle.hierarchy.specs.Meaning.{Meaning, Lawful, absent, box}
use Rattle.hierarchy.specs.Flat.{stop, step, Marked}
use Rattle.guide.specs.Trees.{ring, Guide}
use Rattle.guide.specs.Trees.{Good}
use Rattle.walk.specs.declared.frame.Way.{Way}
use Rattle.walk.specs.declared.frame.Way.TheVariants.{Pass, PassMarked, Lead, Ring}
use Rattle.walk.specs.declared.frame.Frame.{Frame}
use Rattle.walk.specs.Levels.{is_pass_lem, goal_of_lem, turn_way, turn_left}
use Rattle.walk.specs.Walks.{Stack, inmost, outer, shown, land, done_at, ended, advance, walk, ShowsRun, Walking}
use Rattle.theory.proofs.Paths.{append}
use Rattle.theory.proofs.Numbers.{down}
use Rattle.theory.proofs.Paths.{marked_inside}
use Rattle.walk.proofs.Climbs.{ring_apart, Seeded, seeds_of, deep}
use Rattle.walk.proofs.Fits.{first, settled, hopped, goes, done, crossing, handed, alone, above, Fit, Valid, aim_lead, aim_ring, frame, settled_valid, lead_no_pass, node_ready, ring_back, ring_fit, lead_fit, hand}
use Rattle.walk.proofs.Moves.{tree_end, move}
use Rattle.walk.proofs.Passes.{to_goal_marked, settle_first, ends_marked, goes_inside, to_goal, Deeper, Goes, ends}

module _ {m : Meaning} (L : Lawful m) {g : Guide} (G : Good m g) where
  -- a mark lies ahead
  pub record MarkAhead (i : ℕ) (s : Stack) : Type 0 where
    pub seen : Stack
    pub run : Goes L G i s seen
    pub there : Marked m i (shown seen)

  pub MarksAhead : ℕ → Type 0
  MarksAhead i = (s : Stack) → Valid m g i s → is_pass_lem (first s).way ≡ false → MarkAhead i s

  pub ring_ahead : {i p q : ℕ} → i ≡ g.home → p ≡ g.aim i → q ≡ g.aim i → (m.place i p ≡ absent → ⊥) → MarkAhead i (settled m g i (frame p Ring q (g.tree ring i q).depth))
  ring_ahead {i} {p} {q} e f h x =
      let lv = frame p Ring q (g.tree ring i q).depth in
      let b = ring_back L G e h in
      let F = (ring_fit L G e f h).0 in
      let k = deep G ring_apart (G.sound ring i q e b) in
      let S : Seeded g i (goal_of_lem lv) (suc k.0) = subst (Seeded g i (goal_of_lem lv)) k.1 (seeds_of G (g.tree ring i q).depth ring i q ring_apart e b refl) in
      let o = to_goal_marked L G k.0 {lv = lv} (λ j a b. ends L G j b) (λ j a b. ends_marked L G j b) F k.1 x S in
      record { seen = o.met; run = o.before; there = o.there }

  pub ahead_inside : {i j : ℕ} {lv : Frame} {s : Stack} → m.place i lv.place ≡ box j → MarkAhead j s → MarkAhead i (outer lv s)
  ahead_inside {i} {lv = lv} b r = record { seen = outer lv r.seen; run = goes_inside L G b r.run; there = marked_inside m i lv.place (shown r.seen) b r.there }

  pub ahead_zero : {i : ℕ} {s : Stack} → Deeper L G MarksAhead i → Valid m g i s → is_pass_lem (first s).way ≡ false → (first s).left ≡ 0 → MarkAhead i s
  unfolding MarksAhead
  ahead_zero D (alone F b (goes n e)) p z = absurd (omega arith)
  ahead_zero D (alone F b (done q e)) p z = absurd (both_ways _ p q)
  ahead_zero D (above F b (crossing n e q v) V) p z = absurd (omega arith)
  ahead_zero D (above {j = j} {s = s} F b (handed w e q) V) p z = ahead_inside b (D j (L.inner _ _ _ b).0 (L.inner _ _ _ b).1 s V q)

  pub ahead_land : (i p : ℕ) (w : Way) (q : ℕ) (h : Bool) → eqb i g.home ≡ h → Deeper L G MarksAhead i → Fit m g i (frame p w q 0) → is_pass_lem w ≡ false → (m.place i p ≡ absent → ⊥) →
      MarkAhead i (settled m g i (frame p (turn_way w 0 h) q (turn_left (g.tree ring i q).depth w 0 h)))
  ahead_land i p Pass q h e D F k x = absurd (both_ways true k refl)
  ahead_land i p PassMarked q h e D F k x = absurd (both_ways true k refl)
  ahead_land i p Lead q true e D F k x = let a = aim_lead F.aims in ring_ahead (eqb-true _ _ e) (F.stands ∙ a.0) a.0 x
  ahead_land i p Lead q false e D F k x =
      let a = aim_lead F.aims in
      let lv = frame p Lead q 0 in
      let f = settle_first L G i lv (m.place i p) in
      ahead_zero D (settled_valid L G F (hand L G (eqb-false _ _ e) a.0 a.1) x) (ap (λ l. is_pass_lem l.way) f) (ap (λ l. l.left) f)
  ahead_land i p Ring q h e D F k x = let a = aim_ring F.aims in ring_ahead a.1 (F.stands ∙ a.0) a.0 x

  pub fit_first : {i : ℕ} {s : Stack} → Valid m g i s → Fit m g i (first s)
  fit_first (alone F b R) = F
  fit_first (above F b K V) = F

  pub marks_ahead : (i : ℕ) → i < m.structures → MarksAhead i
  unfolding MarksAhead
  marks_ahead = down MarksAhead m.structures each
    where
      each : (i : ℕ) → i < m.structures → Deeper L G MarksAhead i → MarksAhead i
      each i h D s V p = go (first s).left refl
        where
          go : (n : ℕ) → (first s).left ≡ n → MarkAhead i s
          go zero e = ahead_zero D V p e
          go (suc n) e =
              let lv = first s in
              let F = fit_first V in
              let r = to_goal L G n (λ j a b. ends L G j b) V e in
              let y = tree_end L G (F.hops 0 (omega arith)) in
              let F0 : Fit m g i (hopped g i lv 0) = record { hops = λ k b. absurd (omega arith); stands = refl; aims = F.aims; near = omega arith } in
              let o : MarkAhead i (land m g i (hopped g i lv 0)) = ahead_land i lv.goal lv.way lv.goal (eqb i g.home) refl D F0 p y in
              record { seen = o.seen; run = append r o.run; there = o.there }

  -- the walk
  pub top_runs : (s : Stack) → is_pass_lem (first s).way ≡ false → ended s ≡ false
  top_runs (inmost lv) p = go lv.left
    where
      go : (n : ℕ) → done_at (is_pass_lem lv.way) n ≡ false
      go zero = p
      go (suc n) = refl
  top_runs (outer lv s) p = refl

  pub some_structure : m.large ≡ false → 0 < m.structures
  some_structure fits = let s = L.sized fits in omega arith

  pub walk_valid : m.large ≡ false → (n : ℕ) → Valid m g 0 (walk m g n) × (is_pass_lem (first (walk m g n)).way ≡ false)
  walk_valid fits zero =
      let h = some_structure fits in
      let l = lead_fit L G h G.chain in
      let nd = L.entered 0 h in
      (alone l.0 nd (node_ready L G l.0 l.1 nd), lead_no_pass L G 0)
  walk_valid fits (suc n) =
      let v = walk_valid fits n in
      let M = move L G v.0 (top_runs (walk m g n) v.1) in
      (M.valid, M.kinds ∙ v.1)

  pub run_walk : {s t : Stack} → Goes L G 0 s t → (n : ℕ) → s ≡ walk m g n → (k : ℕ) × (n ≤ k) × (t ≡ walk m g k)
  run_walk stop n e = (n, omega arith, e)
  run_walk (step a p) n e = let r = run_walk p (suc n) (sym a.next ∙ ap (advance m g 0) e) in (r.0, omega arith, r.2)

  pub shows_run : m.large ≡ false → ShowsRun m g
  unfolding MarksAhead
  shows_run fits = record {
    run = record { state = λ n. shown (walk m g n); begins = refl; moves = λ n. let v = walk_valid fits n in (move L G v.0 (top_runs (walk m g n) v.1)).moves };
    shows = λ n. refl;
    often = λ n. let v = walk_valid fits n in mark n (marks_ahead 0 (some_structure fits) (walk m g n) v.0 v.1);
  }
    where
      mark : (n : ℕ) → MarkAhead 0 (walk m g n) → (k : ℕ) × (n ≤ k) × Marked m 0 (shown (walk m g k))
      mark n o = let r = run_walk o.run n refl in (r.0, r.1, subst (λ s. Marked m 0 (shown s)) r.2 o.there)

pub walk_shows_run : Walking
walk_shows_run m L fits g G = shows_run L G fits
