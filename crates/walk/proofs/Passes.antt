-- A pass comes to its exit, and a marked pass meets a mark on its way.
-- Assumes nothing.
use Rattle.std.proofs.Common.{◌≡◌, ℕ, zero, suc, ◌<◌, Bool, true, false, eqb, ◌⊎◌, sym, refl, ap, ◌∙◌, subst, inl, inr, arith}
use native.Mathlib.Decide.{ℕ_discrete}
use borrow.Author.Tests.{both_ways}
use Rattle.hierarchy.specs.Meaning.{Meaning, Lawful, Kind, absent, node, box}
use Rattle.hierarchy.specs.Flat.{Star, stop, step, at, Marked}
use Rattle.guide.specs.declared.Entry.{Entry}
use Rattle.guide.specs.Trees.{marked, ring, Guide, entry_at, up}
use Rattle.guide.specs.Trees.{Good}
use Rattle.walk.specs.declared.frame.Way.{Way}
use Rattle.walk.specs.declared.frame.Way.TheVariants.{Pass, PassMarked, Lead, Ring}
use Rattle.walk.specs.declared.frame.Frame.{Frame}
use Rattle.walk.specs.Levels.{is_pass_lem, less, goal_of_lem, turn_way, turn_left, turned, pass_way, pass_on, inner}
use Rattle.walk.specs.Walks.{Stack, inmost, outer, shown, settle, land, ended, advance}
use Rattle.theory.proofs.Paths.{append, node_not_box}
use Rattle.theory.proofs.Numbers.{down}
use Rattle.theory.proofs.Paths.{marked_inside}
use Rattle.walk.proofs.Paths.{Meets}
use Rattle.walk.proofs.Climbs.{marked_apart, Seeded, seeds_of, deep}
use Rattle.walk.proofs.Fits.{first, settled, hopped, land_first, goes, crossing, handed, alone, above, moving, Fit, Valid, turn_pass, aim_pass, frame, settled_valid, pass_ready, land_valid, end_node, pass_fit, pass_in, crossed, hop_at, edged}
use Rattle.walk.proofs.Moves.{ended_goes, ended_done, finished, tree_end, hop_fit, adv_out, adv_in, Moved, move}
use Rattle.hierarchy.proofs.Beyond.{node_present}

module _ {m : Meaning} (L : Lawful m) {g : Guide} (G : Good m g) where
  -- runs
  pub record Advances (i : ℕ) (s t : Stack) : Type 0 where
    pub runs : ended s ≡ false
    pub next : advance m g i s ≡ t

  abbrev pub Goes : ℕ → Stack → Stack → Type 0
  Goes i = Star (Advances i)

  abbrev pub GoesMarked : ℕ → Stack → Stack → Type 0
  GoesMarked i = Meets (Advances i) (λ s. Marked m i (shown s))

  pub goes_valid : {i : ℕ} {s t : Stack} → Valid m g i s → Goes i s t → Valid m g i t
  goes_valid V stop = V
  goes_valid {i} V (step a p) = goes_valid (subst (Valid m g i) a.next (move L G V a.runs).valid) p

  pub goes_goal : {i : ℕ} {s t : Stack} → Valid m g i s → Goes i s t → ((first t).goal ≡ (first s).goal) × (is_pass_lem (first t).way ≡ is_pass_lem (first s).way)
  goes_goal V stop = (refl, refl)
  goes_goal {i} {s} V (step {b = b} a p) =
      let M : Moved L G i s b = subst (Moved L G i s) a.next (move L G V a.runs) in
      let r = goes_goal M.valid p in
      (r.0 ∙ M.goals, r.1 ∙ M.kinds)

  pub goes_inside : {i j : ℕ} {lv : Frame} {s t : Stack} → m.place i lv.place ≡ box j → Goes j s t → Goes i (outer lv s) (outer lv t)
  goes_inside b stop = stop
  goes_inside {lv = lv} {s = s} b (step a p) = step (record { runs = refl; next = adv_in L G lv s b a.runs ∙ ap (outer lv) a.next }) (goes_inside b p)

  pub goes_marked_inside : {i j : ℕ} {lv : Frame} {s t : Stack} → m.place i lv.place ≡ box j → GoesMarked j s t → GoesMarked i (outer lv s) (outer lv t)
  goes_marked_inside {i} {lv = lv} b r = record { met = outer lv r.met; before = goes_inside b r.before; there = marked_inside m i lv.place (shown r.met) b r.there; after = goes_inside b r.after }

  pub meet_then : {i : ℕ} {s t u : Stack} → GoesMarked i s t → Goes i t u → GoesMarked i s u
  meet_then r p = record { met = r.met; before = r.before; there = r.there; after = append r.after p }

  pub then_meet : {i : ℕ} {s t u : Stack} → Goes i s t → GoesMarked i t u → GoesMarked i s u
  then_meet p r = record { met = r.met; before = append p r.before; there = r.there; after = r.after }

  pub record Ended (j : ℕ) (s : Stack) : Type 0 where
    pub last : Stack
    pub run : Goes j s last
    pub over : ended last ≡ true

  pub record EndedMarked (j : ℕ) (s : Stack) : Type 0 where
    pub last : Stack
    pub run : GoesMarked j s last
    pub over : ended last ≡ true

  pub Ends : ℕ → Type 0
  Ends j = (s : Stack) → Valid m g j s → is_pass_lem (first s).way ≡ true → Ended j s

  pub EndsMarked : ℕ → Type 0
  EndsMarked j = (e : ℕ) → m.exits j e ≡ true → (g.tree marked j e).reached ≡ true → EndedMarked j (inmost (pass_on m g j e PassMarked))

  abbrev pub Deeper : (ℕ → Type 0) → ℕ → Type 0
  Deeper P i = (j : ℕ) → i < j → j < m.structures → P j

  -- the last step out L G of a box
  pub leave_step : {i j n : ℕ} {lv : Frame} {s : Stack} → m.place i lv.place ≡ box j → lv.left ≡ suc n → ended s ≡ true →
      Goes i (outer lv s) (land m g i (hopped g i lv n))
  leave_step {i} {lv = lv} {s = s} b e o = step (record { runs = refl; next = adv_out L G lv s b o ∙ ap (λ k. land m g i (hopped g i lv (less k))) e }) stop

  pub edge_step : {i n : ℕ} {lv : Frame} → lv.left ≡ suc n → Goes i (inmost lv) (land m g i (hopped g i lv n))
  edge_step {i} {lv = lv} e = step (record { runs = ended_goes L G lv e; next = ap (λ k. land m g i (hopped g i lv (less k))) e }) stop

  -- one hop of the first level
  pub one_hop : {i n : ℕ} {s : Stack} → Deeper Ends i → Valid m g i s → (first s).left ≡ suc n → Goes i s (land m g i (hopped g i (first s) n))
  unfolding Ends
  one_hop D (alone F b R) e = edge_step e
  one_hop {i} D (above {j = j} {s = s} F b (crossing k f p v) V) e =
      let en = D j (L.inner _ _ _ b).0 (L.inner _ _ _ b).1 s V p in
      append (goes_inside b en.run) (leave_step b e en.over)
  one_hop D (above F b (handed w f p) V) e = absurd (omega arith)

  pub turn_way_suc : (w : Way) (n : ℕ) (h : Bool) → turn_way w (suc n) h ≡ w
  turn_way_suc Pass n h = refl
  turn_way_suc PassMarked n h = refl
  turn_way_suc Lead n h = refl
  turn_way_suc Ring n h = refl

  pub turn_left_suc : (d : ℕ) (w : Way) (n : ℕ) (h : Bool) → turn_left d w (suc n) h ≡ suc n
  turn_left_suc d Pass n h = refl
  turn_left_suc d PassMarked n h = refl
  turn_left_suc d Lead n h = refl
  turn_left_suc d Ring n h = refl

  pub turned_suc : (i p : ℕ) (w : Way) (q n : ℕ) → turned g i (frame p w q (suc n)) ≡ frame p w q (suc n)
  turned_suc i p w q n = λ x. frame p (turn_way_suc w n (eqb i g.home) x) q (turn_left_suc (g.tree ring i q).depth w n (eqb i g.home) x)

  pub turn_left_pass : (d : ℕ) (w : Way) (n : ℕ) (h : Bool) → is_pass_lem w ≡ true → turn_left d w n h ≡ n
  turn_left_pass d Pass n h p = refl
  turn_left_pass d PassMarked n h p = refl
  turn_left_pass d Lead n h p = absurd (both_ways false refl p)
  turn_left_pass d Ring n h p = absurd (both_ways false refl p)

  -- all hops of the first level
  pub to_goal : (n : ℕ) {i : ℕ} {s : Stack} → Deeper Ends i → Valid m g i s → (first s).left ≡ suc n → Goes i s (land m g i (hopped g i (first s) 0))
  to_goal zero D V e = one_hop D V e
  to_goal (suc n) {i} {s} D V e =
      let p = one_hop D V e in
      let f : first (land m g i (hopped g i (first s) (suc n))) ≡ hopped g i (first s) (suc n) =
      land_first m g i (hopped g i (first s) (suc n)) ∙ turned_suc i (hopped g i (first s) (suc n)).place (first s).way (first s).goal n in
      let q = to_goal n D (goes_valid V p) (ap (λ l. l.left) f) in
      append p (subst (λ l. Goes i (land m g i (hopped g i (first s) (suc n))) (land m g i (hopped g i l 0))) f q)

  pub pass_end : {j : ℕ} {s : Stack} → Valid m g j s → is_pass_lem (first s).way ≡ true → (first s).left ≡ 0 → ended s ≡ true
  pass_end (alone {lv = lv} F b R) p e = ended_done L G lv p e
  pass_end (above F b K V) p e = absurd (node_not_box (end_node L G F p e) b)

  -- a pass that has landed L G at its goal is ended
  pub pass_landed : {j : ℕ} {s : Stack} (lv : Frame) → Valid m g j s → Goes j s (land m g j (hopped g j lv 0)) → is_pass_lem lv.way ≡ true → ended (land m g j (hopped g j lv 0)) ≡ true
  pass_landed {j} {s} lv V r p =
      let f = land_first m g j (hopped g j lv 0) in
      pass_end (goes_valid V r) (ap (λ l. is_pass_lem l.way) f ∙ turn_pass lv.way 0 (eqb j g.home) ∙ p)
      (ap (λ l. l.left) f ∙ turn_left_pass (g.tree ring j lv.goal).depth lv.way 0 (eqb j g.home) p)

  pub ends : (j : ℕ) → j < m.structures → Ends j
  unfolding Ends
  ends = down Ends m.structures each
    where
      each : (i : ℕ) → i < m.structures → Deeper Ends i → Ends i
      each i h D s V p = go (first s).left refl
        where
          go : (n : ℕ) → (first s).left ≡ n → Ended i s
          go zero e = record { last = s; run = stop; over = pass_end V p e }
          go (suc n) e =
              let r = to_goal n D V e in
              record { last = land m g i (hopped g i (first s) 0); run = r; over = pass_landed (first s) V r p }

  -- a seed hop, from where the level has just come
  pub seed_hop : {i n : ℕ} {lv : Frame} → Deeper Ends i → Deeper EndsMarked i → Fit m g i lv → lv.left ≡ suc n → (m.place i lv.place ≡ absent → ⊥) →
      (entry_at g.tree i (up g.tree i (goal_of_lem lv) n)).seed ≡ true → GoesMarked i (settled m g i lv) (land m g i (hopped g i lv n))
  unfolding Ends EndsMarked
  seed_hop {i} {n} {lv} D DM F e x sd = go (m.place i lv.place) refl
    where
      en : Entry
      en = entry_at g.tree i (up g.tree i (goal_of_lem lv) n)

      pass_ends : (j : ℕ) → m.place i lv.place ≡ box j → (s k : Bool) → en.seed ≡ s → m.mark j en.via ≡ k →
          Valid m g j (inmost (pass_on m g j en.via (pass_way s k))) → is_pass_lem (pass_way s k) ≡ true → EndedMarked j (inmost (pass_on m g j en.via (pass_way s k)))
      pass_ends j b true true es ek V p =
          let o = ends j (L.inner _ _ _ b).1 (inmost (pass_on m g j en.via Pass)) V p in
          let sh = (finished L G (goes_valid V o.run) o.over).0 ∙ ap at (goes_goal V o.run).0 in
          record {
            last = o.last;
            run = record { met = o.last; before = o.run; there = subst (Marked m j) (sym sh) ek; after = stop };
            over = o.over;
          }
      pass_ends j b true false es ek V p = DM j (L.inner _ _ _ b).0 (L.inner _ _ _ b).1 en.via (aim_pass (fit V).aims refl) (marks ((crossed L G F e b).seeds sd))
        where
          fit : {lv : Frame} → Valid m g j (inmost lv) → Fit m g j lv
          fit (alone F b R) = F

          marks : (m.mark j en.via ≡ true) ⊎ ((g.tree marked j en.via).reached ≡ true) → (g.tree marked j en.via).reached ≡ true
          marks (inl t) = absurd (both_ways _ ek t)
          marks (inr t) = t
      pass_ends j b false k es ek V p = absurd (both_ways _ es sd)

      through : (j : ℕ) → m.place i lv.place ≡ box j → (k : ℕ) → lv.left ≡ k → GoesMarked i (outer lv (inmost (inner m g i lv j k))) (land m g i (hopped g i lv n))
      through j b zero f = absurd (omega arith)
      through j b (suc k) f =
          let kn : n ≡ k = omega arith in
          let P = pass_in L G F e b in
          let V = alone P.0 (L.entered j (L.inner _ _ _ b).1) (pass_ready L G P.1) in
          let o : EndedMarked j (inmost (inner m g i lv j (suc n))) = pass_ends j b en.seed (m.mark j en.via) refl refl V P.1 in
          subst (λ y. GoesMarked i (outer lv (inmost (inner m g i lv j (suc y)))) (land m g i (hopped g i lv n))) kn
          (meet_then (goes_marked_inside {t = o.last} b o.run) (leave_step {s = o.last} b e o.over))

      go : (q : Kind) → m.place i lv.place ≡ q → GoesMarked i (settle m g i lv q) (land m g i (hopped g i lv n))
      go absent q = absurd (x q)
      go node q = record { met = inmost lv; before = stop; there = (edged L G F e q).seeds sd; after = edge_step e }
      go (box j) q = through j q lv.left refl

  pub settle_first : (i : ℕ) (lv : Frame) (q : Kind) → first (settle m g i lv q) ≡ lv
  settle_first i lv absent = refl
  settle_first i lv node = refl
  settle_first i lv (box j) = refl

  pub hopped_first : (n i : ℕ) (lv : Frame) → first (land m g i (hopped g i lv (suc n))) ≡ hopped g i lv (suc n)
  hopped_first n i lv = land_first m g i (hopped g i lv (suc n)) ∙ turned_suc i (hopped g i lv (suc n)).place lv.way lv.goal n

  pub land_more : (n i : ℕ) (lv : Frame) → Deeper Ends i → Valid m g i (land m g i (hopped g i lv (suc n))) →
      Goes i (land m g i (hopped g i lv (suc n))) (land m g i (hopped g i lv 0))
  land_more n i lv D V =
      let f = hopped_first n i lv in
      subst (λ l. Goes i (land m g i (hopped g i lv (suc n))) (land m g i (hopped g i l 0))) f (to_goal n D V (ap (λ l. l.left) f))

  pub to_goal_marked : (n : ℕ) {i : ℕ} {lv : Frame} → Deeper Ends i → Deeper EndsMarked i → Fit m g i lv → lv.left ≡ suc n → (m.place i lv.place ≡ absent → ⊥) →
      Seeded g i (goal_of_lem lv) (suc n) → GoesMarked i (settled m g i lv) (land m g i (hopped g i lv 0))
  to_goal_marked zero {i} {lv} D DM F e x S =
      let z : S.edge ≡ 0 = omega arith in
      seed_hop D DM F e x (ap (λ k. (entry_at g.tree i (up g.tree i (goal_of_lem lv) k)).seed) (sym z) ∙ S.seed)
  to_goal_marked (suc n) {i} {lv} D DM F e x S = go (ℕ_discrete S.edge (suc n)) (λ T. to_goal_marked n D DM (hop_fit L G F e) refl y T)
    where
      y : m.place i (up g.tree i (goal_of_lem lv) (suc n)).spot ≡ absent → ⊥
      y = tree_end L G (hop_at L G F e)

      V : Valid m g i (settled m g i lv)
      V = settled_valid L G F (moving (suc n) e) x

      f : first (settled m g i lv) ≡ lv
      f = settle_first i lv (m.place i lv.place)

      one : Goes i (settled m g i lv) (land m g i (hopped g i lv (suc n)))
      one = subst (λ l. Goes i (settled m g i lv) (land m g i (hopped g i l (suc n)))) f (one_hop D V (ap (λ l. l.left) f ∙ e))

      same : settled m g i (hopped g i lv (suc n)) ≡ land m g i (hopped g i lv (suc n))
      same = ap (λ l. settle m g i l (m.place i (hopped g i lv (suc n)).place)) (sym (turned_suc i (hopped g i lv (suc n)).place lv.way lv.goal n))

      go : Dec (S.edge ≡ suc n) → (Seeded g i (goal_of_lem lv) (suc n) → GoesMarked i (settled m g i (hopped g i lv (suc n))) (land m g i (hopped g i lv 0))) →
          GoesMarked i (settled m g i lv) (land m g i (hopped g i lv 0))
      go (yes z) rec =
          meet_then (seed_hop D DM F e x (ap (λ k. (entry_at g.tree i (up g.tree i (goal_of_lem lv) k)).seed) (sym z) ∙ S.seed))
          (land_more n i lv D (land_valid L G (hop_fit L G F e) y))
      go (no z) rec =
          let r = rec (record { edge = S.edge; below = omega arith; seed = S.seed }) in
          then_meet one (subst (λ s. GoesMarked i s (land m g i (hopped g i lv 0))) same r)

  pub ends_marked : (j : ℕ) → j < m.structures → EndsMarked j
  unfolding EndsMarked
  ends_marked = down EndsMarked m.structures each
    where
      each : (i : ℕ) → i < m.structures → Deeper EndsMarked i → EndsMarked i
      each i h DM e x r =
          let lv = pass_on m g i e PassMarked in
          let F : Fit m g i lv = pass_fit L G PassMarked h refl x r in
          let k = deep G marked_apart (G.sound marked i e h r) in
          let S : Seeded g i (goal_of_lem lv) (suc k.0) = subst (Seeded g i (goal_of_lem lv)) k.1 (seeds_of G (g.tree marked i e).depth marked i e marked_apart h r refl) in
          let nd = L.entered i h in
          let o : GoesMarked i (settled m g i lv) (land m g i (hopped g i lv 0)) = to_goal_marked k.0 (λ j a b. ends j b) DM F k.1 (node_present _ nd) S in
          let o' : GoesMarked i (inmost lv) (land m g i (hopped g i lv 0)) = subst (λ q. GoesMarked i (settle m g i lv q) (land m g i (hopped g i lv 0))) nd o in
          record { last = land m g i (hopped g i lv 0); run = o'; over = pass_landed lv (alone F nd (goes k.0 k.1)) (append o'.before o'.after) refl }
