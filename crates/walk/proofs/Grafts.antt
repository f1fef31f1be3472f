-- A stack as a list of outer levels and an innermost one, and the step seen from its inner end, where code works.
-- Assumes nothing.
use Rattle.std.proofs.Common.{◌≡◌, ℕ, zero, suc, ◌+◌, ◌<◌, ◌≤◌, true, false, List, [], ◌∷◌, length, sym, refl, ap, ◌∙◌, subst, arith}
use borrow.Author.Tests.{both_ways}
use Rattle.hierarchy.specs.Meaning.{Meaning, Lawful, box}
use Rattle.hierarchy.specs.Flat.{Step, inside, by_edge, by_leave}
use Rattle.guide.specs.Trees.{Guide, Good, up}
use Rattle.walk.specs.declared.frame.Frame.{Frame}
use Rattle.walk.specs.Levels.{less, is_pass_lem, goal_of_lem, hop, turned}
use Rattle.walk.specs.Walks.{Stack, inmost, outer, shown, land, done_at, ended, advance}
use Rattle.walk.specs.Standing.{graft}
use Rattle.walk.proofs.Fits.{Fit, Valid, alone, above, goes, done, crossing, handed, edged, crossed, land_enter, at_goal, turned_fit}
use Rattle.walk.proofs.Moves.{finished}

-- the frames lead from structure i to structure k, box by box
pub data Under (m : Meaning) : ℕ → List Frame → ℕ → Type 0 where
  under_none : {i : ℕ} → Under m i [] i
  under_box : {i j k : ℕ} {f : Frame} {fs : List Frame} → m.place i f.place ≡ box j → Under m j fs k → Under m i (f ∷ fs) k

-- a step of the inner part is a step of the whole
pub graft_step : {m : Meaning} {i k : ℕ} {fs : List Frame} (s t : Stack) → Under m i fs k → Step m k (shown s) (shown t) → Step m i (shown (graft fs s)) (shown (graft fs t))
graft_step s t under_none d = d
graft_step s t (under_box b U) d = inside b (graft_step s t U d)

module _ {m : Meaning} (g : Guide) where
  -- the step is made at the inner end
  pub advance_graft : {i k : ℕ} {fs : List Frame} (s : Stack) → Under m i fs k → ended s ≡ false → advance m g i (graft fs s) ≡ graft fs (advance m g k s)
  advance_graft s under_none o = refl
  advance_graft s (under_box {f = f} {fs = []} b under_none) o = rw (b, o) refl
  advance_graft s (under_box {f = f} {fs = x ∷ fs} b U) o = rw b (ap (outer f) (advance_graft s U o))

  pub advance_edge : {i k : ℕ} {fs : List Frame} (f : Frame) → Under m i fs k → ended (inmost f) ≡ false →
      advance m g i (graft fs (inmost f)) ≡ graft fs (land m g k (hop g k f))
  advance_edge f U o = advance_graft (inmost f) U o

  pub advance_leave : {i k j : ℕ} {fs : List Frame} (f e : Frame) → Under m i fs k → m.place k f.place ≡ box j → ended (inmost e) ≡ true →
      advance m g i (graft fs (outer f (inmost e))) ≡ graft fs (land m g k (hop g k f))
  advance_leave {fs = fs} f e U b o = advance_graft (outer f (inmost e)) U refl ∙ ap (graft fs) (rw (b, o) refl)

  pub valid_under : (fs : List Frame) (s : Stack) {i : ℕ} → Valid m g i (graft fs s) → (k : ℕ) × Under m i fs k × Valid m g k s
  valid_under [] s {i} V = (i, under_none, V)
  valid_under (f ∷ fs) s (above F b K V) = let r = valid_under fs s V in (r.0, under_box b r.1, r.2)

pub under_once : {m : Meaning} {i k k' : ℕ} (fs : List Frame) → Under m i fs k → Under m i fs k' → k ≡ k'
under_once [] under_none under_none = refl
under_once {m} {k' = k'} (f ∷ fs) (under_box {j = j} b U) (under_box {j = j'} b' U') =
    let e : j' ≡ j = cc in
    let V : Under m j fs k' = rw e at U' in
    under_once fs U V

pub under_long : {m : Meaning} {i k : ℕ} {fs : List Frame} → Lawful m → Under m i fs k → length fs + i ≤ k
under_long L under_none = omega arith
under_long L (under_box b U) = omega (arith, (L.inner _ _ _ b).0, under_long L U)

pub under_below : {m : Meaning} {i k : ℕ} {fs : List Frame} → Lawful m → i < m.structures → Under m i fs k → k < m.structures
under_below L h under_none = h
under_below L h (under_box b U) = under_below L (L.inner _ _ _ b).1 U

less_most : (n : ℕ) → less n ≤ n
less_most zero = omega arith
less_most (suc n) = omega arith

-- what code checks holds on a valid stack
module _ {m : Meaning} (L : Lawful m) {g : Guide} (G : Good m g) where
  pub edge_goes : {k : ℕ} (f : Frame) → Valid m g k (inmost f) → ended (inmost f) ≡ false → m.edge k f.place (hop g k f).place ≡ true
  edge_goes {k} f (alone F b (goes n e)) o =
      subst (λ d. m.edge k f.place (up g.tree k (goal_of_lem f) (less d)).spot ≡ true) (sym e) (edged L G F e b).edges
  edge_goes f (alone F b (done p e)) o = absurd (both_ways _ o (ap (done_at (is_pass_lem f.way)) e ∙ p))

  exit_at_goal : {j : ℕ} {f : Frame} → Valid m g j (inmost f) → ended (inmost f) ≡ true → f.place ≡ f.goal
  exit_at_goal {f = f} (alone F b (goes n e)) o = absurd (both_ways _ (ap (done_at (is_pass_lem f.way)) e) o)
  exit_at_goal (alone F b (done p e)) o = at_goal L G F e

  pub leave_goes : {k : ℕ} (f e : Frame) → Valid m g k (outer f (inmost e)) → ended (inmost e) ≡ true → m.leave k f.place e.place (hop g k f).place ≡ true
  leave_goes {k} f e (above F b (crossing n z p v) V) o =
      let q : e.place ≡ e.goal = exit_at_goal V o in
      subst (λ d. m.leave k f.place e.place (up g.tree k (goal_of_lem f) (less d)).spot ≡ true) (sym z) (rw (q, v) (crossed L G F z b).leaves)
  leave_goes f e (above F b (handed w z p) V) o = absurd (both_ways _ p (finished L G V o).1)

  -- ... and no goal is out of reach
  pub hop_near : {k : ℕ} {f : Frame} → Fit m g k f → (turned g k (hop g k f)).left ≤ m.places + m.places
  hop_near {k} {f} F =
      let l : less f.left ≤ f.left = less_most f.left in
      let H : Fit m g k (hop g k f) = record { hops = λ n b. F.hops n (omega arith); stands = refl; aims = F.aims; near = let h = F.near in omega arith } in
      (turned_fit L G H).0.near

  pub inner_near : {k : ℕ} {f : Frame} → Valid m g k (inmost f) → f.left ≤ m.places + m.places
  inner_near (alone F b R) = F.near

  pub outer_near : {k : ℕ} {f : Frame} {s : Stack} → Valid m g k (outer f s) → f.left ≤ m.places + m.places
  outer_near (above F b K V) = F.near

  pub inner_hop_near : {k : ℕ} {f : Frame} → Valid m g k (inmost f) → (turned g k (hop g k f)).left ≤ m.places + m.places
  inner_hop_near (alone F b R) = hop_near F

  pub outer_hop_near : {k : ℕ} {f : Frame} {s : Stack} → Valid m g k (outer f s) → (turned g k (hop g k f)).left ≤ m.places + m.places
  outer_hop_near (above F b K V) = hop_near F

-- ... and what it checks makes the step a transition, whatever the stack
pub edge_is_step : {m : Meaning} (L : Lawful m) (g : Guide) {k : ℕ} {fs : List Frame} (f : Frame) → Under m 0 fs k → m.edge k f.place (hop g k f).place ≡ true →
    Step m 0 (shown (graft fs (inmost f))) (shown (graft fs (land m g k (hop g k f))))
edge_is_step {m} L g {k} f U e = graft_step (inmost f) (land m g k (hop g k f)) U (by_edge e (land_enter m g k (hop g k f) (L.edge_to _ _ _ e)))

pub leave_is_step : {m : Meaning} (L : Lawful m) (g : Guide) {k : ℕ} {fs : List Frame} (f x : Frame) → Under m 0 fs k → m.leave k f.place x.place (hop g k f).place ≡ true →
    Step m 0 (shown (graft fs (outer f (inmost x)))) (shown (graft fs (land m g k (hop g k f))))
leave_is_step {m} L g {k} f x U e = graft_step (outer f (inmost x)) (land m g k (hop g k f)) U (by_leave e (land_enter m g k (hop g k f) (L.leave_to _ _ _ _ e)))
