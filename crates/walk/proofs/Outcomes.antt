-- What a checked step does: on success it is a transition and follows the guide; a walk of a good guide is never refused.
-- Assumes nothing.
use Rattle.std.proofs.Common.{◌≡◌, ℕ, ◌+◌, ◌<◌, ◌≤◌, ◌≢◌, true, false, List, length, take, Some, None, Option, sym, ap, ◌∙◌, subst, arith, length-take}
use borrow.Author.Tests.{both_ways}
use Rattle.hierarchy.specs.Meaning.{Meaning, Lawful, absent}
use Rattle.guide.specs.Trees.{Guide, Good}
use Rattle.walk.specs.declared.frame.Frame.{Frame}
use Rattle.walk.specs.declared.stand.Stand.{Stand}
use Rattle.walk.specs.Levels.{is_pass_lem, hop, turned}
use Rattle.walk.specs.Walks.{Stack, inmost, outer, land, walk}
use Rattle.walk.specs.Standing.{located, graft, stack_of, around, Hops, allowed, Landed, Moves, OutcomeOf}
use Rattle.walk.proofs.Fits.{Valid, first}
use Rattle.walk.proofs.Endless.{walk_valid, some_structure}
use Rattle.walk.proofs.Grafts.{Under, valid_under, under_once, under_long, under_below, edge_goes, leave_goes, inner_near, outer_near, inner_hop_near, outer_hop_near, advance_edge, advance_leave, edge_is_step, leave_is_step}
use Rattle.walk.proofs.Safe.{located→, located←}

module _ {m : Meaning} (L : Lawful m) (fits : m.large ≡ false) (g : Guide) where
  walk_is_valid : (n : ℕ) (s : Stack) → Good m g → s ≡ walk m g n → Valid m g 0 s
  walk_is_valid n s G e = subst (Valid m g 0) (sym e) (walk_valid L G fits n).0

  -- the inner part of a walk's stack
  inner_valid : (fs : List Frame) (s : Stack) (k n : ℕ) → located m 0 fs ≡ Some k → Good m g → graft fs s ≡ walk m g n → Valid m g k s
  inner_valid fs s k n e G w =
      let r = valid_under g fs s (walk_is_valid n _ G w) in
      let q : r.0 ≡ k = under_once fs r.1 (located→ m fs 0 k e) in
      subst (λ j. Valid m g j s) q r.2

  -- a walk has fewer boxes than there are structures
  pub depth_small : (old : List Frame) (d n : ℕ) (s : Stack) → Good m g → graft (take d old) s ≡ walk m g n → m.structures ≤ length old → d < length old
  depth_small old d n s G w h =
      let r = valid_under g (take d old) s (walk_is_valid n _ G w) in
      let a = under_long L r.1 in
      let b = under_below L (some_structure L G fits) r.1 in
      omega (arith, length-take d old)

  -- frames that lead nowhere
  pub not_lost : (fs : List Frame) (s : Stack) (n : ℕ) → located m 0 fs ≡ None → Good m g → graft fs s ≡ walk m g n → ⊥
  not_lost fs s n e G w =
      let r = valid_under g fs s (walk_is_valid n _ G w) in
      let f = located← m fs 0 r.0 r.1 in
      cc

  -- a hop of a level of the walk's stack is near, and the flat form has it
  pub hop_near : (fs : List Frame) (f : Frame) (o : Option Frame) (k n : ℕ) → located m 0 fs ≡ Some k → Good m g → graft fs (around f o) ≡ walk m g n → f.left ≤ m.places + m.places
  hop_near fs f None k n e G w = inner_near L G (inner_valid fs (inmost f) k n e G w)
  hop_near fs f (Some x) k n e G w = outer_near L G (inner_valid fs (outer f (inmost x)) k n e G w)

  hopped_near : (fs : List Frame) (f : Frame) (o : Option Frame) (k n : ℕ) → located m 0 fs ≡ Some k → Good m g → graft fs (around f o) ≡ walk m g n →
      (turned g k (hop g k f)).left ≤ m.places + m.places
  hopped_near fs f None k n e G w = inner_hop_near L G (inner_valid fs (inmost f) k n e G w)
  hopped_near fs f (Some x) k n e G w = outer_hop_near L G (inner_valid fs (outer f (inmost x)) k n e G w)

  pub hop_there : (fs : List Frame) (f next : Frame) (o : Option Frame) (k n : ℕ) → located m 0 fs ≡ Some k → next ≡ hop g k f → Hops f o → Good m g → graft fs (around f o) ≡ walk m g n →
      allowed m k f o next.place ≡ true
  hop_there fs f next None k n e is o G w = rw is (edge_goes L G f (inner_valid fs (inmost f) k n e G w) o)
  hop_there fs f next (Some x) k n e is o G w = rw is (leave_goes L G f x (inner_valid fs (outer f (inmost x)) k n e G w) o)

  -- it ends at a place, is a transition, and is what the guide says
  hop_to : (k p : ℕ) (f : Frame) (o : Option Frame) → allowed m k f o p ≡ true → m.place k p ≢ absent
  hop_to k p f None x = L.edge_to _ _ _ x
  hop_to k p f (Some l) x = L.leave_to _ _ _ _ x

  hop_moves : (fs : List Frame) (k : ℕ) (f : Frame) (o : Option Frame) → Under m 0 fs k → Hops f o → allowed m k f o (hop g k f).place ≡ true →
      Moves m g (graft fs (around f o)) (graft fs (land m g k (hop g k f)))
  hop_moves fs k f None U o x = record { transition = edge_is_step L g f U x; follows = sym (advance_edge g f U o) }
  hop_moves fs k f (Some l) U o x = record { transition = leave_is_step L g f l U x; follows = sym (advance_leave g f l U (L.leave_from _ _ _ _ x).1 o) }

  pub hop_outcome : (old new : List Frame) (d k : ℕ) (f next : Frame) (o : Option Frame) (r : Option Stand) →
      located m 0 (take d old) ≡ Some k → next ≡ hop g k f → allowed m k f o next.place ≡ true → Hops f o →
      Landed m g d k next old new r → OutcomeOf m g (graft (take d old) (around f o)) old new r
  hop_outcome old new d k f next o (Some t) e is x h l =
      let fs = take d old in
      let q : stack_of new t ≡ graft fs (land m g k (hop g k f)) = l.1 ∙ ap (λ a. graft fs (land m g k a)) is in
      subst (Moves m g (graft fs (around f o))) (sym q) (hop_moves fs k f o (located→ m fs 0 k e) h (rw is at x))
  hop_outcome old new d k f next o None e is x h l = (
    l.0,
    λ n G w s. l.1 (hop_to k next.place f o x) (depth_small old d n _ G w s) (rw is (hopped_near (take d old) f o k n e G w)),
  )

  -- at the outermost level there is no pass
  pub no_pass_outside : (fs : List Frame) (s : Stand) (n : ℕ) → s.depth ≡ 0 → is_pass_lem s.last.way ≡ true → Good m g → stack_of fs s ≡ walk m g n → ⊥
  no_pass_outside fs s n e p G w =
      let z : inmost s.last ≡ walk m g n = ap (λ k. graft (take k fs) (inmost s.last)) (sym e) ∙ w in
      both_ways _ (ap (λ t. is_pass_lem (first t).way) z ∙ (walk_valid L G fits n).1) p
