-- Many steps of a walk: each keeps the home, follows the guide, and adds a transition to the path.
-- Assumes nothing.
use Rattle.std.proofs.Common.{◌≡◌, ℕ, suc, ◌+◌, true, List, length, is_ok, None, Result, sym, ap, ◌∙◌, subst, add-one, arith}
use Rattle.hierarchy.specs.Meaning.{Meaning}
use Rattle.hierarchy.specs.Flat.{State, Step}
use Rattle.hierarchy.specs.declared.refusal.Refusal.{Refusal}
use Rattle.guide.specs.declared.GuideRecord.{GuideRecord}
use Rattle.guide.specs.Trees.{Guide, Good}
use Rattle.guide.specs.Layout.{guide_of}
use Rattle.walk.specs.declared.frame.Frame.{Frame}
use Rattle.walk.specs.declared.steps.Walk.{Walk}
use Rattle.walk.specs.Walks.{shown, advance, walk}
use Rattle.walk.specs.Steps.{guide_for, guide_home, ring_home, levels, state_shown, lacking, Accepts, OnWay}
use Rattle.walk.specs.Journeys.{Path, more, StepsOn, state_after}
use Rattle.walk.proofs.Answered.{shown_levels}

-- one step more of a walk that keeps its home
module _ (m : Meaning) (xs : List GuideRecord) (first : Walk) (old : List Frame) (w : Walk) (fs : List Frame) (home : w.home ≡ first.home) where
  kept_guide : guide_for m xs w ≡ guide_for m xs first
  kept_guide = ap (guide_of xs m.structures m.places) home

  pub steps_on_more : (v : Walk) (new : List Frame) (i : ℕ) → StepsOn m (guide_for m xs first) i first old w fs →
      levels m (guide_for m xs w) v new ≡ advance m (guide_for m xs w) 0 (levels m (guide_for m xs w) w fs) →
      StepsOn m (guide_for m xs first) (i + 1) first old v new
  steps_on_more v new i s f k e =
      let g = guide_for m xs first in
      let q : suc (k + i) ≡ k + (i + 1) = omega arith in
      let a : levels m g v new ≡ advance m g 0 (levels m g w fs) = subst (λ x. levels m x v new ≡ advance m x 0 (levels m x w fs)) kept_guide f in
      a ∙ ap (advance m g 0) (s k e) ∙ ap (walk m g) q

  pub accepts_later : (i : ℕ) (r : Result (Unit {0}) Refusal) → StepsOn m (guide_for m xs first) i first old w fs → length fs ≡ length old → Accepts m xs w fs r → Accepts m xs first old r
  accepts_later i r s n a k G e l =
      a (k + i) (subst (Good m) (sym kept_guide) G) (subst (λ x. levels m x w fs ≡ walk m x (k + i)) (sym kept_guide) (s k e)) (ap (lacking m (length xs)) n ∙ l)

-- n steps from the start
module _ (m : Meaning) (xs : List GuideRecord) (home : ℕ) (w : Walk) (old : List Frame) (at_home : ring_home w ≡ home)
    (begins : (m : Meaning) (g : Guide) (fs : List Frame) → levels m g w fs ≡ walk m g 0) where
  home_guide : guide_for m xs w ≡ guide_home m xs home
  home_guide = ap (guide_home m xs) at_home

  pub started_levels : (n : ℕ) (v : Walk) (new : List Frame) → StepsOn m (guide_for m xs w) n w old v new → levels m (guide_home m xs home) v new ≡ walk m (guide_home m xs home) n
  started_levels n v new s =
      let q : 0 + n ≡ n = omega arith in
      subst (λ g. levels m g v new ≡ walk m g n) home_guide (s 0 (begins m (guide_for m xs w) old) ∙ ap (walk m (guide_for m xs w)) q)

  pub started_shown : (n : ℕ) (v : Walk) (new : List Frame) → StepsOn m (guide_for m xs w) n w old v new → state_shown m v new ≡ state_after m xs home n
  started_shown n v new s = sym (shown_levels m (guide_home m xs home) v new) ∙ ap shown (started_levels n v new s)

  pub started_on_way : (n : ℕ) (v : Walk) (new : List Frame) → StepsOn m (guide_for m xs w) n w old v new → ring_home v ≡ home → OnWay m xs n v new
  started_on_way n v new s h = subst (λ x. levels m (guide_home m xs x) v new ≡ walk m (guide_home m xs x) n) (sym h) (started_levels n v new s)

  pub started_accepted : (r : Result (Unit {0}) Refusal) → Accepts m xs w old r → Good m (guide_home m xs home) → lacking m (length xs) (length old) ≡ None → is_ok r ≡ true
  started_accepted r a G l = a 0 (subst (Good m) (sym home_guide) G) (begins m (guide_for m xs w) old) l

-- one transition more
pub path_more : (m : Meaning) (n : ℕ) (s t u : State) → Path m n s t → Step m 0 t u → Path m (n + 1) s u
path_more m n s t u p d = rw add-one (more p d)
