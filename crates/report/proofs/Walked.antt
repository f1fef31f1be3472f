-- A walk by a good guide, step after step, and the lines of its states.
-- Assumes nothing.
use Rattle.std.proofs.Common.{◌≡◌, ℕ, suc, true, List, ◌++◌, length, is_ok, None, Result, sym, ap, ◌∙◌, subst}
use Rattle.hierarchy.specs.Meaning.{Meaning}
use Rattle.hierarchy.specs.Flat.{State}
use Rattle.hierarchy.specs.declared.refusal.Refusal.{Refusal}
use Rattle.guide.specs.declared.GuideRecord.{GuideRecord}
use Rattle.guide.specs.Trees.{Good}
use Rattle.walk.specs.declared.frame.Frame.{Frame}
use Rattle.walk.specs.declared.steps.Walk.{Walk}
use Rattle.walk.specs.Walks.{walk, advance, shown}
use Rattle.walk.specs.Steps.{levels, lacking, Accepts, guide_home, guide_for, ring_home, state_shown}
use Rattle.walk.proofs.Answered.{shown_levels}
use Rattle.report.specs.Text.{walk_state, state_line}
use Rattle.report.specs.Writing.{Room}

module _ (m : Meaning) (xs : List GuideRecord) (home : ℕ) where
  state_there : (w : Walk) (fs : List Frame) (i : ℕ) → levels m (guide_home m xs home) w fs ≡ walk m (guide_home m xs home) i → state_shown m w fs ≡ walk_state m xs home i
  state_there w fs i e = sym (shown_levels m (guide_home m xs home) w fs) ∙ ap shown e

  pub room_there : {n : ℕ} {a : List ℕ} (w : Walk) (fs : List Frame) (i : ℕ) → levels m (guide_home m xs home) w fs ≡ walk m (guide_home m xs home) i →
      Room n a (state_line m (walk_state m xs home i)) → Room n a (state_line m (state_shown m w fs))
  room_there {n} {a} w fs i e r = subst (λ (s : State). Room n a (state_line m s)) (sym (state_there w fs i e)) r

  pub line_there : (a : List ℕ) {b : List ℕ} (w : Walk) (fs : List Frame) (i : ℕ) → levels m (guide_home m xs home) w fs ≡ walk m (guide_home m xs home) i →
      b ≡ a ++ state_line m (state_shown m w fs) → b ≡ a ++ state_line m (walk_state m xs home i)
  line_there a w fs i e f = f ∙ ap (λ (s : State). a ++ state_line m s) (state_there w fs i e)

  pub next_there : (w v : Walk) (fs gs : List Frame) (i : ℕ) → ring_home w ≡ home → levels m (guide_home m xs home) w fs ≡ walk m (guide_home m xs home) i →
      levels m (guide_for m xs w) v gs ≡ advance m (guide_for m xs w) 0 (levels m (guide_for m xs w) w fs) → levels m (guide_home m xs home) v gs ≡ walk m (guide_home m xs home) (suc i)
  next_there w v fs gs i h e f =
      subst (λ (k : ℕ). levels m (guide_home m xs k) v gs ≡ advance m (guide_home m xs k) 0 (levels m (guide_home m xs k) w fs)) h f ∙ ap (advance m (guide_home m xs home) 0) e

  pub goes_on : (w : Walk) (fs : List Frame) (i : ℕ) (r : Result (Unit {0}) Refusal) → ring_home w ≡ home → Good m (guide_home m xs home) →
      levels m (guide_home m xs home) w fs ≡ walk m (guide_home m xs home) i → lacking m (length xs) (length fs) ≡ None → Accepts m xs w fs r → is_ok r ≡ true
  goes_on w fs i r h G e l a =
      a i (subst (λ (k : ℕ). Good m (guide_home m xs k)) (sym h) G) (subst (λ (k : ℕ). levels m (guide_home m xs k) w fs ≡ walk m (guide_home m xs k) i) (sym h) e) l
