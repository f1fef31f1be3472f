-- How a step answers, from what the checked step does.
-- Assumes nothing.
use Rattle.std.proofs.Common.{◌≡◌, ℕ, ◌+◌, ◌*◌, ◌≤◌, Bool, true, false, cond, ltb, List, length, Some, None, Ok, Option, sym, refl, ap, ◌∙◌, subst, ltb-false}
use Rattle.hierarchy.specs.Meaning.{Meaning}
use Rattle.hierarchy.specs.declared.Size.{Size}
use Rattle.hierarchy.specs.declared.refusal.Refusal.{Refusal}
use Rattle.hierarchy.specs.declared.refusal.Refusal.TheVariants.{TooLarge, TooLittleMemory}
use Rattle.guide.specs.declared.GuideRecord.{GuideRecord}
use Rattle.guide.specs.Trees.{Guide, Good}
use Rattle.guide.specs.Layout.{guide_of}
use Rattle.walk.specs.declared.frame.Frame.{Frame}
use Rattle.walk.specs.declared.stand.Stand.{Stand}
use Rattle.walk.specs.declared.steps.Walk.{Walk}
use Rattle.walk.specs.Walks.{shown, advance, walk}
use Rattle.walk.specs.Standing.{stack_of, Moves}
use Rattle.walk.specs.Steps.{guide_for, levels_at, levels, shown_at, state_shown, lacking, size_or}

abbrev size_of : Meaning → Size
size_of m = record { structures = m.structures; places = m.places }

-- a size is answered only where nothing is amiss
pub sized_lacks : (m : Meaning) (k : Option Refusal) (s : Size) → Ok s ≡ size_or m k → (k ≡ None) × (s ≡ size_of m)
sized_lacks m (Some r) s e = absurd cc
sized_lacks m None s e = (refl, cc)

pub enough_frames : (m : Meaning) (r f : ℕ) → lacking m r f ≡ None → m.structures ≤ f
enough_frames m r f e = go m.large (ltb r ((m.structures + 1) * m.places)) (ltb f m.structures) refl e
  where
    go : (a b c : Bool) → ltb f m.structures ≡ c → cond a (Some TooLarge) (cond b (Some TooLittleMemory) (cond c (Some TooLittleMemory) None)) ≡ None → m.structures ≤ f
    go true b c q e = absurd cc
    go false true c q e = absurd cc
    go false false true q e = absurd cc
    go false false false q e = ltb-false _ _ q

pub not_large : (m : Meaning) (r f : ℕ) → lacking m r f ≡ None → m.large ≡ false
not_large m r f e = go m.large (cond (ltb r ((m.structures + 1) * m.places)) (Some TooLittleMemory) (cond (ltb f m.structures) (Some TooLittleMemory) None)) e
  where
    go : (a : Bool) (k : Option Refusal) → cond a (Some TooLarge) k ≡ None → a ≡ false
    go true k e = absurd cc
    go false k e = refl

pub shown_levels : (m : Meaning) (g : Guide) (w : Walk) (fs : List Frame) → shown (levels m g w fs) ≡ state_shown m w fs
shown_levels m g w fs = go w.stand
  where
    go : (o : Option Stand) → shown (levels_at m g fs o) ≡ shown_at m fs o
    go None = refl
    go (Some s) = refl

module _ (m : Meaning) (xs : List GuideRecord) (w : Walk) (z : Size) (sized : z ≡ size_of m) (old : List Frame) (s : Stand)
    (stands : (fs : List Frame) → stack_of fs s ≡ levels m (guide_of xs z.structures z.places w.home) w fs) where
  same_guide : guide_of xs z.structures z.places w.home ≡ guide_for m xs w
  same_guide = ap (λ (y : Size). guide_of xs y.structures y.places w.home) sized

  at_levels : stack_of old s ≡ levels m (guide_for m xs w) w old
  at_levels = stands old ∙ ap (λ g. levels m g w old) same_guide

  pub step_follows : (new : List Frame) (t : Stand) → Moves m (guide_of xs z.structures z.places w.home) (stack_of old s) (stack_of new t) →
      stack_of new t ≡ advance m (guide_for m xs w) 0 (levels m (guide_for m xs w) w old)
  step_follows new t M = M.follows ∙ (λ x. advance m (same_guide x) 0 (at_levels x))

  pub not_refused : ((n : ℕ) → Good m (guide_of xs z.structures z.places w.home) → stack_of old s ≡ walk m (guide_of xs z.structures z.places w.home) n → m.structures ≤ length old → ⊥) →
      (n : ℕ) → Good m (guide_for m xs w) → levels m (guide_for m xs w) w old ≡ walk m (guide_for m xs w) n → lacking m (length xs) (length old) ≡ None → ⊥
  not_refused refuses n G e l =
      refuses n (subst (Good m) (sym same_guide) G) (at_levels ∙ e ∙ ap (λ g. walk m g n) (sym same_guide)) (enough_frames m (length xs) (length old) l)
