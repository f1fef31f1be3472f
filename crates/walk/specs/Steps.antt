-- A walk and the frames lent to it: its levels, the flat state it shows, and how a step answers.
-- Assumes nothing.
use Rattle.std.specs.Prelude.{◌≡◌, ℕ, ◌+◌, ◌*◌, true, cond, List, length, is_ok, Some, None, Ok, Err, Option, Result, nat_lt}
use Rattle.hierarchy.specs.Meaning.{Meaning}
use Rattle.hierarchy.specs.Flat.{State, initial}
use Rattle.hierarchy.specs.declared.Size.{Size}
use Rattle.hierarchy.specs.declared.refusal.Refusal.{Refusal}
use Rattle.hierarchy.specs.declared.refusal.Refusal.TheVariants.{TooLarge, TooLittleMemory, NoTransition}
use Rattle.guide.specs.declared.GuideRecord.{GuideRecord}
use Rattle.guide.specs.Trees.{Guide, Good}
use Rattle.guide.specs.Layout.{guide_of}
use Rattle.walk.specs.declared.frame.Frame.{Frame}
use Rattle.walk.specs.declared.stand.Stand.{Stand}
use Rattle.walk.specs.declared.steps.Walk.{Walk}
use Rattle.walk.specs.Walks.{Stack, shown, advance, walk}
use Rattle.walk.specs.Standing.{stack_of}

-- the guide that memory is for this hierarchy, with the ring in the structure `home`
abbrev pub guide_home : Meaning → List GuideRecord → ℕ → Guide
guide_home m xs home = guide_of xs m.structures m.places home

-- the structure that has the ring of a walk, and the guide that memory is for it
abbrev pub ring_home : Walk → ℕ
ring_home w = w.home

abbrev pub guide_for : Meaning → List GuideRecord → Walk → Guide
guide_for m xs w = guide_home m xs (ring_home w)

-- the levels of a walk; before its first step those with which every walk begins
abbrev pub levels_at : Meaning → Guide → List Frame → Option Stand → Stack
levels_at m g fs None = walk m g 0
levels_at m g fs (Some s) = stack_of fs s

abbrev pub levels : Meaning → Guide → Walk → List Frame → Stack
levels m g w fs = levels_at m g fs w.stand

-- the flat state that a walk shows; before its first step the initial one
abbrev pub shown_at : Meaning → List Frame → Option Stand → State
shown_at m fs None = initial m 0
shown_at m fs (Some s) = shown (stack_of fs s)

abbrev pub state_shown : Meaning → Walk → List Frame → State
state_shown m w fs = shown_at m fs w.stand

-- what is amiss with so many guide records and frames, in the order in which it is refused
abbrev pub lacking : Meaning → ℕ → ℕ → Option Refusal
lacking m records frames =
    cond m.large (Some TooLarge)
    (cond (nat_lt records ((m.structures + 1) * m.places)) (Some TooLittleMemory) (cond (nat_lt frames m.structures) (Some TooLittleMemory) None))

-- the size, or that refusal
abbrev pub size_or : Meaning → Option Refusal → Result Size Refusal
size_or m (Some k) = Err k
size_or m None = Ok (record { structures = m.structures; places = m.places })

-- a call is refused for what is amiss, and else only because it finds no transition
abbrev pub Answers : {X : Type 0} → Option Refusal → Result X Refusal → Type 0
Answers (Some k) r = r ≡ Err k
Answers None (Ok x) = Unit {0}
Answers None (Err k) = k ≡ NoTransition

-- nothing is altered
abbrev pub Same : Walk → List Frame → Walk → List Frame → Type 0
Same w old v new = (v ≡ w) × (new ≡ old)

-- the walk has made n steps along the guide
abbrev pub OnWay : Meaning → List GuideRecord → ℕ → Walk → List Frame → Type 0
OnWay m xs n w fs = levels m (guide_for m xs w) w fs ≡ walk m (guide_for m xs w) n

-- a step along the guide
abbrev pub Follows : Meaning → Guide → Walk → List Frame → Walk → List Frame → Type 0
Follows m g w old v new = levels m g v new ≡ advance m g 0 (levels m g w old)

-- with nothing amiss, a walk that is on its way along a good guide is not refused
abbrev pub Accepts : Meaning → List GuideRecord → Walk → List Frame → Result (Unit {0}) Refusal → Type 0
Accepts m xs w fs r = (n : ℕ) → Good m (guide_for m xs w) → OnWay m xs n w fs → lacking m (length xs) (length fs) ≡ None → is_ok r ≡ true
