-- Where a walk stands: its levels, in the frames lent to it and in itself. What its step does, whatever memory holds.
-- Assumes nothing.
use Rattle.std.specs.Prelude.{◌≡◌, ℕ, ◌+◌, ◌<◌, ◌≤◌, Bool, true, false, List, [], ◌∷◌, length, take, Some, None, Option, ◌≢◌}
use Rattle.hierarchy.specs.Meaning.{Meaning, Kind, absent, node, box}
use Rattle.hierarchy.specs.Flat.{Step}
use Rattle.guide.specs.Trees.{Guide, Good}
use Rattle.walk.specs.declared.frame.Frame.{Frame}
use Rattle.walk.specs.declared.stand.Stand.{Stand}
use Rattle.walk.specs.Levels.{turned}
use Rattle.walk.specs.Walks.{Stack, inmost, outer, shown, ended, land, advance, walk}

-- the structure that frames lead to from structure i, if each stands at a box
abbrev pub through_box : Kind → (ℕ → Option ℕ) → Option ℕ
through_box absent k = None
through_box node k = None
through_box (box j) k = k j

abbrev pub located : Meaning → ℕ → List Frame → Option ℕ
located m i [] = Some i
located m i (f ∷ fs) = through_box (m.place i f.place) (λ j. located m j fs)

-- levels in frames around a stack
abbrev pub graft : List Frame → Stack → Stack
graft [] s = s
graft (f ∷ fs) s = outer f (graft fs s)

abbrev pub stack_of : List Frame → Stand → Stack
stack_of fs s = graft (take s.depth fs) (inmost s.last)

-- What coming to a place leaves, below the first d frames. It is refused only where the place is absent, where there is no
-- frame for it, or where its goal is out of reach.
abbrev pub Landed : Meaning → Guide → ℕ → ℕ → Frame → List Frame → List Frame → Option Stand → Type 0
Landed m g d i f old new (Some s) = (m.place i f.place ≢ absent) × (stack_of new s ≡ graft (take d old) (land m g i f))
Landed m g d i f old new None =
    (new ≡ old) × ((m.place i f.place ≢ absent) → d < length old → (turned g i f).left ≤ m.places + m.places → ⊥)

-- a step shows a transition, and follows the guide
pub record Moves (m : Meaning) (g : Guide) (before after : Stack) : Type 0 where
  pub transition : Step m 0 (shown before) (shown after)
  pub follows : after ≡ advance m g 0 before

-- a level, and the level inside the box at which it stands, if there is one
abbrev pub around : Frame → Option Frame → Stack
around f None = inmost f
around f (Some x) = outer f (inmost x)

-- the next step is a hop of the level: there is none inside it, or the one inside has come to its exit
abbrev pub Hops : Frame → Option Frame → Type 0
Hops f None = ended (inmost f) ≡ false
Hops f (Some x) = ended (inmost x) ≡ true

-- whether the flat form has the hop of a level of structure i to place p: an edge, or a leave by the exit of the level inside
abbrev pub allowed : Meaning → ℕ → Frame → Option Frame → ℕ → Bool
allowed m i f None p = m.edge i f.place p
allowed m i f (Some x) p = m.leave i f.place x.place p

-- a step that is refused alters no frame, and a walk that followed a good guide is not refused
abbrev pub OutcomeOf : Meaning → Guide → Stack → List Frame → List Frame → Option Stand → Type 0
OutcomeOf m g before old new (Some t) = Moves m g before (stack_of new t)
OutcomeOf m g before old new None =
    (new ≡ old) × ((n : ℕ) → Good m g → before ≡ walk m g n → m.structures ≤ length old → ⊥)

abbrev pub Outcome : Meaning → Guide → List Frame → List Frame → Stand → Option Stand → Type 0
Outcome m g old new s r = OutcomeOf m g (stack_of old s) old new r
