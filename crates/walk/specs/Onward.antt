-- A walk along an endless run: where it stands, and that a step takes it on along the same run.
-- Assumes nothing.
use Rattle.std.specs.Prelude.{◌≡◌, ℕ, suc, true, false, List, length, is_ok, None, Result}
use Rattle.hierarchy.specs.Meaning.{Meaning, Lawful}
use Rattle.hierarchy.specs.Runs.{Run, MarkedOften}
use Rattle.hierarchy.specs.declared.refusal.Refusal.{Refusal}
use Rattle.guide.specs.declared.GuideRecord.{GuideRecord}
use Rattle.guide.specs.Trees.{Good}
use Rattle.walk.specs.declared.frame.Frame.{Frame}
use Rattle.walk.specs.declared.steps.Walk.{Walk}
use Rattle.walk.specs.Walks.{shown, walk}
use Rattle.walk.specs.Steps.{guide_for, guide_home, levels, state_shown, lacking}

-- The walk stands n steps along the run, and this guide leads on along it.
pub record Along (m : Meaning) (guide : List GuideRecord) (frames : List Frame) (run : Run m) (n : ℕ) (w : Walk) : Type 0 where
  -- what the walk shows is the run's n-th state, and by this guide the walk's k-th state is the run's, for every k
  pub here : state_shown m w frames ≡ run.state n
  pub ahead : (k : ℕ) → shown (walk m (guide_for m guide w) k) ≡ run.state k
  -- the guide is good, and the walk stands n steps along it
  pub good : Good m (guide_for m guide w)
  pub stands : levels m (guide_for m guide w) w frames ≡ walk m (guide_for m guide w) n

-- The walk stands n steps along an endless run from the initial state, whose moves are transitions of the flat form and
-- which is marked without end.
pub record AlongSome (m : Meaning) (guide : List GuideRecord) (frames : List Frame) (n : ℕ) (w : Walk) : Type 0 where
  pub run : Run m
  pub often : MarkedOften m run
  pub along : Along m guide frames run n w

-- a walk from a found mark starts along such a run, by every good guide
abbrev pub StartsRun : ℕ → Walk → Type 0
StartsRun home w =
    (m : Meaning) → Lawful m → m.large ≡ false → (guide : List GuideRecord) (frames : List Frame) → Good m (guide_home m guide home)
    → AlongSome m guide frames 0 w

-- with enough memory, a walk along a run is not refused, and then stands one step further along the same run
abbrev pub Onward : Meaning → List GuideRecord → Walk → List Frame → Result (Unit {0}) Refusal → Walk → List Frame → Type 0
Onward m guide w old r v new =
    (run : Run m) (n : ℕ) → Along m guide old run n w → lacking m (length guide) (length old) ≡ None → (is_ok r ≡ true) × Along m guide new run (suc n) v
