-- Many steps of a walk: the transitions that they show, and how they answer.
-- Assumes nothing.
use Rattle.std.specs.Prelude.{◌≡◌, ℕ, suc, ◌+◌, ◌<◌, cond, List, Some, None, Ok, Err, Option, Result, ◌==◌}
use Rattle.hierarchy.specs.Meaning.{Meaning}
use Rattle.hierarchy.specs.Flat.{State, Step}
use Rattle.hierarchy.specs.declared.refusal.Refusal.{Refusal}
use Rattle.guide.specs.declared.GuideRecord.{GuideRecord}
use Rattle.guide.specs.Trees.{Guide}
use Rattle.walk.specs.declared.frame.Frame.{Frame}
use Rattle.walk.specs.declared.steps.Walk.{Walk}
use Rattle.walk.specs.Walks.{shown, walk}
use Rattle.walk.specs.Steps.{levels, guide_home}

-- so many transitions lead from one state to another
pub data Path (m : Meaning) : ℕ → State → State → Type 0 where
  stay : {s : State} → Path m 0 s s
  more : {n : ℕ} {s t u : State} → Path m n s t → Step m 0 t u → Path m (suc n) s u

-- n transitions were shown, or fewer where one is refused
abbrev pub Walked : Meaning → ℕ → State → State → Result (Unit {0}) Refusal → Type 0
Walked m n s t (Ok u) = Path m n s t
Walked m n s t (Err k) = (i : ℕ) × (i < n) × Path m i s t

-- no step needs no memory
abbrev pub unless_none : ℕ → Option Refusal → Option Refusal
unless_none n k = cond (n == 0) None k

-- what holds where something is amiss
abbrev pub WhereLacking : Option Refusal → Type 0 → Type 0
WhereLacking lack P = (k : Refusal) → lack ≡ Some k → P

-- n steps further along the guide
abbrev pub StepsOn : Meaning → Guide → ℕ → Walk → List Frame → Walk → List Frame → Type 0
StepsOn m g n w old v new = (k : ℕ) → levels m g w old ≡ walk m g k → levels m g v new ≡ walk m g (k + n)

-- what the walk shows after n steps from the start
abbrev pub state_after : Meaning → List GuideRecord → ℕ → ℕ → State
state_after m xs home n = shown (walk m (guide_home m xs home) n)

-- what holds of the walk, if there is one
abbrev pub OnWalk : (Walk → Type 0) → Result Walk Refusal → Type 0
OnWalk P (Ok w) = P w
OnWalk P (Err k) = Unit {0}
