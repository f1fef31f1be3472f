-- A walk: the stack of its levels, how a step moves it, and that by a good guide it never ends.
-- Assumes nothing.
use Rattle.std.specs.Prelude.{◌≡◌, ℕ, zero, suc, Bool, true, false}
use Rattle.hierarchy.specs.Meaning.{Meaning, Lawful, Kind, absent, node, box}
use Rattle.hierarchy.specs.Flat.{State, at, within}
use Rattle.hierarchy.specs.Runs.{Run, MarkedOften}
use Rattle.guide.specs.Trees.{Guide, Good}
use Rattle.walk.specs.declared.frame.Frame.{Frame}
use Rattle.walk.specs.Levels.{is_pass_lem, hop, turned, lead_level, inner}

-- the levels, outermost first
pub data Stack : Type 0 where
  inmost : Frame → Stack
  outer : Frame → Stack → Stack

-- the flat state at which a walk stands
abbrev pub shown : Stack → State
shown (inmost f) = at f.place
shown (outer f s) = within f.place (shown s)

abbrev pub settle : Meaning → Guide → ℕ → Frame → Kind → Stack
settle m g i f absent = inmost f
settle m g i f node = inmost f
settle m g i f (box j) = outer f (inmost (inner m g i f j f.left))

-- a level of structure i has come to a place
abbrev pub land : Meaning → Guide → ℕ → Frame → Stack
land m g i f = settle m g i (turned g i f) (m.place i f.place)

-- the walk within a structure stands at the exit that it goes to
abbrev pub done_at : Bool → ℕ → Bool
done_at p zero = p
done_at p (suc n) = false

abbrev pub ended : Stack → Bool
ended (inmost f) = done_at (is_pass_lem f.way) f.left
ended (outer f s) = false

-- One step. Where the innermost level stands at its exit, the level around it makes its next hop, and it is gone; else the
-- innermost level makes its next hop.
abbrev pub choose : Frame → Stack → Stack → (ℕ → Stack) → Kind → Bool → Stack
choose f s out on absent b = outer f s
choose f s out on node b = outer f s
choose f s out on (box j) true = out
choose f s out on (box j) false = outer f (on j)

abbrev pub advance : Meaning → Guide → ℕ → Stack → Stack
advance m g i (inmost f) = land m g i (hop g i f)
advance m g i (outer f s) = choose f s (land m g i (hop g i f)) (λ j. advance m g j s) (m.place i f.place) (ended s)

-- the walk after n steps
abbrev pub walk : Meaning → Guide → ℕ → Stack
walk m g zero = inmost (lead_level m g 0)
walk m g (suc n) = advance m g 0 (walk m g n)

-- what the walk shows is an endless run that is marked without end
pub record ShowsRun (m : Meaning) (g : Guide) : Type 0 where
  pub run : Run m
  pub shows : (n : ℕ) → run.state n ≡ shown (walk m g n)
  pub often : MarkedOften m run

abbrev pub Walking : Type 0
Walking = (m : Meaning) → Lawful m → m.large ≡ false → (g : Guide) → Good m g → ShowsRun m g
