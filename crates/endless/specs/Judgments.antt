-- What is promised about endless runs: how a pile is judged by the good runs of its bottom, and how a walk shows one.
-- Assumes nothing.
use Rattle.std.specs.Prelude.{◌≡◌, ℕ, ◌*◌, cond, List, is_some, Some, None, Ok, Err, Option, Result, nat_lt}
use Rattle.std.specs.Result.{result_err}
use Rattle.hierarchy.specs.Meaning.{Meaning, Lawful}
use Rattle.hierarchy.specs.declared.refusal.Refusal.{Refusal}
use Rattle.hierarchy.specs.declared.refusal.Refusal.TheVariants.{TooLarge, TooLittleMemory}
use Rattle.monitor.specs.Automata.{Automaton, AllProper}
use Rattle.monitor.specs.Product.{laid}
use Rattle.monitor.specs.Piles.{GoodRun, widths, pile_too_large}
use Rattle.guide.specs.declared.GuideRecord.{GuideRecord}
use Rattle.judge.specs.Known.{Decides}
use Rattle.judge.specs.Piles.{pile_need}
use Rattle.walk.specs.declared.frame.Frame.{Frame}
use Rattle.walk.specs.declared.steps.Walk.{Walk}
use Rattle.walk.specs.Onward.{AlongSome}
use Rattle.endless.specs.declared.Judgment.{Judgment}

-- what holds of the judgment, and of the walk, if there is one
abbrev pub OnJudgment : (Judgment → Type 0) → Result Judgment Refusal → Type 0
OnJudgment P (Ok j) = P j
OnJudgment P (Err e) = Unit {0}

abbrev pub WalkIs : (Walk → Type 0) → Option Walk → Type 0
WalkIs P None = Unit {0}
WalkIs P (Some w) = P w

-- why a pile with so many guide records and frames is refused, by the size formulas worked from the bottom's size
abbrev pub pile_lacking : Meaning → List Automaton → ℕ → ℕ → Option Refusal
pile_lacking bottom automata records frames =
    cond (pile_too_large bottom automata) (Some TooLarge)
    (cond (nat_lt records (pile_need bottom automata)) (Some TooLittleMemory)
    (cond (nat_lt frames (bottom.structures * widths automata)) (Some TooLittleMemory) None))

-- a pile is refused exactly by the formulas; else there is a walk exactly if its bottom has a good run
pub record JudgedByGoodRuns (bottom : Meaning) (automata : List Automaton) (records frames : ℕ) (r : Result Judgment Refusal) : Type 0 where
  pub refused : result_err r ≡ pile_lacking bottom automata records frames
  pub recur : OnJudgment (λ j. Decides (is_some j.walk) (GoodRun bottom automata)) r

-- so for every bottom and every list of automata of which m is the pile
abbrev pub JudgedPiles : Meaning → ℕ → ℕ → Result Judgment Refusal → Type 0
JudgedPiles m records frames r =
    (bottom : Meaning) (automata : List Automaton) → Lawful bottom → AllProper automata → m ≡ laid automata bottom
    → JudgedByGoodRuns bottom automata records frames r

-- The walk stands after n steps of an endless run from the initial state, whose moves are transitions of the flat form and
-- which is marked without end. With this guide and these frames it goes on along that run, and no step is refused.
abbrev pub WalksOn : Meaning → List GuideRecord → List Frame → ℕ → Walk → Type 0
WalksOn = AlongSome
