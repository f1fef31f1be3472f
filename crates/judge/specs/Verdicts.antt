-- What a judgment answers: why it is refused, and what its verdict and its guide are worth.
-- Assumes nothing.
use Rattle.std.specs.Prelude.{ℕ, ◌+◌, ◌*◌, cond, List, Some, None, Ok, Err, Option, Result, nat_lt}
use Rattle.hierarchy.specs.Meaning.{Meaning}
use Rattle.hierarchy.specs.declared.refusal.Refusal.{Refusal}
use Rattle.hierarchy.specs.declared.refusal.Refusal.TheVariants.{TooLarge, TooLittleMemory}
use Rattle.guide.specs.declared.GuideRecord.{GuideRecord}
use Rattle.guide.specs.Trees.{Good}
use Rattle.guide.specs.Layout.{guide_of}
use Rattle.theory.specs.Hops.{MarkedRound}
use Rattle.judge.specs.declared.FoundMark.{FoundMark}
use Rattle.judge.specs.declared.Verdict.{Verdict}

-- the guide records that a judgment needs
abbrev pub guide_need : Meaning → ℕ
guide_need m = (m.structures + 1) * m.places

-- why a judgment with n guide records is refused
abbrev pub judge_refusal : Meaning → ℕ → Option Refusal
judge_refusal m n = cond m.large (Some TooLarge) (cond (nat_lt n (guide_need m)) (Some TooLittleMemory) None)

-- the structure that has the ring
abbrev pub home_of : FoundMark → ℕ
home_of f = f.home

-- what holds of the verdict, if there is one
abbrev pub OnVerdict : (Verdict → Type 0) → Result Verdict Refusal → Type 0
OnVerdict P (Ok v) = P v
OnVerdict P (Err e) = Unit {0}

-- the guide is good for an endless walk, if a mark was found that can be met without end
abbrev pub Guides : Meaning → List GuideRecord → Option FoundMark → Type 0
Guides m g None = Unit {0}
Guides m g (Some f) = Good m (guide_of g m.structures m.places (home_of f))

-- whether there is a marked round; if so, the guide leads to it
abbrev pub Finds : Meaning → List GuideRecord → Option FoundMark → Type 0
Finds m g None = MarkedRound m → ⊥
Finds m g (Some f) = MarkedRound m × Good m (guide_of g m.structures m.places (home_of f))
