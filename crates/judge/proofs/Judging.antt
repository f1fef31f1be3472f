-- From what the searches found to the verdict.
-- Assumes nothing.
use Rattle.std.proofs.Common.{arith}
use Rattle.std.proofs.lemmas.Grind.{common_steps}
use Rattle.std.proofs.Common.{◌≡◌, ℕ, ◌+◌, ◌*◌, ◌≤◌, Bool, false, List, is_some, Some, None, Option}
use Rattle.hierarchy.specs.Meaning.{Meaning, Lawful}
use Rattle.hierarchy.specs.Flat.{Reaches, Recurs}
use Rattle.theory.specs.Hops.{MarkedNode}
use Rattle.theory.proofs.Recurring.{marking, recurring}
use Rattle.guide.specs.declared.GuideRecord.{GuideRecord}
use Rattle.judge.specs.declared.FoundMark.{FoundMark}
use Rattle.judge.specs.Known.{Decides}
use Rattle.judge.specs.Verdicts.{judge_refusal, Finds}
use Rattle.judge.proofs.Knowing.{yes_is, no_is}

-- ---- refusals
pub not_refused : (m : Meaning) (n s p : ℕ) → m.large ≡ false → s ≡ m.structures → p ≡ m.places → (s + 1) * p ≤ n → None ≡ judge_refusal m n
not_refused m n s p h1 h2 h3 h4 = grind (arith, common_steps)

-- ---- answers
module _ (m : Meaning) (L : Lawful m) (fits : m.large ≡ false) where
  pub reach_told : (b : Bool) → Decides b (MarkedNode m) → Decides b (Reaches m)
  reach_told b D = record { sure = λ t. (marking m L fits).1 (D.sure t); never = λ f r. D.never f ((marking m L fits).0 r) }

  pub recur_told : (g : List GuideRecord) (r : Option FoundMark) → Finds m g r → Decides (is_some r) (Recurs m)
  recur_told g None f = no_is _ (λ r. f ((recurring m L fits).0 r))
  recur_told g (Some x) f = yes_is _ ((recurring m L fits).1 f.0)
