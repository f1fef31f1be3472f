use Rattle.theory.proofs.Reaching.{reaching}
use Rattle.theory.proofs.Passing.{passing}
use Rattle.theory.proofs.Recurring.{marking, recurring}
use Rattle.theory.proofs.one_search_suffices.Goals as goal

pub returns : goal.returns
returns c = record { reaching = reaching; passing = passing; marking = marking; recurring = recurring }
