use Rattle.sheet.proofs.Ascends.{least_refusal_first_lem}
use Rattle.sheet.proofs.least_refusal_first.Goals as goal

pub returns : goal.returns
returns c = least_refusal_first_lem
