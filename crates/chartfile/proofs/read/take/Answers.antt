use Rattle.std.proofs.Common.{arith}
use Rattle.std.proofs.lemmas.Bool.Decides.{nat_tests}
use Rattle.chartfile.proofs.Fronts.{unknown_kind}
use Rattle.chartfile.proofs.read.take.Goals as goal

pub returns-in_default : goal.returns-in_default
returns-in_default c = unknown_kind c.args.bytes.now (omega arith) (grind (arith, nat_tests))
