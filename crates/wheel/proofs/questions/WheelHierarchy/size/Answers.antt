-- The largest size is small.
use Rattle.std.proofs.Common.{arith}
use Rattle.wheel.proofs.Bounds.{largest_small}
use Rattle.wheel.proofs.questions.WheelHierarchy.size.Goals as goal

pub overflow_add-result : goal.overflow_add-result
overflow_add-result c = omega (arith, c.largest.ensures, largest_small c.args.self.now)
