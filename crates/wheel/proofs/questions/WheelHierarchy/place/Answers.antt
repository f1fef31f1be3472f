-- An item stands on a level.
use Rattle.std.proofs.Common.{sym, arith}
use Rattle.wheel.proofs.Bounds.{item_level}
use Rattle.wheel.proofs.questions.WheelHierarchy.place.Goals as goal

pub overflow_add-result : goal.overflow_add-result
overflow_add-result c = omega (arith, item_level c.args.self.now c.args.i c.args.p (sym c.if-is_item.ensures))
