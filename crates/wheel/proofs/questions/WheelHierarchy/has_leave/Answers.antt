-- A box stands below the last level.
use Rattle.std.proofs.Common.{sym, arith}
use Rattle.wheel.proofs.Bounds.{box_level}
use Rattle.wheel.proofs.questions.WheelHierarchy.has_leave.Goals as goal

pub overflow_add-i : goal.overflow_add-i
overflow_add-i c = omega (arith, box_level c.args.self.now c.args.i c.args.b (sym c.if-is_box.ensures))
