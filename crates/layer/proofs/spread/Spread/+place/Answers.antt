-- A box's number fits, since at most ten monitors are laid.
use Rattle.std.proofs.Common.{◌+◌, ◌*◌, ◌%◌, ◌<◌, ◌^◌, arith}
use Rattle.layer.proofs.Numbers.{box_fits}
use Rattle.layer.proofs.spread.Spread.+place.Given as given
use Rattle.layer.proofs.spread.Spread.+place.Goals as goal

above : (g : given.Over) (t : _) (c : goal.In-Box g t) → c.in-Box.j * c.width-f.result + c.args.p % c.width-f.result < 2 ^ 64
above g t c =
    let s = c.in-Some.below in
    box_fits s.monitors.now (g.B.Hierarchy.meaning s.base.now) (g.B.Hierarchy.lawful s.base.now) s.few c.in-Some.top.now c.width-f.result _ _ c.in-Box.j c.args.p c.width-f.ensures c.in-Box.ensures

pub overflow_mul-result : goal.overflow_mul-result
overflow_mul-result g t c = omega (arith, above g t c)

pub overflow_add-result : goal.overflow_add-result
overflow_add-result g t c = omega (arith, above g t c)
