-- An entry's number fits, since at most ten monitors are laid.
use Rattle.std.proofs.Common.{◌≡◌, ◌+◌, ◌*◌, ◌%◌, ◌<◌, ◌^◌, arith}
use Rattle.monitor.specs.Product.{width}
use Rattle.monitor.specs.Tables.{automaton_of}
use Rattle.layer.specs.Piles.{spread_all}
use Rattle.layer.proofs.Numbers.{entry_fits}
use Rattle.layer.proofs.spread.Spread.+entry.Given as given
use Rattle.layer.proofs.spread.Spread.+entry.Goals as goal

above : (g : given.Over) (t : _) (c : goal.After-entry-2 g t) → c.entry-2.result * c.width-f.result + c.args.i % c.width-f.result < 2 ^ 64
above g t c =
    let x = c.args.self.now in
    let s = c.in-Some.below in
    let m = g.B.Hierarchy.meaning s.base.now in
    let top = c.in-Some.top.now in
    let wide : (spread_all x.monitors.now (g.B.Hierarchy.meaning x.base.now)).structures ≡ (spread_all s.monitors.now m).structures * width (automaton_of top) = rw (c.in-Some.ensures.0, ← c.in-Some.ensures.1) in
    entry_fits s.monitors.now m (g.B.Hierarchy.lawful s.base.now) s.few top c.width-f.result c.args.i _ c.width-f.ensures (omega (arith, wide, c.requires)) c.entry-2.ensures

pub overflow_mul-result : goal.overflow_mul-result
overflow_mul-result g t c = omega (arith, above g t c)

pub overflow_add-result : goal.overflow_add-result
overflow_add-result g t c = omega (arith, above g t c)
