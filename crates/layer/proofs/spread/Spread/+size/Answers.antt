-- The sizes below, multiplied, by what the monitor on top tells of its width.
use Rattle.std.proofs.Common.{arith}
use Rattle.hierarchy.proofs.Told.{large_is, size_fits}
use Rattle.monitor.specs.Tables.{automaton_of}
use Rattle.layer.specs.Piles.{pile, pile_lawful}
use Rattle.layer.proofs.Sizes.{told_large, told_above}
use Rattle.layer.proofs.spread.Spread.+size.Goals as goal

pub returns-in_err-size : goal.returns-in_err-size
returns-in_err-size g t c =
    let s = c.in-Some.below in
    let under = pile s.monitors.now (g.B.Hierarchy.meaning s.base.now) in
    rw (c.from_residual.ensures, c.in-Some.ensures.0, ← c.in-Some.ensures.1) (told_large under (automaton_of c.in-Some.top.now) (large_is under c.in_err-size.ensures))

pub size_above-requires : goal.size_above-requires
size_above-requires g t c =
    let s = c.in-Some.below in
    let law = pile_lawful s.monitors.now (g.B.Hierarchy.lawful s.base.now) in
    let sized = size_fits (pile s.monitors.now (g.B.Hierarchy.meaning s.base.now)) _ _ law c.in_ok-size.ensures in
    (sized.few, (sized.narrow, omega (arith, c.width.ensures, c.in-Some.top.now.few)))

pub returns : goal.returns
returns g t c =
    let s = c.in-Some.below in
    let under = pile s.monitors.now (g.B.Hierarchy.meaning s.base.now) in
    rw (c.size_above.ensures, c.in-Some.ensures.0, ← c.in-Some.ensures.1) (told_above under (automaton_of c.in-Some.top.now) _ _ _ c.in_ok-size.ensures c.width.ensures)
