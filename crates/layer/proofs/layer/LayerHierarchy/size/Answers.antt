-- The sizes below, multiplied, by what the monitor tells of its width.
use Rattle.std.proofs.Common.{arith}
use Rattle.hierarchy.proofs.Told.{large_is, size_fits}
use Rattle.monitor.specs.Tables.{automaton_of}
use Rattle.layer.proofs.Sizes.{told_large, told_above}
use Rattle.layer.proofs.layer.LayerHierarchy.size.Goals as goal

pub returns-in_err-size : goal.returns-in_err-size
returns-in_err-size g c =
    let x = c.args.self.now in
    let below = g.B.Hierarchy.meaning x.below.now in
    rw c.from_residual.ensures (told_large below (automaton_of x.monitor) (large_is below c.in_err-size.ensures))

pub size_above-requires : goal.size_above-requires
size_above-requires g c =
    let x = c.args.self.now in
    let sized = size_fits (g.B.Hierarchy.meaning x.below.now) _ _ (g.B.Hierarchy.lawful x.below.now) c.in_ok-size.ensures in
    (sized.few, (sized.narrow, omega (arith, c.width.ensures, x.monitor.few)))

pub returns : goal.returns
returns g c =
    let x = c.args.self.now in
    rw c.size_above.ensures (told_above (g.B.Hierarchy.meaning x.below.now) (automaton_of x.monitor) _ _ _ c.in_ok-size.ensures c.width.ensures)
