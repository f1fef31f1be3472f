-- More than ten monitors are too large.
use Rattle.layer.proofs.Fitting.{many_large}
use Rattle.layer.proofs.spread.Spread.new.Goals as goal

pub returns-then-monitors-gt-MOST : goal.returns-then-monitors-gt-MOST
returns-then-monitors-gt-MOST g c =
    many_large (g.B.Hierarchy.meaning c.args.base.now) (g.B.Hierarchy.lawful c.args.base.now) c.args.monitors.now c.if-monitors-gt-MOST.true
