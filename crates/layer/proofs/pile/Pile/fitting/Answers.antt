-- What is not too large is spread out.
use Rattle.hierarchy.proofs.Told.{fits_is, large_is}
use Rattle.layer.specs.Piles.{pile}
use Rattle.layer.proofs.Fitting.{fits_all}
use Rattle.layer.proofs.pile.Pile.fitting.Goals as goal

pub returns-in_err-spread : goal.returns-in_err-spread
returns-in_err-spread g c = rw c.from_residual.ensures c.in_err-spread.ensures

pub returns-in_err-size : goal.returns-in_err-size
returns-in_err-size g c =
    let x = c.in_ok-spread.spread in
    rw c.from_residual-in_err-size.ensures (rw (← c.in_ok-spread.ensures.0, ← c.in_ok-spread.ensures.1) (large_is (pile x.monitors.now (g.B.Hierarchy.meaning x.base.now)) c.in_err-size.ensures))

pub returns : goal.returns
returns g c =
    let x = c.in_ok-spread.spread in
    let m = g.B.Hierarchy.meaning x.base.now in
    rw (← c.in_ok-spread.ensures.0, ← c.in_ok-spread.ensures.1) (fits_all x.monitors.now m (fits_is (pile x.monitors.now m) _ _ c.in_ok-size.ensures).0)
