-- The entry of a structure that is there; what is too large has none.
use Rattle.std.proofs.Common.{sym, ap, ◌∙◌, arith}
use Rattle.hierarchy.specs.Meaning.{Meaning}
use Rattle.hierarchy.proofs.Told.{fits_is, large_is}
use Rattle.layer.specs.Piles.{pile, pile_lawful}
use Rattle.layer.proofs.Fitting.{fits_all}
use Rattle.layer.proofs.Large.{large_entry}
use Rattle.layer.proofs.pile.PileHierarchy.entry.Goals as goal

pub returns-in_default : goal.returns-in_default
returns-in_default g c =
    let x = c.args.self.now in
    large_entry _ (pile_lawful x.monitors.now (g.B.Hierarchy.lawful x.base.now)) c.in_default.ensures c.args.i

pub entry-requires : goal.entry-requires
entry-requires g c =
    let s = c.in-Some.spread in
    let m = g.B.Hierarchy.meaning s.base.now in
    let told = fits_is (pile s.monitors.now m) _ _ c.in-Some-size.ensures in
    omega (arith, c.if-i-size.true, told.1, ap (λ (x : Meaning). x.structures) (fits_all s.monitors.now m told.0))

pub returns-then-i-size : goal.returns-then-i-size
returns-then-i-size g c =
    let s = c.in-Some.spread in
    let m = g.B.Hierarchy.meaning s.base.now in
    let told = fits_is (pile s.monitors.now m) _ _ c.in-Some-size.ensures in
    c.entry.ensures
    ∙ rw (← c.in-Some.ensures.0, ← c.in-Some.ensures.1) (sym (ap (λ (x : Meaning). x.entry c.args.i) (fits_all s.monitors.now m told.0)))

pub returns-else-i-size : goal.returns-else-i-size
returns-else-i-size g c =
    let s = c.in-Some.spread in
    let law = pile_lawful s.monitors.now (g.B.Hierarchy.lawful s.base.now) in
    let told = fits_is (pile s.monitors.now (g.B.Hierarchy.meaning s.base.now)) _ _ c.in-Some-size.ensures in
    rw (← c.in-Some.ensures.0, ← c.in-Some.ensures.1) (sym (law.no_entry c.args.i (omega (arith, c.if-i-size.false, told.1))))

pub returns-in_default-size : goal.returns-in_default-size
returns-in_default-size g c =
    let s = c.in-Some.spread in
    let law = pile_lawful s.monitors.now (g.B.Hierarchy.lawful s.base.now) in
    rw (← c.in-Some.ensures.0, ← c.in-Some.ensures.1) (large_entry _ law (large_is (pile s.monitors.now _) c.in_default-size.ensures) c.args.i)
