-- The answer of the monitors spread out, if they fit; what is too large has nothing.
use Rattle.std.proofs.Common.{◌≡◌, ◌&&◌, not, rules, ◌∙◌}
use Rattle.layer.specs.Piles.{pile_lawful}
use Rattle.layer.specs.Spreads.{spread_of, pile_of}
use Rattle.layer.proofs.Fitting.{of_both, answer}
use Rattle.layer.proofs.Large.{large_leave}
use Rattle.layer.proofs.pile.PileHierarchy.has_leave.Goals as goal

pub returns : goal.returns
returns g c =
    let x = c.args.self.now in
    let law = pile_lawful x.monitors.now (g.B.Hierarchy.lawful x.base.now) in
    of_both c.spread.result c.spread.ensures c.is_some_and.ensures
    (λ large none. none ∙ large_leave _ law large c.args.i c.args.b c.args.e c.args.w)
    (λ s is told.
    let there : c.is_some_and.result ≡ ((spread_of g.B.Hierarchy.meaning s).leave c.args.i c.args.b c.args.e c.args.w && not (pile_of g.B.Hierarchy.meaning s).large) = search rules in
    there ∙ rw (is.0, is.1) (answer x.monitors.now _ (λ m. m.leave c.args.i c.args.b c.args.e c.args.w) (λ large. large_leave _ law large c.args.i c.args.b c.args.e c.args.w)))
