-- What is too large has nothing.
use Rattle.std.proofs.Common.{◌≡◌, rules, sym, ap, ◌∙◌}
use Rattle.hierarchy.specs.Meaning.{Meaning}
use Rattle.hierarchy.specs.Answers.{place_told}
use Rattle.layer.specs.Piles.{pile_lawful}
use Rattle.layer.specs.Spreads.{spread_of}
use Rattle.layer.proofs.Fitting.{of_both}
use Rattle.layer.proofs.Large.{large_place}
use Rattle.layer.proofs.pile.PileHierarchy.place.Goals as goal

pub returns : goal.returns
returns g c =
    let x = c.args.self.now in
    of_both c.fitting.result c.fitting.ensures c.map_or.ensures
    (λ large none. none ∙ large_place _ (pile_lawful x.monitors.now (g.B.Hierarchy.lawful x.base.now)) large c.args.i c.args.p)
    (λ s is told.
    let there : c.map_or.result ≡ place_told ((spread_of g.B.Hierarchy.meaning s).place c.args.i c.args.p) = search rules in
    there ∙ sym (ap (λ (m : Meaning). place_told (m.place c.args.i c.args.p)) is))
