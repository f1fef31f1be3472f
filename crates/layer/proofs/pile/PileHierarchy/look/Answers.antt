-- What is too large has nothing.
use Rattle.std.proofs.Common.{◌≡◌, rules, sym, ap, ◌∙◌}
use Rattle.hierarchy.specs.Meaning.{Meaning}
use Rattle.hierarchy.specs.Answers.{look_told}
use Rattle.layer.specs.Piles.{pile_lawful}
use Rattle.layer.specs.Spreads.{spread_of}
use Rattle.layer.proofs.Fitting.{of_both}
use Rattle.layer.proofs.Large.{large_look}
use Rattle.layer.proofs.pile.PileHierarchy.look.Goals as goal

pub returns : goal.returns
returns g c =
    let x = c.args.self.now in
    of_both c.fitting.result c.fitting.ensures c.map_or.ensures
    (λ large none. none ∙ large_look _ (pile_lawful x.monitors.now (g.B.Hierarchy.lawful x.base.now)) large _ c.default.ensures.0 c.default.ensures.1 c.args.i c.args.p)
    (λ s is told.
    let there : c.map_or.result ≡ look_told (spread_of g.B.Hierarchy.meaning s) c.args.i c.args.p = search rules in
    there ∙ sym (ap (λ (m : Meaning). look_told m c.args.i c.args.p) is))
