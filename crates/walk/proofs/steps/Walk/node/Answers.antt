use Rattle.std.proofs.Common.{sym, ◌∙◌, rules}
use Rattle.walk.proofs.Showing.{shown_node, node_told}
use Rattle.walk.proofs.steps.Walk.node.Goals as goal

pub returns : goal.returns
returns g c fs =
    let m = g.B.Hierarchy.meaning c.args.h.now in
    node_told m c.args.self.now.stand c.map_or_else.result (λ h. search rules) (λ s h. search rules) c.map_or_else.ensures ∙ sym (shown_node m c.args.self.now fs)
