use Rattle.std.proofs.Common.{ap, ◌∙◌}
use Rattle.walk.specs.Shown.{structure_behind_lem}
use Rattle.walk.proofs.Showing.{mark_there}
use Rattle.walk.proofs.steps.Walk.is_marked.Goals as goal

pub returns : goal.returns
returns g c =
    let m = g.B.Hierarchy.meaning c.args.h.now in
    let w = c.args.self.now in
    let fs = c.args.frames.now in
    ap (λ l. l.mark) c.look.ensures ∙
    mark_there m w fs c.structure_behind-structure.result c.node.result
    (c.structure_behind-structure.ensures ∙ ap (structure_behind_lem m 0) c.outer.ensures.outer) (c.node.ensures fs)
