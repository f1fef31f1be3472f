use Rattle.std.proofs.Common.{sym, ap, ◌∙◌, rules}
use Rattle.walk.specs.Shown.{box_in, box_places}
use Rattle.walk.proofs.Showing.{shown_boxes, box_told}
use Rattle.walk.proofs.steps.Walk.box_at.Goals as goal

pub returns : goal.returns
returns c m =
    let k = c.args.index in
    box_told c.outer.result.now k _ (λ x p h. search rules) c.get.result c.map.result c.get.ensures.lookup c.map.ensures.cases ∙
    sym (ap (λ bs. box_in bs k) (shown_boxes m c.args.self.now c.args.frames.now) ∙ ap (λ fs. box_in (box_places fs) k) (sym c.outer.ensures.outer))
