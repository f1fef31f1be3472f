use Rattle.std.proofs.Common.{length, sym, ap, ◌∙◌}
use Rattle.walk.specs.Shown.{outer_frames}
use Rattle.walk.proofs.Showing.{shown_boxes, length_places}
use Rattle.walk.proofs.steps.Walk.boxes.Goals as goal

pub returns : goal.returns
returns c m =
    let w = c.args.self.now in
    let fs = c.args.frames.now in
    ap length c.outer.ensures.outer ∙ sym (ap length (shown_boxes m w fs) ∙ length_places (outer_frames w fs))
