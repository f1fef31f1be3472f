-- The boxes of the shown state are where these frames stand.
use Rattle.std.proofs.Common.{sym, ap, ◌∙◌}
use Rattle.walk.specs.Shown.{box_places}
use Rattle.walk.proofs.Showing.{shown_boxes}
use Rattle.walk.proofs.steps.Walk.outer.Goals as goal

pub returns-clause-boxes : goal.returns-clause-boxes
returns-clause-boxes c m = shown_boxes m c.args.self.now c.args.frames.now ∙ ap box_places (sym c.levels.ensures)
