use Rattle.std.proofs.Common.{◌<◌, length, take, ap, ◌∙◌, arith}
use Rattle.hierarchy.proofs.Told.{told_box}
use Rattle.walk.specs.Standing.{graft}
use Rattle.walk.specs.Walks.{inmost}
use Rattle.walk.specs.Memory.{guide_by}
use Rattle.walk.proofs.Safe.{graft_set, land_box}
use Rattle.walk.proofs.level.Guided.land.Goals as goal
use Rattle.hierarchy.proofs.Beyond.{box_present}

pub returns-else-depth-frames : goal.returns-else-depth-frames
returns-else-depth-frames g c =
    let lt : c.args.depth < length c.args.frames.now = omega arith in
    let m = g.B.Hierarchy.meaning c.args.self.now.h.now in
    let e = told_box _ _ c.in-Box.ensures in (
      box_present _ _ e,
      graft_set c.args.frames.now c.args.depth c.turned-turned.result (inmost c.inner-last.result) lt ∙
          ap (graft (take c.args.depth c.args.frames.now))
          (land_box m (guide_by c.args.self.now.plan) c.args.structure c.args.level c.turned-turned.result c.inner-last.result
          c.in-Box.into e c.turned-turned.ensures c.inner-last.ensures),
    )
