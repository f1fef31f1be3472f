use Rattle.std.proofs.Common.{◌<◌, arith}
use Rattle.walk.specs.Memory.{guide_by}
use Rattle.walk.proofs.Reading.{inner_at}
use Rattle.walk.proofs.level.Guided.inner.Goals as goal

pub returns-else-level-eq0 : goal.returns-else-level-eq0
returns-else-level-eq0 g c =
    let p : 0 < c.args.level.left = omega arith in
    inner_at (g.B.Hierarchy.meaning c.args.self.now.h.now) (guide_by c.args.self.now.plan) c.args.structure c.args.level c.args.into
    c.goal_of.result c.climb-spot.result c.entry_of.result c.pass.result c.args.level.left p c.goal_of.ensures c.climb-spot.ensures c.entry_of.ensures c.pass.ensures
