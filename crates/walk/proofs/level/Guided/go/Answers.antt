use Rattle.std.proofs.Common.{take, sym, refl, arith}
use borrow.Author.Tests.{both_ways, true-ltb}
use Rattle.walk.specs.Memory.{guide_by}
use Rattle.walk.proofs.Outcomes.{not_lost, hop_near, hop_there, hop_outcome}
use Rattle.walk.proofs.level.Guided.go.Goals as goal

pub returns-in_err-structure : goal.returns-in_err-structure
returns-in_err-structure g c =
    let s = c.args.self.now in
    rw c.from_residual.ensures (
      refl,
      λ n G w h. not_lost (g.B.Hierarchy.lawful s.h.now) s.planned.fits (guide_by s.plan)
          (take c.args.depth c.args.frames.now) _ n (sym c.in_err-structure.ensures) G w,
    )

pub returns-then-is_far : goal.returns-then-is_far
returns-then-is_far g c =
    let s = c.args.self.now in
    let f = true-ltb _ _ c.if-is_far.ensures in
    let p = s.planned.places in (
      refl,
      λ n G w h. let near = hop_near (g.B.Hierarchy.lawful s.h.now) s.planned.fits (guide_by s.plan)
          (take c.args.depth c.args.frames.now) c.args.level c.args.inside c.in_ok-structure.structure n (sym c.in_ok-structure.ensures) G w in omega arith,
    )

pub returns-then-not-allows : goal.returns-then-not-allows
returns-then-not-allows g c =
    let s = c.args.self.now in (
      refl,
      λ n G w h. both_ways _ (sym c.if-not-allows.ensures) (hop_there (g.B.Hierarchy.lawful s.h.now) s.planned.fits (guide_by s.plan)
          (take c.args.depth c.args.frames.now) c.args.level c.hop-next.result c.args.inside c.in_ok-structure.structure n
          (sym c.in_ok-structure.ensures) c.hop-next.ensures c.requires.hops G w),
    )

pub returns : goal.returns
returns g c =
    let s = c.args.self.now in
    hop_outcome (g.B.Hierarchy.lawful s.h.now) s.planned.fits (guide_by s.plan)
    c.args.frames.now c.land.new.frames c.args.depth c.in_ok-structure.structure c.args.level c.hop-next.result c.args.inside c.land.result
    (sym c.in_ok-structure.ensures) c.hop-next.ensures (sym c.if-not-allows.ensures) c.requires.hops c.land.ensures
