use Rattle.std.proofs.Common.{◌≡◌, ◌+◌, ◌<◌, length, take, sym, refl, ap, ◌∙◌, subst, arith}
use Rattle.walk.specs.Levels.{blank_frame}
use Rattle.walk.specs.Memory.{guide_by}
use Rattle.walk.specs.Walks.{inmost}
use Rattle.walk.specs.Standing.{graft, OutcomeOf}
use Rattle.walk.proofs.Safe.{graft_take}
use Rattle.walk.proofs.Outcomes.{no_pass_outside, depth_small}
use Rattle.walk.proofs.level.Guided.moved.Goals as goal

pub returns-then-frames-depth : goal.returns-then-frames-depth
returns-then-frames-depth g c =
    let s = c.args.self.now in (
      refl,
      λ n G w h. let d = depth_small (g.B.Hierarchy.lawful s.h.now) s.planned.fits (guide_by s.plan)
          c.args.frames.now c.args.stand.depth n _ G w h in omega arith,
    )

pub returns-in_err-depth : goal.returns-in_err-depth
returns-in_err-depth g c =
    let s = c.args.self.now in
    let z : c.args.stand.depth ≡ 0 = omega (arith, c.in_err-depth.ensures) in
    rw c.from_residual.ensures (
      refl,
      λ n G w h. no_pass_outside (g.B.Hierarchy.lawful s.h.now) s.planned.fits (guide_by s.plan)
          c.args.frames.now c.args.stand n z (sym c.if-is_pass.ensures) G w,
    )

pub returns-in_ok-depth : goal.returns-in_ok-depth
returns-in_ok-depth g c =
    let s = c.args.self.now in
    let fs = c.args.frames.now in
    let d = c.in_ok-depth.depth in
    let q : d + 1 ≡ c.args.stand.depth = omega (arith, c.in_ok-depth.ensures) in
    let lt : d < length fs = omega (arith, c.in_ok-depth.ensures) in
    subst (λ b. OutcomeOf (g.B.Hierarchy.meaning s.h.now) (guide_by s.plan) b fs c.go.new.frames c.go.result)
    (sym (graft_take fs d blank_frame (inmost c.args.stand.last) lt) ∙ ap (λ k. graft (take k fs) (inmost c.args.stand.last)) q) c.go.ensures
