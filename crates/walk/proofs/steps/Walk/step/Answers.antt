use Rattle.std.proofs.Common.{◌≡◌, ℕ, length, Some, None, refl, subst, arith}
use Rattle.guide.specs.Trees.{Good}
use Rattle.guide.specs.Layout.{guide_of}
use Rattle.walk.specs.Walks.{walk}
use Rattle.walk.specs.Standing.{Outcome}
use Rattle.walk.specs.Steps.{guide_for, levels, lacking, Follows}
use Rattle.walk.proofs.Answered.{sized_lacks, step_follows, not_refused}
use Rattle.walk.proofs.Along.{along_next}
use Rattle.walk.proofs.steps.Walk.step.Given.{Over}
use Rattle.walk.proofs.steps.Walk.step.Goals as goal
use Rattle.walk.proofs.steps.Walk.step.Goals.{In_err-next, In_ok-next}

-- a walk that followed a good guide is not refused
refused : (g : Over) (c : In_err-next g) → let m = g.B.Hierarchy.meaning c.args.h.now in let w = c.args.self.now in let k = guide_for m c.args.guide.now w in
    (n : ℕ) → Good m k → levels m k w c.args.frames.now ≡ walk m k n → lacking m (length c.args.guide.now) (length c.args.frames.now) ≡ None → ⊥
refused g c =
    let m = g.B.Hierarchy.meaning c.args.h.now in
    let xs = c.args.guide.now in
    let fs = c.args.frames.now in
    let w = c.args.self.now in
    let z = c.in_ok-size.size in
    let o : c.moved.result ≡ None = grind arith in
    let r : Outcome m (guide_of xs z.structures z.places w.home) fs c.moved.new.frames c.standing-stand.result None =
    subst (Outcome m (guide_of xs z.structures z.places w.home) fs c.moved.new.frames c.standing-stand.result) o c.moved.ensures in
    not_refused m xs w z (sized_lacks m (lacking m (length xs) (length fs)) z c.in_ok-size.ensures).1 fs c.standing-stand.result c.standing-stand.ensures r.1

-- the step follows the guide
follows : (g : Over) (c : In_ok-next g) → let m = g.B.Hierarchy.meaning c.args.h.now in let w = c.args.self.now in
    Follows m (guide_for m c.args.guide.now w) w c.args.frames.now (record { home = w.home; stand = Some c.in_ok-next.next }) c.moved.new.frames
follows g c =
    let m = g.B.Hierarchy.meaning c.args.h.now in
    let xs = c.args.guide.now in
    let fs = c.args.frames.now in
    let w = c.args.self.now in
    let z = c.in_ok-size.size in
    let o : c.moved.result ≡ Some c.in_ok-next.next = grind arith in
    let r : Outcome m (guide_of xs z.structures z.places w.home) fs c.moved.new.frames c.standing-stand.result (Some c.in_ok-next.next) =
    subst (Outcome m (guide_of xs z.structures z.places w.home) fs c.moved.new.frames c.standing-stand.result) o c.moved.ensures in
    step_follows m xs w z (sized_lacks m (lacking m (length xs) (length fs)) z c.in_ok-size.ensures).1 fs c.standing-stand.result c.standing-stand.ensures c.moved.new.frames c.in_ok-next.next r

pub returns-in_err-next-clause-accepted : goal.returns-in_err-next-clause-accepted
returns-in_err-next-clause-accepted g c n G w l = absurd (refused g (goal.at.returns-in_err-next-clause-accepted g c).In_err-next n G w l)

pub returns-in_err-next-clause-onward : goal.returns-in_err-next-clause-onward
returns-in_err-next-clause-onward g c run n A l = absurd (refused g (goal.at.returns-in_err-next-clause-onward g c).In_err-next n A.good A.stands l)

pub returns-clause-follows : goal.returns-clause-follows
returns-clause-follows g c e = follows g (goal.at.returns-clause-follows g c).In_ok-next

pub returns-clause-onward : goal.returns-clause-onward
returns-clause-onward g c run n A l = (
  refl,
  along_next (g.B.Hierarchy.meaning c.args.h.now) c.args.guide.now c.args.frames.now c.moved.new.frames run n c.args.self.now
      (record { home = c.args.self.now.home; stand = Some c.in_ok-next.next }) refl (follows g (goal.at.returns-clause-onward g c).In_ok-next) A,
)
