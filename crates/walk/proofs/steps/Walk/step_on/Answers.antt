use Rattle.std.proofs.Common.{◌≡◌, ◌+◌, Err, refl, ap, ◌∙◌, arith, rules}
use Rattle.walk.specs.Walks.{walk}
use Rattle.walk.specs.Steps.{guide_for}
use Rattle.walk.specs.Journeys.{stay}
use Rattle.walk.proofs.Longer.{steps_on_more, accepts_later, path_more}
use Rattle.walk.proofs.steps.Walk.step_on.Goals as goal

pub loop-init : goal.loop-init
loop-init g c =
    let m = g.B.Hierarchy.meaning c.args.h.now in
    record {
      home = refl;
      along = λ k e. let q : k ≡ k + 0 = omega arith in e ∙ ap (walk m (guide_for m c.args.guide.now c.args.self.now)) q;
      path = stay;
      unaltered = search rules;
      answer = search rules;
    }

pub loop-preserved : goal.loop-preserved
loop-preserved g c =
    let m = g.B.Hierarchy.meaning c.args.h.now in
    record {
      home = search rules;
      along = steps_on_more m c.args.guide.now c.args.self.now c.args.frames.now c.loop.self c.loop.frames c.loop.invariant.home
          c.step.new.self c.step.new.frames c.loop.counter c.loop.invariant.along (c.in_ok-step.ensures.follows refl);
      path = search (rules, path_more);
      unaltered = search rules;
      answer = search rules;
    }

pub returns-in_err-step-clause-accepted : goal.returns-in_err-step-clause-accepted
returns-in_err-step-clause-accepted g c n G w l =
    let m = g.B.Hierarchy.meaning c.args.h.now in
    absurd (cc (accepts_later m c.args.guide.now c.args.self.now c.args.frames.now c.loop.self c.loop.frames c.loop.invariant.home
    c.loop.counter (Err c.in_err-step.field-0.0) c.loop.invariant.along c.loop.auto.frames c.in_err-step.ensures.accepted n G w l))

pub returns-clause-follows : goal.returns-clause-follows
returns-clause-follows g c o k e =
    let m = g.B.Hierarchy.meaning c.args.h.now in
    let q : c.loop.counter ≡ c.args.n = omega arith in
    c.loop.invariant.along k e ∙ ap (λ i. walk m (guide_for m c.args.guide.now c.args.self.now) (k + i)) q
