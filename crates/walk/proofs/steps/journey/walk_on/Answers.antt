use Rattle.std.proofs.Common.{Err, refl, ◌∙◌}
use Rattle.judge.specs.Verdicts.{home_of}
use Rattle.walk.proofs.Longer.{started_on_way, started_shown, started_accepted}
use Rattle.walk.proofs.Endless.{walk_shows_run}
use Rattle.walk.proofs.steps.journey.walk_on.Goals as goal

pub returns-in_err-step_on-clause-accepted : goal.returns-in_err-step_on-clause-accepted
returns-in_err-step_on-clause-accepted g c G l =
    let w = c.start-walk.ensures in
    absurd (cc (started_accepted (g.B.Hierarchy.meaning c.args.h.now) c.args.guide.now (home_of c.args.found) c.start-walk.result c.args.frames.now w.home w.levels
    (Err c.in_err-step_on.field-0.0) c.in_err-step_on.ensures.accepted G l))

pub returns-in_err-step_on-clause-endless : goal.returns-in_err-step_on-clause-endless
returns-in_err-step_on-clause-endless g c G q = walk_shows_run (g.B.Hierarchy.meaning c.args.h.now) (g.B.Hierarchy.lawful c.args.h.now) q _ G

pub returns-clause-shown : goal.returns-clause-shown
returns-clause-shown g c =
    let w = c.start-walk.ensures in
    started_shown (g.B.Hierarchy.meaning c.args.h.now) c.args.guide.now (home_of c.args.found) c.start-walk.result c.args.frames.now w.home w.levels
    c.args.n c.step_on.new.self c.step_on.new.frames (c.in_ok-step_on.ensures.follows refl)

pub returns-clause-way : goal.returns-clause-way
returns-clause-way g c =
    let w = c.start-walk.ensures in
    let t = c.in_ok-step_on.ensures in
    started_on_way (g.B.Hierarchy.meaning c.args.h.now) c.args.guide.now (home_of c.args.found) c.start-walk.result c.args.frames.now w.home w.levels
    c.args.n c.step_on.new.self c.step_on.new.frames (t.follows refl) (t.home ∙ w.home)

pub returns-clause-endless : goal.returns-clause-endless
returns-clause-endless g c G q = walk_shows_run (g.B.Hierarchy.meaning c.args.h.now) (g.B.Hierarchy.lawful c.args.h.now) q _ G
