use Rattle.std.proofs.Common.{◌≡◌, ℕ, suc, ◌+◌, false, length, None, Err, sym, refl, ap, ◌∙◌, subst, arith}
use borrow.Author.Tests.{both_ways}
use Rattle.judge.specs.Verdicts.{home_of}
use Rattle.walk.specs.Walks.{walk}
use Rattle.walk.specs.Steps.{lacking, guide_home}
use Rattle.report.specs.Text.{walk_state}
use Rattle.report.proofs.Runs.{lines_none, lines_more, lines_room}
use Rattle.report.proofs.Walked.{room_there, line_there, next_there, goes_on}
use Rattle.report.proofs.states.push_states.Goals as goal

pub push_state-requires : goal.push_state-requires
push_state-requires g c =
    let m = g.B.Hierarchy.meaning c.args.h.now in
    let xs = c.args.guide.now in
    let k = home_of c.args.found in
    let fs = c.args.frames.now in
    room_there m xs k c.start-walk.result fs 0 (c.start-walk.ensures.levels m (guide_home m xs k) fs)
    (lines_room m (walk_state m xs k) 0 6 (omega arith) c.requires.room (lines_none m (walk_state m xs k)))

pub loop-init : goal.loop-init
loop-init g c =
    let m = g.B.Hierarchy.meaning c.args.h.now in
    let xs = c.args.guide.now in
    let k = home_of c.args.found in
    let fs = c.args.frames.now in
    let levels = c.start-walk.ensures.levels m (guide_home m xs k) fs in
    let a = c.args.text.now.bytes in
    record {
      ring = c.start-walk.ensures.home;
      there = levels;
      written = lines_more a m (walk_state m xs k) 0 (lines_none m (walk_state m xs k)) (line_there m xs k a c.start-walk.result fs 0 levels c.push_state.ensures);
    }

pub returns-in_err-step : goal.returns-in_err-step
returns-in_err-step g c =
    let m = g.B.Hierarchy.meaning c.args.h.now in
    let xs = c.args.guide.now in
    let k = home_of c.args.found in
    let memory = subst (λ (n : ℕ). lacking m (length xs) n ≡ None) (sym c.loop.auto.frames) c.requires.memory in
    absurd (both_ways false refl
    (goes_on m xs k c.loop.walk c.loop.frames c.loop.counter (Err c.in_err-step.field-0.0) c.loop.invariant.ring c.requires.good c.loop.invariant.there memory c.in_err-step.ensures.accepted))

pub push_state-requires-in-loop : goal.push_state-requires-in-loop
push_state-requires-in-loop g c =
    let m = g.B.Hierarchy.meaning c.args.h.now in
    let xs = c.args.guide.now in
    let k = home_of c.args.found in
    let i = c.loop.counter in
    let next = next_there m xs k c.loop.walk c.step.new.self c.loop.frames c.step.new.frames i c.loop.invariant.ring c.loop.invariant.there (c.in_ok-step.ensures.follows refl) in
    room_there m xs k c.step.new.self c.step.new.frames (suc i) next (lines_room m (walk_state m xs k) (suc i) 6 (omega arith) c.requires.room c.loop.invariant.written)

pub loop-preserved : goal.loop-preserved
loop-preserved g c =
    let m = g.B.Hierarchy.meaning c.args.h.now in
    let xs = c.args.guide.now in
    let k = home_of c.args.found in
    let i = c.loop.counter in
    let s = c.in_ok-step.ensures in
    let next = next_there m xs k c.loop.walk c.step.new.self c.loop.frames c.step.new.frames i c.loop.invariant.ring c.loop.invariant.there (s.follows refl) in
    let line = line_there m xs k c.loop.text.bytes c.step.new.self c.step.new.frames (suc i) next c.push_state-in-loop.ensures in
    let one : suc i ≡ i + 1 = omega arith in
    record {
      ring = s.home ∙ c.loop.invariant.ring;
      there = next ∙ ap (walk m (guide_home m xs k)) one;
      written = rw (← one) (lines_more c.args.text.now.bytes m (walk_state m xs k) (suc i) c.loop.invariant.written line);
    }

pub returns : goal.returns
returns g c = let all : suc c.loop.counter ≡ 6 = omega arith in rw all at c.loop.invariant.written
