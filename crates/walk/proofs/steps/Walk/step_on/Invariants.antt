use Rattle.std.proofs.Common.{◌≡◌, length, Ok}
use Rattle.walk.specs.Steps.{guide_for, ring_home, state_shown, lacking, Answers, Same}
use Rattle.walk.specs.Journeys.{Path, unless_none, WhereLacking, StepsOn}
use Rattle.walk.proofs.steps.Walk.step_on.Given as goal

abbrev pub invariant-loop : goal.invariant-loop
invariant-loop g l =
    record {
      home : ring_home l.self ≡ ring_home l.initial.self;
      along : StepsOn (g.B.Hierarchy.meaning l.h) (guide_for (g.B.Hierarchy.meaning l.h) l.guide l.initial.self) l.counter l.initial.self l.initial.frames l.self l.frames;
      path : Path (g.B.Hierarchy.meaning l.h) l.counter (state_shown (g.B.Hierarchy.meaning l.h) l.initial.self l.initial.frames) (state_shown (g.B.Hierarchy.meaning l.h) l.self l.frames);
      unaltered : WhereLacking (lacking (g.B.Hierarchy.meaning l.h) (length l.guide) (length l.initial.frames)) (Same l.initial.self l.initial.frames l.self l.frames);
      answer : Answers {X = Unit {0}} (unless_none l.counter (lacking (g.B.Hierarchy.meaning l.h) (length l.guide) (length l.initial.frames))) (Ok tt);
    }
