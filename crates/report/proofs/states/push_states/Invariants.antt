use Rattle.std.proofs.Common.{◌≡◌, suc, ◌++◌}
use Rattle.judge.specs.Verdicts.{home_of}
use Rattle.walk.specs.Walks.{walk}
use Rattle.walk.specs.Steps.{levels, guide_home, ring_home}
use Rattle.report.specs.Text.{walk_state, run_lines}
use Rattle.report.proofs.states.push_states.Given as goal

abbrev pub invariant-loop : goal.invariant-loop
invariant-loop g l =
    let m = g.B.Hierarchy.meaning l.h in
    let home = home_of l.fn.found in
    record {
      ring : ring_home l.walk ≡ home;
      there : levels m (guide_home m l.guide home) l.walk l.frames ≡ walk m (guide_home m l.guide home) l.counter;
      written : l.text.bytes ≡ l.fn.text.bytes ++ run_lines m (walk_state m l.guide home) (suc l.counter);
    }
