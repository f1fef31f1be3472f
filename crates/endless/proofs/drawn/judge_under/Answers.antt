use Rattle.std.proofs.Common.{map, rules}
use Rattle.monitor.specs.Tables.{automaton_of}
use Rattle.endless.proofs.drawn.judge_under.Goals as goal

pub returns-clause-refused : goal.returns-clause-refused
returns-clause-refused g c =
    (c.judge_and_walk.ensures.piles (g.B.Hierarchy.meaning c.args.base.now) (map automaton_of c.args.monitors.now)
    (g.B.Hierarchy.lawful c.args.base.now) c.new-pile.ensures.proper (search rules)).refused
