-- Down to a place that is not reached, or the place is left.
use Rattle.std.proofs.Common.{◌+◌, ap}
use Rattle.guide.specs.Layout.{look}
use Rattle.judge.proofs.Visits.{visit_down}
use Rattle.judge.proofs.judged.Judged.go_on.Goals as goal

pub returns-clause-visited : goal.returns-clause-visited
returns-clause-visited g c =
    let m = g.B.Hierarchy.meaning c.args.self.now.h.now in
    let T = look c.args.guide.now c.args.self.now.places in
    let T' = look c.put.new.guide c.args.self.now.places in
    visit_down m c.args.self.now.structures c.args.self.now.places c.args.structure c.args.v c.in-Some.w _ T T' _ c.requires.nested c.in-Some.ensures c.child.ensures (ap (λ x. x.depth + 1) c.get-depth.ensures) c.put.ensures
