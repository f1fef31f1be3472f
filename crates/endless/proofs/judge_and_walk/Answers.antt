use Rattle.std.proofs.Common.{◌≡◌, length, None, Option, subst, rules}
use Rattle.judge.specs.Verdicts.{Guides, home_of}
use Rattle.judge.specs.declared.FoundMark.{FoundMark}
use Rattle.guide.specs.Trees.{Good}
use Rattle.walk.specs.Steps.{guide_home, lacking}
use Rattle.walk.proofs.Answered.{not_large}
use Rattle.endless.proofs.Judging.{judged_piles, walks_on}
use Rattle.endless.proofs.judge_and_walk.Goals as goal

pub returns-in_err-walkable-clause-piles : goal.returns-in_err-walkable-clause-piles
returns-in_err-walkable-clause-piles g c = judged_piles (g.B.Hierarchy.meaning c.args.h.now) (length c.args.guide.now) (length c.args.frames.now) _ (search rules) (search rules)

pub returns-in_ok-walk_on-in-Some-clause-piles : goal.returns-in_ok-walk_on-in-Some-clause-piles
returns-in_ok-walk_on-in-Some-clause-piles g c = judged_piles (g.B.Hierarchy.meaning c.args.h.now) (length c.args.guide.now) (length c.args.frames.now) _ (search rules) (search rules)

pub returns-in_ok-walk_on-in-Some-clause-endless : goal.returns-in_ok-walk_on-in-Some-clause-endless
returns-in_ok-walk_on-in-Some-clause-endless g c =
    let m = g.B.Hierarchy.meaning c.args.h.now in
    let good : Good m (guide_home m c.judge.new.guide (home_of c.in-Some.found))
    = subst (λ (o : Option FoundMark). Guides m c.judge.new.guide o) c.in-Some.is c.in_ok-reach.ensures.guides in
    let enough : lacking m (length c.args.guide.now) (length c.args.frames.now) ≡ None = search rules in
    let w = c.in_ok-walk_on-in-Some.ensures in
    walks_on m c.judge.new.guide c.walk_on.new.frames _ c.args.n _ good (w.endless good (not_large m _ _ enough)) w.home w.shown w.way

pub returns-in-None-clause-piles : goal.returns-in-None-clause-piles
returns-in-None-clause-piles g c = judged_piles (g.B.Hierarchy.meaning c.args.h.now) (length c.args.guide.now) (length c.args.frames.now) _ (search rules) (search rules)
