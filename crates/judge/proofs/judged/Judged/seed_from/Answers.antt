-- The targets of the marked hops of a place are seeds.
use Rattle.guide.specs.Layout.{look}
use Rattle.judge.proofs.Sows.{expands_sown}
use Rattle.judge.proofs.judged.Judged.seed_from.Goals as goal

pub returns : goal.returns
returns g c =
    let m = g.B.Hierarchy.meaning c.args.self.now.h.now in
    let L = g.B.Hierarchy.lawful c.args.self.now.h.now in
    let T = look c.args.guide.now c.args.site.places in
    let T' = look c.expand.new.guide c.args.site.places in
    expands_sown m L c.args.site c.args.v c.args.depth c.requires.at.fit T T' c.requires.behind c.expand.ensures
