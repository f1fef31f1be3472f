use Rattle.std.proofs.Common.{refl, ap, ◌∙◌}
use Rattle.chart.specs.Charts.{sheet}
use Rattle.sheet.specs.declared.Spot.TheVariants.{Node}
use Rattle.sheet.specs.Sheet.{at, node?}
use Rattle.sheet.specs.Changes.{with_spot_lem}
use Rattle.sheet.proofs.Allows.{test_below}
use Rattle.sheet.proofs.Keeps.{node_grows, grown_sound}
use Rattle.chart.proofs.chart.Chart.write_node.Goals as goal

pub write-requires-clause-sound : goal.write-requires-clause-sound
write-requires-clause-sound c =
    let s = sheet c.args.self.now in
    let h = test_below node? refl (at s c.args.i).places c.args.p c.requires.noded in
    grown_sound s c.args.i _ _ (c.with_spot.ensures.is ∙ ap (with_spot_lem c.args.p (Node c.args.look c.args.exit)) c.row-row.ensures.row) c.requires.within
    (λ l. node_grows s c.args.i c.args.p c.args.look c.args.exit l h c.requires.noded c.requires.stays) c.args.self.now.sound
