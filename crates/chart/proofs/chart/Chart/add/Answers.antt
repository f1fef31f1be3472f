use Rattle.std.proofs.Common.{ap, ◌∙◌}
use Rattle.chart.specs.Charts.{sheet}
use Rattle.sheet.specs.Changes.{with_place_lem}
use Rattle.sheet.proofs.Keeps.{place_grows, grown_sound}
use Rattle.chart.proofs.chart.Chart.add.Goals as goal

pub write-requires-clause-sound : goal.write-requires-clause-sound
write-requires-clause-sound c =
    let s = sheet c.args.self.now in
    grown_sound s c.args.i _ _ (c.with_place.ensures.is ∙ ap (with_place_lem c.args.spot) c.row-row.ensures.row) c.requires.within
    (λ l. place_grows s c.args.i c.args.spot l c.requires.order) c.args.self.now.sound
