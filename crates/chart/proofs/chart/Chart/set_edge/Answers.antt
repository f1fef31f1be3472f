use Rattle.std.proofs.Common.{sym, ap, ◌∙◌}
use Rattle.chart.specs.Charts.{sheet}
use Rattle.sheet.specs.Changes.{with_edge_lem}
use Rattle.sheet.proofs.Allows.{edge_may}
use Rattle.sheet.proofs.Keeps.{edge_grows, grown_sound}
use Rattle.chart.proofs.chart.Chart.set_edge.Goals as goal

pub write-requires-clause-sound : goal.write-requires-clause-sound
write-requires-clause-sound c =
    let s = sheet c.args.self.now in
    let m = edge_may s c.args.i c.args.p c.args.w c.args.there (sym c.in_ok-check_edge.ensures) in
    grown_sound s c.args.i _ _ (c.with_edge.ensures.is ∙ ap (with_edge_lem c.args.p c.args.w c.args.there) c.row-row.ensures.row) m.within
    (λ l. edge_grows s c.args.i c.args.p c.args.w c.args.there l (λ _. m.stands)) c.args.self.now.sound
