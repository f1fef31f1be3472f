use Rattle.std.proofs.Common.{sym, ap, ◌∙◌, arith}
use Rattle.chart.specs.Charts.{sheet}
use Rattle.sheet.specs.Sheet.{inner, spot}
use Rattle.sheet.specs.Changes.{with_leave}
use Rattle.sheet.proofs.Allows.{leave_may}
use Rattle.sheet.proofs.Keeps.{leave_grows, grown_sound}
use Rattle.chart.proofs.chart.Chart.set_leave.Goals as goal

pub with_leave-requires : goal.with_leave-requires
with_leave-requires c =
    let s = sheet c.args.self.now in
    let m = leave_may s c.args.i c.args.b c.args.e c.args.w c.args.there (sym c.in_ok-check_leave.ensures) in
    let f = c.args.self.now.places in (
      omega (arith, m.from, f c.args.i),
      (omega (arith, m.by, f (inner (spot s c.args.i c.args.b))), omega (arith, m.to, f c.args.i)),
    )

pub write-requires-clause-sound : goal.write-requires-clause-sound
write-requires-clause-sound c =
    let s = sheet c.args.self.now in
    let m = leave_may s c.args.i c.args.b c.args.e c.args.w c.args.there (sym c.in_ok-check_leave.ensures) in
    grown_sound s c.args.i _ _ (c.with_leave.ensures.is ∙ ap (with_leave c.args.b c.args.e c.args.w c.args.there) c.row-row.ensures.row) m.within
    (λ l. leave_grows s c.args.i c.args.b c.args.e c.args.w c.args.there l m.stands) c.args.self.now.sound
