use Rattle.std.proofs.Common.{◌≡◌, drop}
use Rattle.chart.specs.Charts.{sheet}
use Rattle.sheet.specs.Replay.{replayed}
use Rattle.chart.proofs.chart.Chart.replay.Given as goal

abbrev pub invariant-loop-edit : goal.invariant-loop-edit
invariant-loop-edit l = replayed (sheet l.self) (drop l.edit-index l.edits) ≡ replayed (sheet l.initial.self) l.edits
