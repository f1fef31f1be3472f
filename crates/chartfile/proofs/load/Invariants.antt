use Rattle.std.proofs.Common.{◌≡◌, length}
use Rattle.chartfile.specs.Files.{drawing}
use Rattle.chartfile.proofs.Progress.{Progress}
use Rattle.chartfile.proofs.load.Given as goal

abbrev pub invariant-loop-rest : goal.invariant-loop-rest
invariant-loop-rest l =
    Progress (drawing l.initial.chart l.initial.monitor) (drawing l.chart l.monitor) l.bytes l.rest l.«record» l.watched
    × (l.«record» ≡ 1 → (l.chart ≡ l.initial.chart) × (l.monitor ≡ l.initial.monitor))

abbrev pub decreases-loop-rest : goal.decreases-loop-rest
decreases-loop-rest l = length l.rest
