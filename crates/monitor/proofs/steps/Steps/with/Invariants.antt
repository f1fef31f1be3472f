-- The cells hold the steps of the table before and those by the letters so far.
use Rattle.std.proofs.Common.{◌≡◌, length}
use Rattle.monitor.proofs.Cells.{Added}
use Rattle.monitor.proofs.steps.Steps.with.Given as goal

abbrev pub invariant-loop-letter : goal.invariant-loop-letter
invariant-loop-letter l =
    (length l.self.cells ≡ 256) × Added l.q l.care l.value l.r l.initial.self.cells l.letter l.self.cells
