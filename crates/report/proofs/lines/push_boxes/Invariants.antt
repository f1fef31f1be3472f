use Rattle.std.proofs.Common.{◌≡◌, ◌++◌, take}
use Rattle.report.specs.Text.{dotted}
use Rattle.report.proofs.lines.push_boxes.Given as goal

abbrev pub invariant-loop-frame : goal.invariant-loop-frame
invariant-loop-frame l = l.text.bytes ≡ l.fn.text.bytes ++ dotted (take l.frame-index l.frame-items)
