-- Each turn adds one letter's step or none; after the last turn all letters are in.
use Rattle.std.proofs.Common.{◌≡◌, true, ◌∙◌, arith}
use mathlib.Core.Path.{fun_ext}
use Rattle.std.proofs.lemmas.List.{length-set}
use Rattle.monitor.specs.Tables.{steps_of}
use Rattle.monitor.proofs.Cells.{cell, added, added_first, added_skipped, added_written}
use Rattle.monitor.proofs.steps.Steps.with.Goals as goal
use Rattle.monitor.proofs.steps.Steps.with.Goals.{then-letter-care, else-letter-care}

pub loop-letter-init : goal.loop-letter-init
loop-letter-init c = (omega arith, added_first c.args.q c.args.care c.args.value c.args.r c.args.self.cells)

pub loop-letter-preserved : goal.loop-letter-preserved
loop-letter-preserved c =
    let q = c.args.q in
    let care = c.args.care in
    let value = c.args.value in
    let r = c.args.r in
    let n = c.loop-letter.letter in
    let before = c.args.self.cells in
    let cells = c.loop-letter.self.cells in
    let inv = c.loop-letter.invariant in
    elim c.if-letter-care.branch [
      | then-letter-care w ↦
          rw (w.self-is, w.cell.ensures)
          ((length-set cells (cell q n r) true ∙ inv.0), added_written q care value r before cells n inv.0 c.requires.0 c.loop-letter-test.true c.requires.1 w.if-letter-care.true inv.1)
      | else-letter-care w ↦
          rw w.self-is (inv.0, added_skipped q care value r before cells n w.if-letter-care.false inv.1)
    ]

pub returns : goal.returns
unfolding steps_of added
returns c =
    let done : c.loop-letter.letter ≡ 16 = omega (arith, c.loop-letter-test.false, c.loop-letter.auto.letter-end) in
    let all = rw done at c.loop-letter.invariant.1 in
    fun_ext (λ p. fun_ext (λ a. fun_ext (λ t. all p a t)))
