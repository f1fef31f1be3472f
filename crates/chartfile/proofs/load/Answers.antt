use Rattle.std.proofs.Common.{◌≢◌, length, sym, refl, arith}
use Rattle.std.proofs.lemmas.Bool.{eqb-true, eqb-false}
use Rattle.std.proofs.lemmas.Result.{err_from_is_err_and}
use Rattle.chartfile.specs.Files.{drawing, too_long, short}
use Rattle.chartfile.proofs.Progress.{begin_progress, more_progress, few_so_far, whole_read, faulty_read, empty_read}
use Rattle.chartfile.proofs.load.Goals as goal

pub returns-then-bytes-gt-LONGEST-clause-loaded : goal.returns-then-bytes-gt-LONGEST-clause-loaded
returns-then-bytes-gt-LONGEST-clause-loaded c = rw c.at_start.ensures (too_long c.if-bytes-gt-LONGEST.true)

pub returns-then-is_empty-clause-loaded : goal.returns-then-is_empty-clause-loaded
returns-then-is_empty-clause-loaded c =
    rw c.at_start-then-is_empty.ensures
    (short c.if-bytes-gt-LONGEST.false
    (empty_read (drawing c.args.chart.now c.args.monitor.now) c.args.bytes.now (eqb-true _ _ (sym c.if-is_empty.ensures))))

pub loop-rest-init : goal.loop-rest-init
loop-rest-init c = (begin_progress (drawing c.args.chart.now c.args.monitor.now) c.args.bytes.now, λ _. (refl, refl))

pub returns-in_err-watches-clause-loaded : goal.returns-in_err-watches-clause-loaded
returns-in_err-watches-clause-loaded c =
    let p = err_from_is_err_and c.from_residual.result c.from_residual.ensures.1 in
    rw (p.1, p.2)
    (short c.if-bytes-gt-LONGEST.false (faulty_read c.in_err-watches.field-0.0 c.loop-rest.invariant.0 refl c.in_err-watches.ensures.read))

pub overflow_add-record : goal.overflow_add-record
overflow_add-record c = let b = few_so_far c.loop-rest.invariant.0 in omega arith

pub loop-rest-preserved : goal.loop-rest-preserved
loop-rest-preserved c = (
  more_progress c.loop-rest.invariant.0 c.in_ok-watches.ensures.read,
  λ e. absurd (omega (arith, e, c.loop-rest.invariant.0.count)),
)

pub returns-clause-loaded : goal.returns-clause-loaded
returns-clause-loaded c =
    let h : length c.args.bytes.now ≢ 0 = eqb-false _ _ (sym c.if-is_empty.ensures) in
    short c.if-bytes-gt-LONGEST.false (whole_read (omega arith) c.loop-rest.invariant.0 (eqb-true _ _ (sym c.loop-rest-test.ensures)))
