use Rattle.std.proofs.Common.{arith}
use Rattle.std.proofs.lemmas.Grind.{common_steps}
use Rattle.std.proofs.lemmas.Result.{err_from_is_err_and}
use Rattle.chartfile.proofs.Progress.{file_bytes_more}
use Rattle.chartfile.proofs.Storing.{not_stored}
use Rattle.chartfile.proofs.store.write.Goals as goal

pub returns-in_err-push_record : goal.returns-in_err-push_record
returns-in_err-push_record c =
    let p = err_from_is_err_and c.from_residual.result c.from_residual.ensures.1 in
    rw (p.1, p.2) (not_stored c.args.records.now c.loop-record.record-index _ _ c.loop-record-test.true c.in_err-push_record.ensures)

pub loop-record-preserved : goal.loop-record-preserved
loop-record-preserved c = grind (arith, common_steps, file_bytes_more)
