use Rattle.std.proofs.Common.{◌≡◌, ◌≤◌, length, arith}
use Rattle.std.proofs.lemmas.Grind.{common_steps}
use Rattle.std.proofs.lemmas.List.{length-take-le}
use Rattle.chartjudge.proofs.Counted.{count_within}
use Rattle.chartjudge.proofs.main.Goals as goal

pub slice_bounds-write_all-end : goal.slice_bounds-write_all-end
slice_bounds-write_all-end c =
    let n : length c.deref-2.result.now ≡ 2048 = grind (arith, common_steps) in
    let h = count_within c.report_file.result _ _ _ _ _ c.report_file.ensures.printed in
    let k : c.unwrap_or-count.result ≤ 2048 = grind (arith, common_steps, h) in
    grind (arith, common_steps, length-take-le)
