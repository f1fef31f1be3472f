use Rattle.std.proofs.Common.{◌≡◌, take, vec_items}
use Rattle.chartfile.specs.Records.{file_bytes}
use Rattle.chartfile.proofs.store.write.Given as goal

abbrev pub invariant-loop-record : goal.invariant-loop-record
invariant-loop-record l = vec_items l.out ≡ file_bytes (take l.record-index l.records)
