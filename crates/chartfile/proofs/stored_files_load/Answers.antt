use Rattle.chartfile.proofs.Storing.{stored_files_load_lem}
use Rattle.chartfile.proofs.stored_files_load.Goals as goal

pub returns : goal.returns
returns c = stored_files_load_lem
