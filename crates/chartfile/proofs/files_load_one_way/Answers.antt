use Rattle.chartfile.proofs.OneWay.{loads_one_way}
use Rattle.chartfile.proofs.files_load_one_way.Goals as goal

pub returns : goal.returns
returns c = loads_one_way
