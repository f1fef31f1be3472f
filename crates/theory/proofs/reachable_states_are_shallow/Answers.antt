use Rattle.theory.proofs.Depth.{shallow}
use Rattle.theory.proofs.reachable_states_are_shallow.Goals as goal

pub returns : goal.returns
returns c = record { shallow = shallow }
