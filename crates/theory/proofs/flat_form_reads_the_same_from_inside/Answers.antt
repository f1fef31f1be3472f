use Rattle.theory.proofs.Innermost.{same_states, flat_form_read_from_inside, innermost_looks, reachable_are_flat}
use Rattle.theory.proofs.flat_form_reads_the_same_from_inside.Goals as goal

pub returns : goal.returns
returns c = record { states = same_states; transitions = flat_form_read_from_inside; looks = innermost_looks; reachable = reachable_are_flat }
