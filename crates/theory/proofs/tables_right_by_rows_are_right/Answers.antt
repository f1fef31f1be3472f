use Rattle.theory.proofs.Tables.{tabled, tabled_marks}
use Rattle.theory.proofs.tables_right_by_rows_are_right.Goals as goal

pub returns : goal.returns
returns c = record { reached = tabled; marks = tabled_marks }
