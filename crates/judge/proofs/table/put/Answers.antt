-- What is written is one entry of the table.
use Rattle.guide.specs.declared.Lane.TheVariants.{Plain, Marked, Up}
use Rattle.judge.proofs.Looks.{puts_set}
use Rattle.judge.proofs.table.put.Goals as goal

pub returns-in-Plain : goal.returns-in-Plain
returns-in-Plain c =
    puts_set _ _ _ _ _ _ _ c.requires.inside c.position-at.ensures.is c.position-at.ensures.within Plain c.in-Plain.is

pub returns-in-Marked : goal.returns-in-Marked
returns-in-Marked c =
    puts_set _ _ _ _ _ _ _ c.requires.inside c.position-at.ensures.is c.position-at.ensures.within Marked c.in-Marked.is

pub returns-in-Up : goal.returns-in-Up
returns-in-Up c =
    puts_set _ _ _ _ _ _ _ c.requires.inside c.position-at.ensures.is c.position-at.ensures.within Up c.in-Up.is
