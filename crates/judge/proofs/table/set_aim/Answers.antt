-- An aim is no part of the trees.
use Rattle.judge.proofs.Looks.{aim_set, aim_keeps_look}
use Rattle.judge.proofs.table.set_aim.Goals as goal

pub returns-clause-rest : goal.returns-clause-rest
returns-clause-rest c =
    aim_keeps_look _ _ c.args.row _ _ c.requires.some c.position-at.ensures.is c.position-at.ensures.within

pub returns-clause-aims : goal.returns-clause-aims
returns-clause-aims c =
    aim_set _ _ _ _ _ c.requires.some c.position-at.ensures.is c.position-at.ensures.within
