use Rattle.std.proofs.Common.{sym, refl, ap, ◌∙◌}
use Rattle.std.proofs.lemmas.List.{drop_all}
use Rattle.hierarchy.specs.Meaning.{box}
use Rattle.hierarchy.proofs.Told.{told_box}
use Rattle.walk.specs.Levels.{blank_frame}
use Rattle.walk.specs.Standing.{located}
use Rattle.walk.proofs.Safe.{locate_step, no_box_told}
use Rattle.walk.proofs.stand.locate.Goals as goal

pub loop-f-preserved : goal.loop-f-preserved
loop-f-preserved g c = c.loop-f.invariant ∙ locate_step (g.B.Hierarchy.meaning c.args.h.now) _ _ _ blank_frame (box c.in-Box.inner) c.loop-f-test.true (told_box _ _ c.in-Box.ensures)

pub returns-in_default : goal.returns-in_default
returns-in_default g c =
    let m = g.B.Hierarchy.meaning c.args.h.now in
    sym (c.loop-f.invariant ∙ locate_step m _ _ _ blank_frame _ c.loop-f-test.true refl ∙ no_box_told c.place.result _ _ c.in_default.not-Box c.place.ensures)

pub returns : goal.returns
returns g c = sym (c.loop-f.invariant ∙ ap (located (g.B.Hierarchy.meaning c.args.h.now) c.loop-f.structure) (drop_all _ _ c.loop-f-test.false))
