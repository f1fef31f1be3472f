-- Known in the end is what is reached, since a box names a later structure.
use Rattle.std.proofs.Common.{sym, ◌∙◌, arith}
use Rattle.guide.specs.Layout.{look}
use Rattle.judge.proofs.Knowing.{knows_start, knows_no, knows_yes, behind_up, only_put}
use Rattle.judge.proofs.judged.Judged.know_all.Goals as goal
use Rattle.judge.proofs.judged.Judged.know_all.Goals.{then-is_known, else-is_known}

pub loop-i-init : goal.loop-i-init
loop-i-init g c =
    let m = g.B.Hierarchy.meaning c.args.self.now.h.now in
    let L = g.B.Hierarchy.lawful c.args.self.now.h.now in
    let T = look c.args.guide.now c.args.self.now.places in
    let T₁ = look c.forget.new.guide c.args.self.now.places in
    let T₂ = look c.put.new.guide c.args.self.now.places in (
      behind_up m 0 T₁ T₂ (only_put c.put.ensures) (behind_up m 0 T T₁ c.forget.ensures.rest c.requires.rows.behind),
      knows_start m L c.args.self.now.places c.args.self.now.places_are (λ j h. c.forget.ensures.none j (omega (arith, c.args.self.now.structures_are))) c.child.ensures c.put.ensures,
    )

pub loop-i-preserved : goal.loop-i-preserved
loop-i-preserved g c =
    let m = g.B.Hierarchy.meaning c.args.self.now.h.now in
    let L = g.B.Hierarchy.lawful c.args.self.now.h.now in
    let T = look c.loop-i.guide c.args.self.now.places in
    elim c.if-is_known.branch [
      | then-is_known w ↦ simp w.guide-is (behind_up m 0 T (look w.know_boxes.new.guide c.args.self.now.places) w.know_boxes.ensures.rest c.loop-i.invariant.0, knows_yes m L c.args.self.now.places c.args.self.now.places_are c.loop-i.i (omega (arith, c.args.self.now.structures_are)) (sym c.is_known.ensures ∙ w.if-is_known.true) c.loop-i.invariant.1 w.know_boxes.ensures)
      | else-is_known w ↦ simp w.guide-is (c.loop-i.invariant.0, knows_no m L c.args.self.now.places c.args.self.now.places_are c.loop-i.i (sym c.is_known.ensures ∙ w.if-is_known.false) c.loop-i.invariant.1)
    ]
