use Rattle.std.proofs.Common.{[], ◌∷◌, get_or, decimal, sym, subst, arith}
use Rattle.walk.specs.Levels.{blank_frame}
use Rattle.report.specs.Text.{dotted}
use Rattle.report.specs.Writing.{Room}
use Rattle.report.proofs.Pushed.{room_first, room_rest, both}
use Rattle.report.proofs.Pieces.{box_room, box_written}
use Rattle.report.proofs.lines.push_boxes.Goals as goal

pub push_number-requires : goal.push_number-requires
push_number-requires c =
    let fs = c.outer-frame-items.result.now in
    let i = c.loop-frame.frame-index in
    let whole = subst (λ os. Room 2048 c.args.text.now.bytes (dotted os)) (sym c.outer-frame-items.ensures.outer) c.requires in
    (omega arith, room_first (decimal (get_or fs i blank_frame).place) (46 ∷ []) (box_room fs i c.loop-frame-test.true whole c.loop-frame.invariant))

pub push_str-requires : goal.push_str-requires
push_str-requires c =
    let fs = c.outer-frame-items.result.now in
    let i = c.loop-frame.frame-index in
    let whole = subst (λ os. Room 2048 c.args.text.now.bytes (dotted os)) (sym c.outer-frame-items.ensures.outer) c.requires in
    (omega arith, (room_rest (decimal (get_or fs i blank_frame).place) (46 ∷ []) (box_room fs i c.loop-frame-test.true whole c.loop-frame.invariant) c.push_number.ensures).fits)

pub loop-frame-preserved : goal.loop-frame-preserved
loop-frame-preserved c =
    let fs = c.outer-frame-items.result.now in
    let i = c.loop-frame.frame-index in
    box_written fs i c.loop-frame-test.true c.args.text.now.bytes c.loop-frame.invariant (both c.loop-frame.text.bytes (decimal (get_or fs i blank_frame).place) (46 ∷ []) c.push_number.ensures c.push_str.ensures.bytes)
