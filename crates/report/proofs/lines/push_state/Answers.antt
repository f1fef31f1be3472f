use Rattle.std.proofs.Common.{◌≡◌, length, ◌++◌, decimal, sym, refl, ap, ◌∙◌, subst, arith}
use Rattle.hierarchy.specs.Flat.{last_node}
use Rattle.walk.specs.Steps.{state_shown}
use Rattle.walk.specs.Shown.{outer_frames, mark_of}
use Rattle.report.specs.Text.{dotted, star_text, line_feed}
use Rattle.report.specs.Writing.{Room}
use Rattle.report.proofs.Pushed.{room_first, room_rest, both}
use Rattle.report.proofs.Pieces.{line_parts}
use Rattle.report.proofs.lines.push_state.Goals.{then-marked, else-marked}
use Rattle.report.proofs.lines.push_state.Goals as goal

pub push_boxes-requires : goal.push_boxes-requires
push_boxes-requires g c =
    let m = g.B.Hierarchy.meaning c.args.h.now in
    let w = c.args.walk.now in
    let fs = c.args.frames.now in
    let s = state_shown m w fs in
    room_first (dotted (outer_frames w fs)) (decimal (last_node s) ++ (star_text (mark_of m s) ++ line_feed))
    (subst (Room 2048 c.args.text.now.bytes) (line_parts m w fs (last_node s) (mark_of m s) refl refl) c.requires)

pub push_number-requires : goal.push_number-requires
push_number-requires g c =
    let m = g.B.Hierarchy.meaning c.args.h.now in
    let w = c.args.walk.now in
    let fs = c.args.frames.now in
    let n = c.node.result in
    let tail = star_text (mark_of m (state_shown m w fs)) ++ line_feed in
    let room = subst (Room 2048 c.args.text.now.bytes) (line_parts m w fs n (mark_of m (state_shown m w fs)) (c.node.ensures fs) refl) c.requires in
    (omega arith, room_first (decimal n) tail (room_rest (dotted (outer_frames w fs)) (decimal n ++ tail) room c.push_boxes.ensures))

pub push_str-requires : goal.push_str-requires
push_str-requires g c =
    let m = g.B.Hierarchy.meaning c.args.h.now in
    let w = c.args.walk.now in
    let fs = c.args.frames.now in
    let n = c.node.result in
    let mark = c.is_marked-marked.result in
    let tail = star_text mark ++ line_feed in
    let pushed : c.if-marked.push_str.now ≡ tail = elim c.if-marked.branch [ then-marked v ↦ rw v.if-marked.true (ap (λ b. b.now) v.push_str-is) | else-marked v ↦ rw v.if-marked.false (ap (λ b. b.now) v.push_str-is) ] in
    let room = subst (Room 2048 c.args.text.now.bytes) (line_parts m w fs n mark (c.node.ensures fs) c.is_marked-marked.ensures) c.requires in
    let rest = room_rest (decimal n) tail (room_rest (dotted (outer_frames w fs)) (decimal n ++ tail) room c.push_boxes.ensures) c.push_number.ensures in
    (omega arith, omega (arith, rest.fits, ap length pushed))

pub returns : goal.returns
returns g c =
    let m = g.B.Hierarchy.meaning c.args.h.now in
    let w = c.args.walk.now in
    let fs = c.args.frames.now in
    let n = c.node.result in
    let mark = c.is_marked-marked.result in
    let tail = star_text mark ++ line_feed in
    let pushed : c.if-marked.push_str.now ≡ tail = elim c.if-marked.branch [ then-marked v ↦ rw v.if-marked.true (ap (λ b. b.now) v.push_str-is) | else-marked v ↦ rw v.if-marked.false (ap (λ b. b.now) v.push_str-is) ] in
    let last = c.push_str.ensures.bytes ∙ ap (λ t. c.push_number.new.text.bytes ++ t) pushed in
    both c.args.text.now.bytes (dotted (outer_frames w fs)) (decimal n ++ tail) c.push_boxes.ensures (both c.push_boxes.new.text.bytes (decimal n) tail c.push_number.ensures last) ∙
    ap (λ t. c.args.text.now.bytes ++ t) (sym (line_parts m w fs n mark (c.node.ensures fs) c.is_marked-marked.ensures))
