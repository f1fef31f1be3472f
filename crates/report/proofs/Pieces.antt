-- The pieces of a state's line: its boxes with their dots, one box after another, and its node.
-- Assumes nothing.
use Rattle.std.proofs.Common.{◌≡◌, ℕ, ◌+◌, ◌<◌, ◌≤◌, Bool, List, [], ◌∷◌, ◌++◌, length, get_or, take, drop, Some, None, decimal, Option, sym, refl, ap, ◌∙◌, subst, arith}
use Rattle.std.proofs.lemmas.List.{append_assoc, length-append, take_more, take-append-drop}
use Rattle.hierarchy.specs.Meaning.{Meaning}
use Rattle.hierarchy.specs.Flat.{last_node}
use Rattle.walk.specs.declared.frame.Frame.{Frame}
use Rattle.walk.specs.declared.stand.Stand.{Stand}
use Rattle.walk.specs.declared.steps.Walk.{Walk}
use Rattle.walk.specs.Walks.{inmost, shown}
use Rattle.walk.specs.Standing.{graft}
use Rattle.walk.specs.Steps.{state_shown, shown_at}
use Rattle.walk.specs.Shown.{outer_frames, outer_at, mark_of}
use Rattle.walk.specs.Levels.{blank_frame}
use Rattle.walk.proofs.Showing.{node_at, shown_node}
use Rattle.report.specs.Writing.{Room}
use Rattle.report.proofs.Pushed.{room_rest, both}
use Rattle.report.specs.Text.{dotted, numbers_text, star_text, line_feed, state_line}

dotted_append : (fs gs : List Frame) → dotted (fs ++ gs) ≡ dotted fs ++ dotted gs
dotted_append [] gs = refl
dotted_append (f ∷ fs) gs =
    ap (λ t. decimal f.place ++ (46 ∷ t)) (dotted_append fs gs) ∙ sym (append_assoc (decimal f.place) (46 ∷ dotted fs) (dotted gs))

dotted_front : (fs : List Frame) (n : ℕ) → length (dotted (take n fs)) ≤ length (dotted fs)
dotted_front fs n =
    let e : length (dotted fs) ≡ length (dotted (take n fs)) + length (dotted (drop n fs)) =
    ap (λ xs. length (dotted xs)) (sym (take-append-drop n fs)) ∙ ap length (dotted_append (take n fs) (drop n fs)) ∙ length-append (dotted (take n fs)) (dotted (drop n fs)) in
    omega (arith, e)

graft_numbers : (fs : List Frame) (f : Frame) → numbers_text (shown (graft fs (inmost f))) ≡ dotted fs ++ decimal f.place
graft_numbers [] f = refl
graft_numbers (x ∷ fs) f = ap (λ t. decimal x.place ++ (46 ∷ t)) (graft_numbers fs f) ∙ sym (append_assoc (decimal x.place) (46 ∷ dotted fs) (decimal f.place))

-- boxes, and then the node
numbers_parts : (m : Meaning) (w : Walk) (fs : List Frame) → numbers_text (state_shown m w fs) ≡ dotted (outer_frames w fs) ++ decimal (node_at m w.stand)
numbers_parts m w fs = go w.stand
  where
    go : (o : Option Stand) → numbers_text (shown_at m fs o) ≡ dotted (outer_at fs o) ++ decimal (node_at m o)
    go None = refl
    go (Some s) = graft_numbers (take s.depth fs) s.last

-- the next box: room for it with its dot, and what is written with it
module _ (fs : List Frame) (i : ℕ) (h : i < length fs) where
  next : List ℕ
  next = decimal (get_or fs i blank_frame).place ++ 46 ∷ []

  more : dotted (take (i + 1) fs) ≡ dotted (take i fs) ++ next
  unfolding next
  more = ap dotted (take_more fs i blank_frame h) ∙ dotted_append (take i fs) (get_or fs i blank_frame ∷ [])

  pub box_room : {n : ℕ} {a b : List ℕ} → Room n a (dotted fs) → b ≡ a ++ dotted (take i fs) → Room n b (decimal (get_or fs i blank_frame).place ++ (46 ∷ []))
  unfolding next
  box_room {n} {a} r e = room_rest (dotted (take i fs)) next (subst (Room n a) more (record { fits = omega (arith, dotted_front fs (i + 1), r.fits) })) e

  pub box_written : (a : List ℕ) {b c : List ℕ} → b ≡ a ++ dotted (take i fs) → c ≡ b ++ (decimal (get_or fs i blank_frame).place ++ (46 ∷ [])) → c ≡ a ++ dotted (take (i + 1) fs)
  unfolding next
  box_written a e f = both a (dotted (take i fs)) next e f ∙ ap (λ t. a ++ t) (sym more)

-- boxes, node, and star with line feed
pub line_parts : (m : Meaning) (w : Walk) (fs : List Frame) (n : ℕ) (b : Bool) → n ≡ last_node (state_shown m w fs) → b ≡ mark_of m (state_shown m w fs) →
    state_line m (state_shown m w fs) ≡ dotted (outer_frames w fs) ++ (decimal n ++ (star_text b ++ line_feed))
line_parts m w fs n b e f =
    let s = state_shown m w fs in
    let d = decimal (node_at m w.stand) in
    ap (λ t. t ++ (star_text (mark_of m s) ++ line_feed)) (numbers_parts m w fs) ∙
    append_assoc (dotted (outer_frames w fs)) d (star_text (mark_of m s) ++ line_feed) ∙
    ap (λ k. dotted (outer_frames w fs) ++ (decimal k ++ (star_text (mark_of m s) ++ line_feed))) (sym (e ∙ shown_node m w fs)) ∙
    ap (λ k. dotted (outer_frames w fs) ++ (decimal n ++ (star_text k ++ line_feed))) (sym f)
