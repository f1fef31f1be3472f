-- The parts of the state that a walk shows, read from the frames of its outer levels and its innermost one.
-- Assumes nothing.
use Rattle.std.proofs.Common.{◌≡◌, ℕ, zero, suc, ◌<◌, ◌≤◌, List, [], ◌∷◌, length, get_or, take, Some, None, Option, sym, refl, ap, ◌∙◌, arith}
use denote.Ref.{Bor}
use Rattle.std.specs.Option.{MatchOption, IsSomeAnd}
use Rattle.std.specs.Slice.{IsItemAt}
use Rattle.hierarchy.specs.Meaning.{Meaning}
use Rattle.hierarchy.specs.Flat.{last_structure, last_node, inner_of}
use Rattle.walk.specs.declared.frame.Frame.{Frame}
use Rattle.walk.specs.declared.stand.Stand.{Stand}
use Rattle.walk.specs.declared.steps.Walk.{Walk}
use Rattle.walk.specs.Walks.{inmost, shown}
use Rattle.walk.specs.Standing.{graft}
use Rattle.walk.specs.Steps.{shown_at, state_shown}
use Rattle.walk.specs.Shown.{boxes_of, box_places, box_in, mark_of, structure_behind_lem, outer_at, outer_frames}

graft_boxes : (fs : List Frame) (f : Frame) → boxes_of (shown (graft fs (inmost f))) ≡ box_places fs
graft_boxes [] f = refl
graft_boxes (x ∷ fs) f = ap (λ bs. x.place ∷ bs) (graft_boxes fs f)

graft_structure : (m : Meaning) (i : ℕ) (fs : List Frame) (f : Frame) → last_structure m i (shown (graft fs (inmost f))) ≡ structure_behind_lem m i fs
graft_structure m i [] f = refl
graft_structure m i (x ∷ fs) f = graft_structure m (inner_of (m.place i x.place)) fs f

graft_node : (fs : List Frame) (f : Frame) → last_node (shown (graft fs (inmost f))) ≡ f.place
graft_node [] f = refl
graft_node (x ∷ fs) f = graft_node fs f

pub shown_boxes : (m : Meaning) (w : Walk) (fs : List Frame) → boxes_of (state_shown m w fs) ≡ box_places (outer_frames w fs)
shown_boxes m w fs = go w.stand
  where
    go : (o : Option Stand) → boxes_of (shown_at m fs o) ≡ box_places (outer_at fs o)
    go None = refl
    go (Some s) = graft_boxes (take s.depth fs) s.last

pub shown_structure : (m : Meaning) (w : Walk) (fs : List Frame) → last_structure m 0 (state_shown m w fs) ≡ structure_behind_lem m 0 (outer_frames w fs)
shown_structure m w fs = go w.stand
  where
    go : (o : Option Stand) → last_structure m 0 (shown_at m fs o) ≡ structure_behind_lem m 0 (outer_at fs o)
    go None = refl
    go (Some s) = graft_structure m 0 (take s.depth fs) s.last

-- the node at which a walk stands
abbrev pub node_at : Meaning → Option Stand → ℕ
node_at m None = m.entry 0
node_at m (Some s) = s.last.place

pub shown_node : (m : Meaning) (w : Walk) (fs : List Frame) → last_node (state_shown m w fs) ≡ node_at m w.stand
shown_node m w fs = go w.stand
  where
    go : (o : Option Stand) → last_node (shown_at m fs o) ≡ node_at m o
    go None = refl
    go (Some s) = graft_node (take s.depth fs) s.last

-- by cases told: N where it has not stepped, and S of where it stands
pub node_told : (m : Meaning) (o : Option Stand) (r : ℕ) {N : Type 0} {S : Stand → Type 0} → (N → r ≡ m.entry 0) → ((s : Stand) → S s → r ≡ s.last.place) → MatchOption o N S → r ≡ node_at m o
node_told m None r f g e = f e
node_told m (Some s) r f g e = g s e

pub length_places : (fs : List Frame) → length (box_places fs) ≡ length fs
length_places [] = refl
length_places (f ∷ fs) = ap suc (length_places fs)

pub box_there : (fs : List Frame) (k : ℕ) (d : Frame) → k < length fs → box_in (box_places fs) k ≡ Some (get_or fs k d).place
box_there [] k d h = absurd (omega arith)
box_there (f ∷ fs) zero d h = refl
box_there (f ∷ fs) (suc k) d h = box_there fs k d (omega arith)

pub box_past : (fs : List Frame) (k : ℕ) → length fs ≤ k → box_in (box_places fs) k ≡ None
box_past [] k h = refl
box_past (f ∷ fs) zero h = absurd (omega arith)
box_past (f ∷ fs) (suc k) h = box_past fs k (omega arith)

-- the place in the frame that is lent, if there is one
pub box_told : (fs : List Frame) (k : ℕ) (P : Bor Frame → ℕ → Type 0) → ((x : Bor Frame) (p : ℕ) → P x p → p ≡ x.now.place) → (o : Option (Bor Frame)) (r : Option ℕ) →
    IsItemAt fs k o → MatchOption o (r ≡ None) (λ x. IsSomeAnd r (P x)) → r ≡ box_in (box_places fs) k
box_told fs k P f None r i e = e ∙ sym (box_past fs k i.3)
box_told fs k P f (Some x) None i e = absurd e
box_told fs k P f (Some x) (Some p) i e = ap Some (f x p e ∙ ap (λ y. y.place) i.1) ∙ sym (box_there fs k x.now i.3.0)

pub mark_there : (m : Meaning) (w : Walk) (fs : List Frame) (i n : ℕ) → i ≡ structure_behind_lem m 0 (outer_frames w fs) → n ≡ last_node (state_shown m w fs) →
    m.mark i n ≡ mark_of m (state_shown m w fs)
mark_there m w fs i n e f = let q : i ≡ last_structure m 0 (state_shown m w fs) = e ∙ sym (shown_structure m w fs) in λ x. m.mark (q x) (f x)
