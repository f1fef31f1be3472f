-- What the code of a step checks, and what it leaves, over values.
-- Assumes nothing.
use Rattle.std.proofs.Common.{◌≡◌, ℕ, zero, suc, ◌+◌, ◌<◌, List, [], ◌∷◌, length, get_or, take, drop, set, Some, None, Option, sym, refl, ap, ◌∙◌, subst, add-one, arith, drop-cons}
use Rattle.hierarchy.specs.Meaning.{Meaning, Kind, absent, node, box}
use Rattle.hierarchy.specs.Answers.{place_told}
use Rattle.hierarchy.specs.declared.Place.{Place}
use Rattle.hierarchy.specs.declared.Place.TheVariants.{Box}
use Rattle.guide.specs.Trees.{Guide}
use Rattle.walk.specs.declared.frame.Frame.{Frame}
use Rattle.walk.specs.Levels.{turned, inner}
use Rattle.walk.specs.Walks.{Stack, inmost, outer, land}
use Rattle.walk.specs.Standing.{located, through_box, graft}
use Rattle.walk.proofs.Grafts.{Under, under_none, under_box}

-- the frames that lead somewhere
pub locate_step : (m : Meaning) (xs : List Frame) (n i : ℕ) (d : Frame) (k : Kind) → n < length xs → m.place i (get_or xs n d).place ≡ k →
    located m i (drop n xs) ≡ through_box k (λ j. located m j (drop (n + 1) xs))
locate_step m xs n i d k h e = rw (add-one, drop-cons xs n d h, e) refl

pub no_box_told : (p : Place) (k : Kind) (f : ℕ → Option ℕ) → ((j : ℕ) → p ≡ Box j → ⊥) → p ≡ place_told k → through_box k f ≡ None
no_box_told p absent f n e = refl
no_box_told p node f n e = refl
no_box_told p (box j) f n e = absurd (n j e)

pub located→ : (m : Meaning) (xs : List Frame) (i k : ℕ) → located m i xs ≡ Some k → Under m i xs k
located→ m [] i k e = let q : i ≡ k = cc in subst (Under m i []) q under_none
located→ m (x ∷ xs) i k e = go (m.place i x.place) refl (located→ m xs)
  where
    go : (p : Kind) → m.place i x.place ≡ p → ((i k : ℕ) → located m i xs ≡ Some k → Under m i xs k) → Under m i (x ∷ xs) k
    go absent q rec = absurd (cc (ap (λ p. through_box p (λ j. located m j xs)) q))
    go node q rec = absurd (cc (ap (λ p. through_box p (λ j. located m j xs)) q))
    go (box j) q rec = under_box q (rec j k (sym (ap (λ p. through_box p (λ j. located m j xs)) q) ∙ e))

pub located← : (m : Meaning) (xs : List Frame) (i k : ℕ) → Under m i xs k → located m i xs ≡ Some k
located← m [] i k under_none = refl
located← m (x ∷ xs) i k (under_box {j = j} b U) = ap (λ p. through_box p (λ j. located m j xs)) b ∙ located← m xs j k U

-- a level written below the first d frames
graft_suc : (xs : List Frame) (d : ℕ) (t : Frame) (s : Stack) → d < length xs → graft (take (suc d) (set xs d t)) s ≡ graft (take d xs) (outer t s)
graft_suc [] d t s h = absurd (omega arith)
graft_suc (x ∷ xs) zero t s h = refl
graft_suc (x ∷ xs) (suc d) t s h = ap (outer x) (graft_suc xs d t s (omega arith))

pub graft_set : (xs : List Frame) (d : ℕ) (t : Frame) (s : Stack) → d < length xs → graft (take (d + 1) (set xs d t)) s ≡ graft (take d xs) (outer t s)
graft_set xs d t s h = rw add-one (graft_suc xs d t s h)

pub graft_take : (xs : List Frame) (d : ℕ) (e : Frame) (s : Stack) → d < length xs → graft (take (d + 1) xs) s ≡ graft (take d xs) (outer (get_or xs d e) s)
graft_take xs d e s h = rw add-one (go xs d h)
  where
    go : (xs : List Frame) (d : ℕ) → d < length xs → graft (take (suc d) xs) s ≡ graft (take d xs) (outer (get_or xs d e) s)
    go [] d h = absurd (omega arith)
    go (x ∷ xs) zero h = refl
    go (x ∷ xs) (suc d) h = ap (outer x) (go xs d (omega arith))

pub land_box : (m : Meaning) (g : Guide) (i : ℕ) (f t q : Frame) (j : ℕ) → m.place i f.place ≡ box j → t ≡ turned g i f → q ≡ inner m g i t j t.left →
    outer t (inmost q) ≡ land m g i f
land_box m g i f t q j e u h = rw (e, h, u) refl
