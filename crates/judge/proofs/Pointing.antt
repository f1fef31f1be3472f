-- The aims lead from structure 0 to where the ring starts.
-- Assumes nothing.
use Rattle.std.proofs.Common.{◌≡◌, ℕ, ◌<◌, ◌≤◌, true, List, sym, ap, ◌∙◌, subst, arith}
use Rattle.guide.specs.declared.Entry.{Entry}
use Rattle.guide.specs.declared.GuideRecord.{GuideRecord}
use Rattle.guide.specs.declared.Lane.TheVariants.{Up}
use Rattle.guide.specs.Layout.{Table, aim_of_lem}
use Rattle.judge.specs.declared.ring.Ring.{Ring}
use Rattle.judge.specs.Known.{known}
use Rattle.judge.specs.Ring.{Aimed, Falls, Pointed, at_home, to_inner, Points}

pub pointed_below : {T : Table} {aim : ℕ → ℕ} {home i : ℕ} → Pointed T aim home i → i ≤ home
pointed_below (at_home e) = omega arith
pointed_below (to_inner l k f v p) = omega (arith, pointed_below p)

-- only the aims from i on matter
pub pointed_kept : (T : Table) (aim aim' : ℕ → ℕ) (home i : ℕ) → ((k : ℕ) → i ≤ k → k < home → aim' k ≡ aim k) → Pointed T aim home i → Pointed T aim' home i
pointed_kept T aim aim' home i f (at_home e) = at_home e
pointed_kept T aim aim' home i f (to_inner {j = j} l k p v r) =
    to_inner l k p (v ∙ sym (f i (omega arith) (omega (arith, pointed_below r)))) (pointed_kept T aim aim' home j (λ n h. f n (omega arith)) r)

module _ (S P : ℕ) (T T' : Table) (g g' : List GuideRecord) (e : T' ≡ T) (fall : Falls S T) where
  -- one structure up
  pub point_up : (home j : ℕ) (x : Entry) → 0 < j → j < S → known T j ≡ true → x ≡ T Up j 0 → Aimed g g' P x.from x.via → Pointed T (aim_of_lem g P) home j → Pointed T' (aim_of_lem g' P) home x.from
  point_up home j x z l k q A p =
      let b = (fall j z l k).0 in
      let u : x.from ≡ (T Up j 0).from = ap (λ y. y.from) q in
      subst (λ Y. Pointed Y (aim_of_lem g' P) home x.from) (sym e)
      (to_inner (omega (arith, u, b)) k (sym u) (sym (ap (λ y. y.via) q) ∙ sym A.here) (pointed_kept T (aim_of_lem g P) (aim_of_lem g' P) home j (λ n h h'. A.rest n (λ w. omega (arith, w, u, b))) p))

  pub known_up : (j : ℕ) (x : Entry) → 0 < j → j < S → known T j ≡ true → x ≡ T Up j 0 → known T' x.from ≡ true
  known_up j x z l k q = ap (λ Y. known Y x.from) e ∙ ap (λ y. known T y.from) q ∙ (fall j z l k).1

  -- the last aim
  pub point_home : (r : Ring) → Aimed g g' P r.home r.start → Pointed T (aim_of_lem g P) r.home 0 → Points T' (aim_of_lem g' P) r
  point_home r A p = record {
    start = A.here;
    way = subst (λ Y. Pointed Y (aim_of_lem g' P) r.home 0) (sym e) (pointed_kept T (aim_of_lem g P) (aim_of_lem g' P) r.home 0 (λ n h h'. A.rest n (λ w. omega (arith, w))) p);
  }
