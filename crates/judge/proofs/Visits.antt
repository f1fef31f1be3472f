-- One visit of a place: down to a place that is not reached, or the place is left.
-- Assumes nothing.
use Rattle.std.proofs.Common.{arith}
use Rattle.std.proofs.lemmas.Grind.{common_steps}
use Rattle.std.proofs.Common.{◌≡◌, ℕ, ◌+◌, ◌<◌, Bool, true, false, ◌≢◌, ◌⊎◌, Some, None, sym, refl, ap, ◌∙◌, subst, inl, inr}
use Rattle.std.proofs.lemmas.Bool.{cases_eq, both_ways}
use Rattle.hierarchy.specs.Meaning.{Meaning, Lawful}
use Rattle.theory.specs.Hops.{Hop}
use Rattle.guide.specs.declared.Entry.{Entry}
use Rattle.guide.specs.declared.Lane.TheVariants.{Plain, Marked}
use Rattle.guide.specs.Layout.{Table, blank}
use Rattle.judge.specs.Tables.{Others, Put}
use Rattle.judge.specs.Spread.{child, finished, Fit}
use Rattle.judge.specs.Search.{Spreads, Closed, Orderly, NothingOpen}
use Rattle.judge.specs.Rows.{From, MarkedRow}
use Rattle.judge.specs.Seeds.{SownFrom}
use Rattle.judge.specs.Ring.{ring_site, Back}
use Rattle.judge.specs.Nested.{order_site, FreshHop, Order, Swept, Nested, SweptFrom, NoRing, remaining}
use Rattle.judge.proofs.Stays.{row_same, plain_not_marked}
use Rattle.judge.proofs.Rings.{back_on_way}
use Rattle.judge.proofs.Orders.{order_start, order_down, order_up, down_done, down_fewer, stays_done, left_fewer, all_left}
use Rattle.judge.proofs.Sweeps.{swept_start, swept_on, sweep_found, sweep_none, sweep_swept}

same_order : (T T' : Table) (S : ℕ) → Others T T' Plain S → T' Marked S ≡ T Marked S
same_order T T' S f = row_same T T' Plain S f Marked S (λ z. plain_not_marked (sym z.0))

same_sweeps : (T T' : Table) (S : ℕ) → Others T T' Marked S → T' Plain S ≡ T Plain S
same_sweeps T T' S f = row_same T T' Marked S f Plain S (λ z. plain_not_marked z.0)

-- ---- a sweep
pub sweep_skips : (m : Meaning) (S P i v : ℕ) (T : Table) → Nested m S P i v T → MarkedRow m i (T Plain i) (T Marked i) → (T Marked i v).reached ≡ false → SweptFrom m S P i v T false
sweep_skips m S P i v T N R n = record {
  found = λ t. absurd (both_ways false refl t);
  swept = λ _. N.swept;
  none = λ _ x. both_ways _ n ((R.right v).1 (back_on_way (N.order.come v N.order.current) x));
}

pub sweep_tells : (m : Meaning) (L : Lawful m) (S P i v : ℕ) (F : Fit m (ring_site S P i)) (T T₁ T₂ : Table) → Nested m S P i v T → FreshHop m v T (order_site S P i) None → From m (i + 1) T₁ →
    SownFrom m (ring_site S P i) v 1 T T₁ → Spreads m (ring_site S P i) T₁ T₂ → Closed m (ring_site S P i) T₂ → Orderly m (ring_site S P i) T₂ → NothingOpen T₂ (ring_site S P i) →
    Others T T₂ Plain S → (r : Bool) → r ≡ (T₂ Plain S v).reached → SweptFrom m S P i v T₂ r
sweep_tells m L S P i v F T T₁ T₂ N all B X Y C D O f r q = record {
  found = λ t. sweep_found m L S P i v F T T₁ B N.order N.swept X T₂ Y C D O (sym q ∙ t);
  swept = λ n. subst (λ o. Swept m i P o (T₂ Plain S)) (sym (same_order T T₂ S f)) (sweep_swept m L S P i v F T T₁ B N.order N.swept X T₂ Y C D O (sym q ∙ n) all);
  none = λ n. sweep_none m L S P i v F T T₁ B N.order N.swept X T₂ Y C D O (sym q ∙ n) all;
}

-- ---- down
module _ (m : Meaning) (S P i v w d : ℕ) (T T' : Table) (y : Entry) (N : Nested m S P i v T) (h : FreshHop m v T (order_site S P i) (Some w))
    (e : y ≡ child v 0 d) (q : d ≡ (T Marked S v).depth + 1) (Z : Put T T' Marked S w y) where
  new : T' Marked S w ≡ child v 0 ((T Marked S v).depth + 1)
  new = Z.here ∙ e ∙ ap (child v 0) q

  pub visit_down : (w < P) × Nested m S P i w T' × (remaining P (T Marked S) ≡ remaining P (T' Marked S) + 1)
  visit_down =
      let D = down_done m i P v w (T Marked S) (T' Marked S) N.order h.0 h.1 h.2 new Z.rest in (
        h.0,
        record {
          order = order_down m i P v w (T Marked S) (T' Marked S) N.order h.0 h.1 h.2 new Z.rest;
          swept = swept_on m i P (T Marked S) (T' Marked S) (T Plain S) (T' Plain S) (same_sweeps T T' S Z.others) (λ u z. D u ∙ z) (λ u z. N.swept.none u (sym (D u) ∙ z)) N.swept;
        },
        down_fewer m i P v w (T Marked S) (T' Marked S) N.order h.0 h.1 h.2 new Z.rest,
      )

-- ---- the place is left
module _ (m : Meaning) (S P i v : ℕ) (T T₁ T₂ : Table) (x : Entry) (N : Nested m S P i v T) (all : FreshHop m v T (order_site S P i) None) (f : Others T T₁ Plain S)
    (W : Swept m i P (T₁ Marked S) (T₁ Plain S)) (nb : Back m i v → ⊥) (e : x ≡ T₁ Marked S v) (Z : Put T₁ T₂ Marked S v (finished x)) where
  order₁ : Order m i P v (T₁ Marked S)
  order₁ = subst (Order m i P v) (sym (same_order T T₁ S f)) N.order

  all₁ : (w : ℕ) → Hop m i v w → (T₁ Marked S w).reached ≡ true
  all₁ w k = ap (λ r. (r w).reached) (same_order T T₁ S f) ∙ all w k

  now_done : T₂ Marked S v ≡ finished (T₁ Marked S v)
  now_done = Z.here ∙ ap finished e

  none₂ : (u : ℕ) → (T₂ Marked S u).done ≡ true → Back m i u → ⊥
  none₂ u h1 h2 = grind (arith, common_steps)

  pub close_end : v ≡ m.entry i → NoRing m i
  close_end z u p = none₂ u (all_left m i P v (T₁ Marked S) (T₂ Marked S) order₁ now_done Z.rest all₁ z p)

  pub close_on : v ≢ m.entry i → (x.from < P) × Nested m S P i x.from T₂ × (remaining P (T Marked S) ≡ remaining P (T₂ Marked S) + 1)
  close_on z =
      let O : Order m i P x.from (T₂ Marked S) = subst (λ k. Order m i P k (T₂ Marked S)) (sym (ap (λ y. y.from) e)) (order_up m i P v (T₁ Marked S) (T₂ Marked S) order₁ now_done Z.rest all₁ z) in (
        O.inside x.from O.current,
        record {
          order = O;
          swept = swept_on m i P (T₁ Marked S) (T₂ Marked S) (T₁ Plain S) (T₂ Plain S) (same_sweeps T₁ T₂ S Z.others) (stays_done m i P v (T₁ Marked S) (T₂ Marked S) order₁ now_done Z.rest all₁) none₂ W;
        },
        ap (remaining P) (sym (same_order T T₁ S f)) ∙ left_fewer m i P v (T₁ Marked S) (T₂ Marked S) order₁ now_done Z.rest all₁,
      )

-- ---- the start
module _ (m : Meaning) (S P i n : ℕ) (T₁ T₂ T₃ : Table) (x : Entry) (e : n ≡ m.entry i) (l : n < P) (b₁ : (u : ℕ) → T₁ Marked S u ≡ blank) (f₂ : Others T₁ T₂ Plain S) (b₂ : (u : ℕ) → T₂ Plain S u ≡ blank)
    (c : x ≡ child n 0 0) (Z : Put T₂ T₃ Marked S n x) where
  blank_order : (u : ℕ) → u ≢ n → T₃ Marked S u ≡ blank
  blank_order u ne = Z.rest u ne ∙ ap (λ r. r u) (same_order T₁ T₂ S f₂) ∙ b₁ u

  pub nested_start : Nested m S P i n T₃
  nested_start = record {
    order = order_start m i P n (T₃ Marked S) x e l c Z.here blank_order;
    swept = swept_start m i P (T₃ Marked S) (T₃ Plain S) (λ u. none u (cases_eq u n)) (λ u. ap (λ r. r u) (same_sweeps T₂ T₃ S Z.others) ∙ b₂ u);
  }
    where
      none : (u : ℕ) → (u ≡ n) ⊎ (u ≡ n → ⊥) → (T₃ Marked S u).done ≡ false
      none u (inl z) = ap (λ k. (T₃ Marked S k).done) z ∙ ap (λ y. y.done) (Z.here ∙ c)
      none u (inr z) = ap (λ y. y.done) (blank_order u z)
