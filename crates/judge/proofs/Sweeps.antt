-- Sweeping what the marked hops of a place lead to: either the place has a ring, or everything swept is left already.
-- Assumes nothing.
use Rattle.std.proofs.lemmas.Grind.{common_steps}
use Rattle.std.proofs.Common.{◌≡◌, ℕ, ◌+◌, ◌≤◌, Bool, true, false, cond, ◌⊎◌, sym, ap, ◌∙◌, subst, inl, inr, arith}
use Rattle.std.proofs.lemmas.Bool.{cases_Bool, both_ways}
use Rattle.hierarchy.specs.Meaning.{Meaning, Lawful}
use Rattle.hierarchy.specs.Flat.{stop, step}
use Rattle.theory.specs.Hops.{Hop, HopMarked, Hops}
use Rattle.guide.specs.declared.Entry.{Entry}
use Rattle.guide.specs.declared.Lane.TheVariants.{Plain, Marked}
use Rattle.guide.specs.Layout.{Table, blank}
use Rattle.judge.specs.Spread.{Fit}
use Rattle.judge.specs.Search.{missing, Ranked, Orderly, Spreads, Closed, NothingOpen}
use Rattle.judge.specs.Rows.{Start, HopMarkedBy, Filled, From, from_one}
use Rattle.judge.specs.Seeds.{Seed, SownFrom}
use Rattle.judge.specs.Ring.{ring_site, Back}
use Rattle.judge.specs.Nested.{Order, Swept}
use Rattle.judge.proofs.Turns.{missing_same, missing_le}
use Rattle.judge.proofs.Fills.{via→hop, hop_of, filled, came, reached_on}
use Rattle.judge.proofs.Sows.{by_marked, sown_keeps}
use Rattle.judge.proofs.Rings.{marked_hop}
use Rattle.judge.proofs.Orders.{above_hops}

pub swept_start : (m : Meaning) (i P : ℕ) (order row : ℕ → Entry) → ((u : ℕ) → (order u).done ≡ false) → ((u : ℕ) → row u ≡ blank) → Swept m i P order row
swept_start m i P order row h1 h2 = grind (arith, common_steps)

-- the order goes on, and the sweeps stay as they are
pub swept_on : (m : Meaning) (i P : ℕ) (order order' row row' : ℕ → Entry) → row' ≡ row → ((u : ℕ) → (order u).done ≡ true → (order' u).done ≡ true) → ((u : ℕ) → (order' u).done ≡ true → Back m i u → ⊥) →
    Swept m i P order row → Swept m i P order' row'
swept_on m i P order order' row row' e f n W =
    subst (Swept m i P order') (sym e)
    (record { settled = W.settled; reached = W.reached; ranked = W.ranked; closed = W.closed; left = λ u r. f u (W.left u r); none = n })

-- ---- one sweep, from the marked hops of v
module _ (m : Meaning) (L : Lawful m) (S P i v : ℕ) (F : Fit m (ring_site S P i)) (T T₁ : Table) (B : From m (i + 1) T₁) (O : Order m i P v (T Marked S)) (W : Swept m i P (T Marked S) (T Plain S))
    (X : SownFrom m (ring_site S P i) v 1 T T₁) where
  done_same : (u : ℕ) → (T₁ Plain S u).done ≡ (T Plain S u).done
  done_same u = grind (arith, common_steps)

  seeded_ranked : Ranked (P + 1) (ring_site S P i) T₁
  seeded_ranked u h = go (X.sown.each u)
    where
      count : missing (λ k. (T₁ Plain S k).done) P ≡ missing (λ k. (T Plain S k).done) P
      count = missing_same (λ k. (T Plain S k).done) (λ k. (T₁ Plain S k).done) P (λ k z. done_same k)

      one : (b : Bool) → cond b 1 0 ≤ 1
      one true = omega arith
      one false = omega arith

      go : (T₁ Plain S u ≡ T Plain S u) ⊎ (((T Plain S u).reached ≡ false) × Seed (from_one m i v 1) u (T₁ Plain S u)) →
          (T₁ Plain S u).depth + missing (λ k. (T₁ Plain S k).done) P + cond (T₁ Plain S u).done 1 0 ≤ P + 1
      go (inl e) =
          let d = ap (λ x. x.depth) e in
          let o = one (T₁ Plain S u).done in
          omega (arith, W.ranked u (sym (ap (λ x. x.reached) e) ∙ h), count, d, o)
      go (inr z) =
          let d = z.1.why.1.depth in
          let o = ap {B = ℕ} (λ b. cond b 1 0) z.1.waiting in
          omega (arith, missing_le (λ k. (T₁ Plain S k).done) P, d, o)

  kept : (u : ℕ) → (T Plain S u).reached ≡ true → (T₁ Plain S u).reached ≡ true
  kept = sown_keeps (ring_site S P i) (from_one m i v 1) X.sown

  pub sweep_orderly : Orderly m (ring_site S P i) T₁
  sweep_orderly = record {
    deep = λ u h. omega (arith, seeded_ranked u h, O.inside v O.current);
    done = λ u d. kept u (W.reached u (sym (done_same u) ∙ d));
    closed = λ u e w d k. kept w (W.closed u w (W.reached u (sym (done_same u) ∙ d)) (hop_of (via→hop m L i T₁ B k)));
  }

  -- what the sweep has reached was swept before, or comes after a marked hop of v
  record After (u : ℕ) : Type 0 where
    w : ℕ
    go : HopMarked m i v w
    on : Hops m i w u

  module _ (T₂ : Table) (Y : Spreads m (ring_site S P i) T₁ T₂) (C : Closed m (ring_site S P i) T₂) (D : Orderly m (ring_site S P i) T₂) (N : NothingOpen T₂ (ring_site S P i)) where
    before : Start
    before u x = (T₁ Plain S u).reached ≡ true

    full : Filled m i before (P + 1) (T₂ Plain S)
    unfolding before
    full = filled m L (ring_site S P i) before T₁ T₂ F (λ u h. h) B Y C (P + 1) seeded_ranked N

    on_reached : {u w : ℕ} → (T₂ Plain S u).reached ≡ true → Hops m i u w → (T₂ Plain S w).reached ≡ true
    on_reached = reached_on m i before (P + 1) (T₂ Plain S) full

    seed_stays : (u : ℕ) → (T₁ Plain S u).reached ≡ true → (T₂ Plain S u).reached ≡ true
    seed_stays u h = ap (λ x. x.reached) (Y.kept u h) ∙ h

    swept_before : {u w : ℕ} → (T Plain S u).reached ≡ true → Hops m i u w → (T Plain S w).reached ≡ true
    swept_before h stop = h
    swept_before {u} h (step {b = b} k p) = swept_before (W.closed u b h k) p

    whence : (u : ℕ) → (T₂ Plain S u).reached ≡ true → ((T Plain S u).reached ≡ true) ⊎ After u
    unfolding before
    whence u r =
        let x = came m i before (P + 1) (T₂ Plain S) full u r in
        go x.start x.why x.hops (X.sown.each x.start)
      where
        go : (s : ℕ) → (T₁ Plain S s).reached ≡ true → Hops m i s u → (T₁ Plain S s ≡ T Plain S s) ⊎ (((T Plain S s).reached ≡ false) × Seed (from_one m i v 1) s (T₁ Plain S s)) → ((T Plain S u).reached ≡ true) ⊎ After u
        go s h p (inl e) = inl (swept_before (sym (ap (λ y. y.reached) e) ∙ h) p)
        go s h p (inr z) = inr (record { w = s; go = by_marked (subst (λ k. HopMarkedBy m i k (T₁ Plain S s).via s) z.1.why.0 z.1.why.1.hop); on = p })

    -- v itself is swept: it has a ring
    pub sweep_found : (T₂ Plain S v).reached ≡ true → Back m i v
    sweep_found r = go (whence v r)
      where
        go : ((T Plain S v).reached ≡ true) ⊎ After v → Back m i v
        go (inl h) = absurd (both_ways _ O.busy (W.left v h))
        go (inr a) = record { w = a.w; go = a.go; on = a.on }

    -- v is not swept: it has no ring, and what is swept is left
    module _ (n : (T₂ Plain S v).reached ≡ false) (all : (w : ℕ) → Hop m i v w → (T Marked S w).reached ≡ true) where
      pub sweep_none : Back m i v → ⊥
      sweep_none x = both_ways _ n (on_reached (seed_stays x.w (X.all x.w x.go)) x.on)

      left_now : (a : ℕ) → (T₂ Plain S a).reached ≡ true → (T Marked S a).reached ≡ true → (T Marked S a).done ≡ true
      left_now a r o = go (cases_Bool _)
        where
          go : ((T Marked S a).done ≡ true) ⊎ ((T Marked S a).done ≡ false) → (T Marked S a).done ≡ true
          go (inl d) = d
          go (inr d) = absurd (both_ways _ n (on_reached r (above_hops m i (T Marked S) O.hung O.current (O.above a o d))))

      left_on : {a u : ℕ} → (T₂ Plain S a).reached ≡ true → (T Marked S a).reached ≡ true → Hops m i a u → (T Marked S u).done ≡ true
      left_on {a} r o stop = left_now a r o
      left_on {a} r o (step {b = b} k p) = left_on (on_reached r (step k stop)) (O.closed a b (left_now a r o) k) p

      pub sweep_swept : Swept m i P (T Marked S) (T₂ Plain S)
      sweep_swept = record {
        settled = N;
        reached = D.done;
        ranked = λ u h. (let a = ap {B = ℕ} (λ b. cond b 1 0) (N u h) in omega (arith, Y.ranked (P + 1) seeded_ranked u h, a));
        closed = λ u w h k. on_reached h (step k stop);
        left = λ u h. go u (whence u h);
        none = W.none;
      }
        where
          go : (u : ℕ) → ((T Plain S u).reached ≡ true) ⊎ After u → (T Marked S u).done ≡ true
          go u (inl h) = W.left u h
          go u (inr a) = left_on (seed_stays a.w (X.all a.w a.go)) (all a.w (marked_hop a.go)) a.on
