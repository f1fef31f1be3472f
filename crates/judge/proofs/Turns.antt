-- One turn of a search, and what a search keeps. Assumes nothing.
use Rattle.std.proofs.lemmas.Grind.{common_steps}
use Rattle.std.proofs.Common.{◌≡◌, ℕ, zero, suc, ◌+◌, ◌<◌, ◌≤◌, Bool, true, false, cond, ◌≢◌, ◌⊎◌, sym, refl, ap, ◌∙◌, subst, inl, inr, arith}
use Rattle.std.proofs.lemmas.Bool.{cases_eq}
use Rattle.hierarchy.specs.Meaning.{Meaning}
use Rattle.judge.specs.declared.table.Site.{Site}
use Rattle.guide.specs.Layout.{Table}
use Rattle.judge.specs.Tables.{Others}
use Rattle.judge.specs.declared.spread.Along.TheVariants.{All}
use Rattle.judge.specs.Spread.{here, finished, Fit}
use Rattle.judge.specs.Follows.{Via, Come}
use Rattle.judge.specs.Search.{missing, undone, Ranked, Origin, old, new, Closed, Open, Spreads, Orderly, Turned, NothingOpen}
use Rattle.judge.proofs.Grow.{others_trans, others_sym, via_move, expands_kept, expands_reached}

abbrev one : Bool → ℕ
one b = cond b 0 1

abbrev more : Bool → ℕ
more b = cond b 1 0

pub missing_same : (f g : ℕ → Bool) (n : ℕ) → ((u : ℕ) → u < n → g u ≡ f u) → missing g n ≡ missing f n
missing_same f g zero h = refl
missing_same f g (suc n) h =
    let a = ap one (h n (omega arith)) in
    let b = missing_same f g n (λ u l. h u (omega arith)) in
    omega (arith, a, b)

pub missing_less : (f g : ℕ → Bool) (v n : ℕ) → v < n → f v ≡ false → g v ≡ true → ((u : ℕ) → u ≢ v → g u ≡ f u) → missing f n ≡ missing g n + 1
missing_less f g v zero h a b k = absurd (omega arith)
missing_less f g v (suc n) h a b k = go (λ l. missing_less f g v n l a b k) (cases_eq n v)
  where
    go : (v < n → missing f n ≡ missing g n + 1) → (n ≡ v) ⊎ (n ≡ v → ⊥) → missing f (suc n) ≡ missing g (suc n) + 1
    go rec (inl e) =
        let p = ap one (ap f e ∙ a) in
        let q = ap one (ap g e ∙ b) in
        let r = missing_same f g n (λ u l. k u (λ z. omega arith)) in
        omega (arith, p, q, r)
    go rec (inr x) =
        let p = ap one (k n x) in
        let r = rec (omega arith) in
        omega (arith, p, r)

pub missing_le : (f : ℕ → Bool) (n : ℕ) → missing f n ≤ n
missing_le f zero = omega arith
missing_le f (suc n) = go (f n) (missing_le f n)
  where
    go : (b : Bool) → missing f n ≤ n → cond b 0 1 + missing f n ≤ suc n
    go true h = omega arith
    go false h = omega arith

module _ (m : Meaning) (s : Site) (v : ℕ) {T T' : Table} (F : Fit m s) (O : Orderly m s T) (V : Open T s v) (X : Turned m s v T T') where
  -- what is reached is kept, but that it may be done
  mid_kept : (u : ℕ) → finished (here X.mid s u) ≡ finished (here T s u)
  mid_kept u = grind (arith, common_steps)

  mid_reached : (u : ℕ) → (here X.mid s u).reached ≡ (here T s u).reached
  mid_reached u = ap (λ x. x.reached) (mid_kept u)

  pub turn_kept : (u : ℕ) → (here T s u).reached ≡ true → finished (here T' s u) ≡ finished (here T s u)
  turn_kept u h = ap finished (expands_kept m s All v _ X.follows u (mid_reached u ∙ h)) ∙ mid_kept u

  pub turn_reached : (u : ℕ) → (here T s u).reached ≡ true → (here T' s u).reached ≡ true
  turn_reached u h = ap (λ x. x.reached) (turn_kept u h) ∙ h

  turn_others : Others T T' s.lane s.row
  turn_others = others_trans X.marks.others X.follows.others

  -- done
  mid_done : (here X.mid s v).done ≡ true
  mid_done = ap (λ x. x.done) X.marks.here

  mid_done_reached : (u : ℕ) → (here X.mid s u).done ≡ true → (here X.mid s u).reached ≡ true
  mid_done_reached u h1 = grind (arith, common_steps)

  done_same : (u : ℕ) → (here T' s u).done ≡ (here X.mid s u).done
  done_same u = grind (arith, common_steps)

  pub turn_undone : undone T s s.places ≡ undone T' s s.places + 1
  turn_undone =
      missing_less (λ k. (here T s k).done) (λ k. (here T' s k).done) v s.places V.inside V.waiting (done_same v ∙ mid_done) (λ u n. done_same u ∙ ap (λ x. x.done) (X.marks.rest u n))

  pub turn_ranked : (k : ℕ) → Ranked k s T → Ranked k s T'
  turn_ranked k R u h = go (X.follows.each u) (cases_eq u v)
    where
      at_v : (here T s v).depth + undone T s s.places ≤ k
      at_v = let a = ap more V.waiting in omega (arith, R v V.reached, a)

      go : (here T' s u ≡ here X.mid s u) ⊎ Come m s All v ((here X.mid s v).depth + 1) X.mid u (here T' s u) → (u ≡ v) ⊎ (u ≡ v → ⊥) → (here T' s u).depth + undone T' s s.places + cond (here T' s u).done 1 0 ≤ k
      go (inl e) (inl q) =
          let d : (here T' s u).depth ≡ (here T s v).depth = ap (λ x. x.depth) e ∙ ap (λ x. x.depth) (mid_kept u) ∙ ap (λ i. (here T s i).depth) q in
          let a = ap more (done_same u ∙ ap (λ i. (here X.mid s i).done) q ∙ mid_done) in
          omega (arith, at_v, d, a, turn_undone)
      go (inl e) (inr n) =
          let r : (here T s u).reached ≡ true = sym (mid_reached u) ∙ sym (ap (λ x. x.reached) e) ∙ h in
          let d : (here T' s u).depth ≡ (here T s u).depth = ap (λ x. x.depth) e ∙ ap (λ x. x.depth) (mid_kept u) in
          let a = ap more (done_same u ∙ ap (λ x. x.done) (X.marks.rest u n)) in
          omega (arith, R u r, d, a, turn_undone)
      go (inr c) z =
          let d : (here T' s u).depth ≡ (here T s v).depth + 1 = ap (λ x. x.depth) c.is ∙ ap (λ x. x.depth + 1) (mid_kept v) in
          let a = ap more (ap (λ x. x.done) c.is) in
          omega (arith, at_v, d, a, turn_undone)

  pub turn_orderly : Orderly m s T'
  turn_orderly = record { deep = turn_ranked (s.places + s.places) O.deep; done = done; closed = λ u e w d k. closed u e w d k (cases_eq u v) }
    where
      done : (u : ℕ) → (here T' s u).done ≡ true → (here T' s u).reached ≡ true
      done u d = expands_reached m s All v _ X.follows u (mid_done_reached u (sym (done_same u) ∙ d))

      closed : (u e w : ℕ) → (here T' s u).done ≡ true → Via m T' s.structure u e w → (u ≡ v) ⊎ (u ≡ v → ⊥) → (here T' s w).reached ≡ true
      closed u e w d k (inl q) =
          let k' : Via m T' s.structure v e w = subst (λ i. Via m T' s.structure i e w) q k in
          X.follows.all e w (via_move m s F.apart (others_sym X.follows.others) k')
      closed u e w d k (inr n) =
          turn_reached w (O.closed u e w (sym (ap (λ x. x.done) (X.marks.rest u n)) ∙ sym (done_same u) ∙ d) (via_move m s F.apart (others_sym turn_others) k))

  pub turn_spreads : {T₀ : Table} → Spreads m s T₀ T → Spreads m s T₀ T'
  turn_spreads {T₀} Y = record {
    others = others_trans Y.others turn_others;
    kept = λ u h. turn_kept u (ap (λ x. x.reached) (Y.kept u h) ∙ h) ∙ Y.kept u h;
    each = λ u h. each u h (X.follows.each u);
    ranked = λ k R. turn_ranked k (Y.ranked k R);
  }
    where
      moved : (u : ℕ) → (here T s u).reached ≡ true → Origin m s T₀ T u → Origin m s T₀ T' u
      moved u h (old r) = old r
      moved u h (new {p} {e} a b c r d k) =
          let q = turn_kept u h in
          new (ap (λ x. x.from) q ∙ a) (ap (λ x. x.via) q ∙ b) (ap (λ x. x.seed) q ∙ c) (turn_reached p r) (ap (λ x. x.depth) q ∙ d ∙ sym (ap (λ x. x.depth + 1) (turn_kept p r))) k

      each : (u : ℕ) → (here T' s u).reached ≡ true → (here T' s u ≡ here X.mid s u) ⊎ Come m s All v ((here X.mid s v).depth + 1) X.mid u (here T' s u) → Origin m s T₀ T' u
      each u h (inl e) =
          let r : (here T s u).reached ≡ true = sym (mid_reached u) ∙ sym (ap (λ x. x.reached) e) ∙ h in
          moved u r (Y.each u r)
      each u h (inr k) =
          let d : (here T' s u).depth ≡ (here T' s v).depth + 1 = ap (λ x. x.depth) k.is ∙ ap (λ x. x.depth + 1) (mid_kept v) ∙ sym (ap (λ x. x.depth + 1) (turn_kept v V.reached)) in
          new (ap (λ x. x.from) k.is) (ap (λ x. x.via) k.is) (ap (λ x. x.seed) k.is) (turn_reached v V.reached) d
          (via_move m s F.apart (others_sym (others_trans Y.others X.marks.others)) k.hop)

pub all_closed : (m : Meaning) (s : Site) (T : Table) → Orderly m s T → NothingOpen T s → Closed m s T
all_closed m s T O N u e w h k = O.closed u e w (N u h) k
