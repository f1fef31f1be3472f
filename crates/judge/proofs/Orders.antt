-- A depth-first order, one place at a time: the places still open are those on the way up from the current one.
-- Assumes nothing.
use Rattle.std.proofs.lemmas.Grind.{common_steps}
use Rattle.std.proofs.Common.{◌≡◌, ℕ, ◌+◌, ◌<◌, ◌≤◌, true, false, ◌≢◌, ◌⊎◌, sym, refl, ap, ◌∙◌, subst, inl, inr, arith}
use Rattle.std.proofs.lemmas.Bool.{cases_Bool, cases_eq, both_ways}
use Rattle.hierarchy.specs.Meaning.{Meaning}
use Rattle.hierarchy.specs.Flat.{stop, step}
use Rattle.theory.specs.Hops.{Hop, Hops}
use Rattle.theory.proofs.Paths.{snoc}
use Rattle.guide.specs.declared.Entry.{Entry}
use Rattle.guide.specs.Layout.{blank}
use Rattle.judge.specs.Spread.{child, finished}
use Rattle.judge.specs.Search.{missing}
use Rattle.judge.specs.Nested.{Above, there, higher, Hung, at_top, below, Order, remaining}
use Rattle.judge.proofs.Turns.{missing_same, missing_less, missing_le}

-- ---- the way up
module _ (m : Meaning) (i : ℕ) (row : ℕ → Entry) (hung : (u : ℕ) → (row u).reached ≡ true → Hung m i row u) where
  up_reached : (v : ℕ) → (row v).reached ≡ true → (row (row v).from).reached ≡ true
  up_reached v h1 = grind (arith, common_steps)

  pub above_hops : {g v : ℕ} → (row v).reached ≡ true → Above row g v → Hops m i g v
  above_hops {g} r (there e) = subst (λ k. Hops m i g k) e stop
  above_hops {g} {v} r (higher a) = go (hung v r) (above_hops (up_reached v r) a)
    where
      go : Hung m i row v → Hops m i g (row v).from → Hops m i g v
      go (at_top e f) p = subst (λ k. Hops m i g k) f p
      go (below s h c d) p = snoc p h

  above_depth : {g v : ℕ} → (row v).reached ≡ true → Above row g v → (row g).depth ≤ (row v).depth
  above_depth r (there e) = let a = ap (λ k. (row k).depth) e in omega (arith, a)
  above_depth {g} {v} r (higher a) = go (hung v r) (above_depth (up_reached v r) a)
    where
      go : Hung m i row v → (row g).depth ≤ (row (row v).from).depth → (row g).depth ≤ (row v).depth
      go (at_top e f) p = let b = ap (λ k. (row k).depth) f in omega (arith, b, p)
      go (below s h c d) p = omega (arith, c, p)

  above_kept : (row' : ℕ → Entry) → ((k : ℕ) → (row k).reached ≡ true → (row' k).from ≡ (row k).from) → {g v : ℕ} → (row v).reached ≡ true → Above row g v → Above row' g v
  above_kept row' same r (there e) = there e
  above_kept row' same {g} {v} r (higher a) = higher (subst (Above row' g) (sym (same v r)) (above_kept row' same (up_reached v r) a))

above_top : (row : ℕ → Entry) (t : ℕ) → (row t).from ≡ t → {g v : ℕ} → v ≡ t → Above row g v → g ≡ t
above_top row t f p (there e) = e ∙ p
above_top row t f p (higher a) = above_top row t f (ap (λ k. (row k).from) p ∙ f) a

-- how a place hangs does not change with what is done elsewhere
hung_kept : (m : Meaning) (i : ℕ) (row row' : ℕ → Entry) (u : ℕ) → (row' u).from ≡ (row u).from → (row' u).depth ≡ (row u).depth →
    ((p : ℕ) → (row p).reached ≡ true → (row' p).reached ≡ true) → ((p : ℕ) → (row p).reached ≡ true → (row' p).depth ≡ (row p).depth) →
    ((p : ℕ) → (row p).reached ≡ true → (row u).depth ≡ (row p).depth + 1 → ((row u).done ≡ false → (row p).done ≡ false) → (row' u).done ≡ false → (row' p).done ≡ false) →
    Hung m i row u → Hung m i row' u
hung_kept m i row row' u f d r e o (at_top x y) = at_top x (f ∙ y)
hung_kept m i row row' u f d r e o (below a b c n) =
    let p = (row u).from in
    below (ap (λ k. (row' k).reached) f ∙ r p a) (subst (λ k. Hop m i k u) (sym f) b) (d ∙ c ∙ sym (ap (λ k. (row' k).depth + 1) f ∙ ap (λ k. k + 1) (e p a)))
    (λ z. ap (λ k. (row' k).done) f ∙ o p a c n z)

-- ---- down to a place that is not reached
module _ (m : Meaning) (i P v w : ℕ) (row row' : ℕ → Entry) (O : Order m i P v row) (l : w < P) (n : (row w).reached ≡ false) (h : Hop m i v w)
    (new : row' w ≡ child v 0 ((row v).depth + 1)) (rest : (u : ℕ) → u ≢ w → row' u ≡ row u) where
  same : (u : ℕ) → (row u).reached ≡ true → row' u ≡ row u
  same u r = rest u (λ e. both_ways _ n (subst (λ k. (row k).reached ≡ true) e r))

  fewer : missing (λ k. (row k).reached) P ≡ missing (λ k. (row' k).reached) P + 1
  fewer = missing_less (λ k. (row k).reached) (λ k. (row' k).reached) w P l n (ap (λ x. x.reached) new) (λ u ne. ap (λ x. x.reached) (rest u ne))

  was : (u : ℕ) → u ≢ w → (row' u).reached ≡ true → (row u).reached ≡ true
  was u ne r = sym (ap (λ x. x.reached) (rest u ne)) ∙ r

  pub down_done : (u : ℕ) → (row' u).done ≡ (row u).done
  down_done u = grind (arith, common_steps)

  pub down_fewer : remaining P row ≡ remaining P row' + 1
  down_fewer = omega (arith, fewer, missing_same (λ k. (row k).done) (λ k. (row' k).done) P (λ u z. down_done u))

  pub order_down : Order m i P w row'
  order_down = record {
    top = ap (λ x. x.reached) (same (m.entry i) O.top) ∙ O.top;
    root = ap (λ x. x.from) (same (m.entry i) O.top) ∙ O.root;
    current = ap (λ x. x.reached) new;
    busy = ap (λ x. x.done) new;
    inside = λ u r. inside u r (cases_eq u w);
    come = λ u r. come u r (cases_eq u w);
    hung = λ u r. hung u r (cases_eq u w);
    above = λ u r d. above u r d (cases_eq u w);
    closed = λ u x d k. (let c = O.closed u x (sym (down_done u) ∙ d) k in ap (λ y. y.reached) (same x c) ∙ c);
    reached = λ u d. (let c = O.reached u (sym (down_done u) ∙ d) in ap (λ y. y.reached) (same u c) ∙ c);
    deep = λ u r. deep u r (cases_eq u w);
  }
    where
      from_v : (row' w).from ≡ v
      from_v = ap (λ x. x.from) new

      v_same : row' v ≡ row v
      v_same = same v O.current

      inside : (u : ℕ) → (row' u).reached ≡ true → (u ≡ w) ⊎ (u ≡ w → ⊥) → u < P
      inside u r (inl e) = omega arith
      inside u r (inr ne) = O.inside u (was u ne r)

      come : (u : ℕ) → (row' u).reached ≡ true → (u ≡ w) ⊎ (u ≡ w → ⊥) → Hops m i (m.entry i) u
      come u r (inl e) = subst (λ k. Hops m i (m.entry i) k) (sym e) (snoc (O.come v O.current) h)
      come u r (inr ne) = O.come u (was u ne r)

      hung : (u : ℕ) → (row' u).reached ≡ true → (u ≡ w) ⊎ (u ≡ w → ⊥) → Hung m i row' u
      hung u r (inl e) =
          subst (Hung m i row') (sym e)
          (below (ap (λ k. (row' k).reached) from_v ∙ ap (λ x. x.reached) v_same ∙ O.current) (subst (λ k. Hop m i k w) (sym from_v) h)
          (ap (λ x. x.depth) new ∙ sym (ap (λ k. (row' k).depth + 1) from_v ∙ ap (λ x. x.depth + 1) v_same))
          (λ z. ap (λ k. (row' k).done) from_v ∙ ap (λ x. x.done) v_same ∙ O.busy))
      hung u r (inr ne) =
          let s = rest u ne in
          hung_kept m i row row' u (ap (λ x. x.from) s) (ap (λ x. x.depth) s) (λ p a. ap (λ x. x.reached) (same p a) ∙ a) (λ p a. ap (λ x. x.depth) (same p a))
          (λ p a c o z. down_done p ∙ o (sym (down_done u) ∙ z)) (O.hung u (was u ne r))

      above : (u : ℕ) → (row' u).reached ≡ true → (row' u).done ≡ false → (u ≡ w) ⊎ (u ≡ w → ⊥) → Above row' u w
      above u r d (inl e) = there e
      above u r d (inr ne) =
          higher (subst (Above row' u) (sym from_v) (above_kept m i row O.hung row' (λ k a. ap (λ x. x.from) (same k a)) O.current (O.above u (was u ne r) (sym (down_done u) ∙ d))))

      deep : (u : ℕ) → (row' u).reached ≡ true → (u ≡ w) ⊎ (u ≡ w → ⊥) → (row' u).depth + missing (λ k. (row' k).reached) P ≤ P
      deep u r (inl e) =
          let d : (row' u).depth ≡ (row v).depth + 1 = ap (λ k. (row' k).depth) e ∙ ap (λ x. x.depth) new in
          omega (arith, O.deep v O.current, d, fewer)
      deep u r (inr ne) =
          let d = ap (λ x. x.depth) (rest u ne) in
          omega (arith, O.deep u (was u ne r), d, fewer)

-- ---- a place is left
module _ (m : Meaning) (i P v : ℕ) (row row' : ℕ → Entry) (O : Order m i P v row) (now_done : row' v ≡ finished (row v)) (rest : (u : ℕ) → u ≢ v → row' u ≡ row u)
    (all : (w : ℕ) → Hop m i v w → (row w).reached ≡ true) where
  like : (u : ℕ) → finished (row' u) ≡ finished (row u)
  like u = grind (arith, common_steps)

  like_reached : (u : ℕ) → (row' u).reached ≡ (row u).reached
  like_reached u = ap (λ x. x.reached) (like u)

  v_done : (row' v).done ≡ true
  v_done = ap (λ x. x.done) now_done

  pub left_done : (u : ℕ) → (row' u).done ≡ true → (u ≡ v) ⊎ ((row u).done ≡ true)
  left_done u h1 = grind (arith, common_steps)

  pub stays_done : (u : ℕ) → (row u).done ≡ true → (row' u).done ≡ true
  stays_done u h1 = grind (arith, common_steps)

  still_open : (u : ℕ) → (row' u).done ≡ false → (u ≡ v → ⊥) × ((row u).done ≡ false)
  still_open u h1 = grind (arith, common_steps)

  pub left_fewer : remaining P row ≡ remaining P row' + 1
  left_fewer =
      let a = missing_same (λ k. (row k).reached) (λ k. (row' k).reached) P (λ u z. like_reached u) in
      let b = missing_less (λ k. (row k).done) (λ k. (row' k).done) v P (O.inside v O.current) O.busy v_done (λ u ne. ap (λ x. x.done) (rest u ne)) in
      omega (arith, a, b)

  closed' : (u w : ℕ) → (row' u).done ≡ true → Hop m i u w → (row' w).reached ≡ true
  closed' u w d h = like_reached w ∙ go (left_done u d)
    where
      go : (u ≡ v) ⊎ ((row u).done ≡ true) → (row w).reached ≡ true
      go (inl e) = all w (subst (λ k. Hop m i k w) e h)
      go (inr c) = O.closed u w c h

  -- a place that hangs from v is not open any more
  no_child : (u : ℕ) → (row u).reached ≡ true → (row u).done ≡ false → (row u).depth ≡ (row v).depth + 1 → ⊥
  no_child u r d c = omega (arith, c, above_depth m i row O.hung O.current (O.above u r d))

  pub order_up : v ≢ m.entry i → Order m i P (row v).from row'
  order_up nt = go (O.hung v O.current)
    where
      hung : (u : ℕ) → (row' u).reached ≡ true → Hung m i row' u
      hung u r =
          let r' : (row u).reached ≡ true = sym (like_reached u) ∙ r in
          hung_kept m i row row' u (ap (λ x. x.from) (like u)) (ap (λ x. x.depth) (like u)) (λ p a. like_reached p ∙ a) (λ p a. ap (λ x. x.depth) (like p))
          (λ p a c o z.
          let q = still_open u z in
          let ne : p ≢ v = λ e. no_child u r' q.1 (c ∙ ap (λ k. (row k).depth + 1) e) in
          ap (λ x. x.done) (rest p ne) ∙ o q.1)
          (O.hung u r')

      go : Hung m i row v → Order m i P (row v).from row'
      go (at_top e f) = absurd (nt e)
      go (below a b c d) =
          let p = (row v).from in
          let ne : p ≢ v = λ e. (let z = ap (λ k. (row k).depth) e in omega (arith, c, z)) in
          record {
            top = like_reached (m.entry i) ∙ O.top;
            root = ap (λ x. x.from) (like (m.entry i)) ∙ O.root;
            current = like_reached p ∙ a;
            busy = ap (λ x. x.done) (rest p ne) ∙ d O.busy;
            inside = λ u r. O.inside u (sym (like_reached u) ∙ r);
            come = λ u r. O.come u (sym (like_reached u) ∙ r);
            hung = hung;
            above = λ u r z. above u (sym (like_reached u) ∙ r) (still_open u z);
            closed = closed';
            reached = λ u z. like_reached u ∙ old_reached u (left_done u z);
            deep = λ u r. deep u (sym (like_reached u) ∙ r);
          }
        where
          old_reached : (u : ℕ) → (u ≡ v) ⊎ ((row u).done ≡ true) → (row u).reached ≡ true
          old_reached u (inl e) = ap (λ k. (row k).reached) e ∙ O.current
          old_reached u (inr z) = O.reached u z

          above : (u : ℕ) → (row u).reached ≡ true → (u ≡ v → ⊥) × ((row u).done ≡ false) → Above row' u (row v).from
          above u r z = up (O.above u r z.1)
            where
              up : Above row u v → Above row' u (row v).from
              up (there e) = absurd (z.0 e)
              up (higher q) = above_kept m i row O.hung row' (λ k s. ap (λ x. x.from) (like k)) a q

          deep : (u : ℕ) → (row u).reached ≡ true → (row' u).depth + missing (λ k. (row' k).reached) P ≤ P
          deep u r =
              let x = ap (λ y. y.depth) (like u) in
              let y = missing_same (λ k. (row k).reached) (λ k. (row' k).reached) P (λ k z. like_reached k) in
              omega (arith, O.deep u r, x, y)

  -- when the first place is left, every place that hops reach is left
  pub all_left : v ≡ m.entry i → {u : ℕ} → Hops m i (m.entry i) u → (row' u).done ≡ true
  all_left e p = on (ap (λ k. (row' k).done) (sym e) ∙ v_done) p
    where
      left : (u : ℕ) → (row' u).reached ≡ true → ((row' u).done ≡ true) ⊎ ((row' u).done ≡ false) → (row' u).done ≡ true
      left u r (inl d) = d
      left u r (inr z) =
          let q = still_open u z in
          absurd (q.0 (above_top row v (ap (λ k. (row k).from) e ∙ O.root ∙ sym e) refl (O.above u (sym (like_reached u) ∙ r) q.1)))

      on : {a u : ℕ} → (row' a).done ≡ true → Hops m i a u → (row' u).done ≡ true
      on d stop = d
      on {a} d (step {b = b} h q) = on (left b (closed' a b d h) (cases_Bool _)) q

-- ---- at the start only the entry is reached
pub order_start : (m : Meaning) (i P n : ℕ) (row : ℕ → Entry) (x : Entry) → n ≡ m.entry i → n < P → x ≡ child n 0 0 → row n ≡ x → ((u : ℕ) → u ≢ n → row u ≡ blank) → Order m i P n row
order_start m i P n row x e l c q b = record {
  top = subst (λ k. (row k).reached ≡ true) e (ap (λ y. y.reached) here_n);
  root = subst (λ k. (row k).from ≡ k) e (ap (λ y. y.from) here_n);
  current = ap (λ y. y.reached) here_n;
  busy = ap (λ y. y.done) here_n;
  inside = λ u r. (let z = only u r in omega arith);
  come = λ u r. subst (λ k. Hops m i k u) (only u r ∙ e) stop;
  hung = λ u r. at_top (only u r ∙ e) (ap (λ k. (row k).from) (only u r) ∙ ap (λ y. y.from) here_n ∙ sym (only u r));
  above = λ u r d. there (only u r);
  closed = λ u w d. absurd (both_ways _ (none u (cases_eq u n)) d);
  reached = λ u d. absurd (both_ways _ (none u (cases_eq u n)) d);
  deep = λ u r. (let z = ap (λ k. (row k).depth) (only u r) ∙ ap (λ y. y.depth) here_n in omega (arith, z, missing_le (λ k. (row k).reached) P));
}
  where
    here_n : row n ≡ child n 0 0
    here_n = q ∙ c

    only : (u : ℕ) → (row u).reached ≡ true → u ≡ n
    only u r = go (cases_eq u n)
      where
        go : (u ≡ n) ⊎ (u ≡ n → ⊥) → u ≡ n
        go (inl z) = z
        go (inr z) = absurd (both_ways _ (ap (λ y. y.reached) (b u z)) r)

    none : (u : ℕ) → (u ≡ n) ⊎ (u ≡ n → ⊥) → (row u).done ≡ false
    none u (inl z) = ap (λ k. (row k).done) z ∙ ap (λ y. y.done) here_n
    none u (inr z) = ap (λ y. y.done) (b u z)
