-- What is known is reached, and what is reached is known in the end.
-- Assumes nothing.
use Rattle.std.proofs.lemmas.Grind.{common_steps}
use Rattle.std.proofs.Common.{◌≡◌, ℕ, zero, suc, ◌+◌, ◌<◌, true, false, ◌⊎◌, sym, refl, ap, ◌∙◌, subst, inl, inr, arith}
use mathlib.Core.Path.{fun_ext}
use Rattle.std.proofs.lemmas.Bool.{cases_eq, both_ways}
use Rattle.hierarchy.specs.Meaning.{Meaning, box, Lawful}
use Rattle.theory.specs.Hops.{Reached, top, MarkedNode}
use Rattle.theory.specs.Hops.{by_box as through_box}
use Rattle.guide.specs.declared.Entry.{Entry}
use Rattle.guide.specs.declared.Lane.TheVariants.{Plain, Marked, Up}
use Rattle.guide.specs.Layout.{Table}
use Rattle.judge.specs.Tables.{Put}
use Rattle.judge.specs.Spread.{child}
use Rattle.judge.specs.Rows.{Behind}
use Rattle.judge.specs.Known.{known, OnlyUp, NamedBy, Shown, Traced, outermost, by_box, Knows, MarkIn, Decides}
use Rattle.judge.proofs.Stays.{both_same}
use Rattle.hierarchy.proofs.Beyond.{node_present, box_present}

pub plain_not_up : Plain ≡ Up → ⊥
plain_not_up e = let z : ◌≡◌ {A = ℕ} 0 1 = cc in omega arith

marked_not_up : Marked ≡ Up → ⊥
marked_not_up e = let z : ◌≡◌ {A = ℕ} 0 1 = cc in omega arith

pub only_put : {T T' : Table} {r u : ℕ} {x : Entry} → Put T T' Up r u x → OnlyUp T T'
only_put P c r u n = P.others c r u (λ z. n z.0)

pub behind_up : (m : Meaning) (i : ℕ) (T T' : Table) → OnlyUp T T' → Behind m i T → Behind m i T'
behind_up m i T T' f B j h k = both_same m T T' j (fun_ext (λ u. f Plain j u plain_not_up)) (fun_ext (λ u. f Marked j u marked_not_up)) (B j h k)

-- ---- all structures
traced_kept : (m : Meaning) (T T' : Table) (j : ℕ) → OnlyUp T T' → T' Up j 0 ≡ T Up j 0 → ((k : ℕ) → known T k ≡ true → known T' k ≡ true) → Traced m T j → Traced m T' j
traced_kept m T T' j h1 h2 h3 h4 = grind (arith, common_steps)

module _ (m : Meaning) (L : Lawful m) (P : ℕ) (e : P ≡ m.places) where
  pub knows_no : {T : Table} (n : ℕ) → known T n ≡ false → Knows m n T → Knows m (n + 1) T
  knows_no n h1 h2 = grind (arith, common_steps)

  pub knows_yes : {T T' : Table} (n : ℕ) → n < m.structures → known T n ≡ true → Knows m n T → Shown m n P T T' → Knows m (n + 1) T'
  knows_yes {T} {T'} n h y K X = record { top = keeps 0 K.top; sound = λ j l k. sound j l k (X.each j); below = λ i b j l k. below i b j (cases_eq i n) l (before i l k (X.each i)) }
    where
      keeps : (j : ℕ) → known T j ≡ true → known T' j ≡ true
      keeps j k = go (X.each j)
        where
          go : (T' Up j 0 ≡ T Up j 0) ⊎ ((known T j ≡ false) × (b : ℕ) × NamedBy m T n b j (T' Up j 0)) → known T' j ≡ true
          go (inl q) = ap (λ x. x.reached) q ∙ k
          go (inr z) = absurd (both_ways _ z.0 k)

      sound : (j : ℕ) → j < m.structures → known T' j ≡ true → (T' Up j 0 ≡ T Up j 0) ⊎ ((known T j ≡ false) × (b : ℕ) × NamedBy m T n b j (T' Up j 0)) → Traced m T' j
      sound j l k (inl q) = traced_kept m T T' j X.rest q keeps (K.sound j l (sym (ap (λ x. x.reached) q) ∙ k))
      sound j l k (inr z) =
          let N = z.2 in
          let f : (T' Up j 0).from ≡ n = ap (λ x. x.from) N.is in
          let v : (T' Up j 0).via ≡ z.1 = ap (λ x. x.via) N.is in
          by_box (ap (known T') f ∙ keeps n y)
          (ap (λ i. (T' Plain i (T' Up j 0).via).reached) f ∙ ap (λ b. (T' Plain n b).reached) v ∙ ap (λ x. x.reached) (X.rest Plain n z.1 plain_not_up) ∙ N.reached)
          (ap (λ i. m.place i (T' Up j 0).via) f ∙ ap (m.place n) v ∙ N.named)

      before : (i : ℕ) → i < n + 1 → known T' i ≡ true → (T' Up i 0 ≡ T Up i 0) ⊎ ((known T i ≡ false) × (b : ℕ) × NamedBy m T n b i (T' Up i 0)) → known T i ≡ true
      before i l k (inl q) = sym (ap (λ x. x.reached) q) ∙ k
      before i l k (inr z) = absurd (omega (arith, (L.inner n z.1 i z.2.named).0))

      below : (i b j : ℕ) → (i ≡ n) ⊎ (i ≡ n → ⊥) → i < n + 1 → known T i ≡ true → (T' Plain i b).reached ≡ true → m.place i b ≡ box j → known T' j ≡ true
      below i b j (inl q) l k p x =
          let x' : m.place n b ≡ box j = subst (λ z. m.place z b ≡ box j) q x in
          let p' : (T Plain n b).reached ≡ true = subst (λ z. (T Plain z b).reached ≡ true) q (sym (ap (λ y. y.reached) (X.rest Plain i b plain_not_up)) ∙ p) in
          X.below b j (omega (arith, (L.within n b (box_present _ _ x')).1)) p' x'
      below i b j (inr q) l k p x = keeps j (K.below i b j (omega arith) k (sym (ap (λ y. y.reached) (X.rest Plain i b plain_not_up)) ∙ p) x)

  pub knows_start : {T T' : Table} {x : Entry} → ((j : ℕ) → j < m.structures → known T j ≡ false) → x ≡ child 0 0 0 → Put T T' Up 0 0 x → Knows m 0 T'
  knows_start h1 h2 h3 = grind (arith, common_steps)

-- ---- what is known, in terms of the hierarchy
module _ (m : Meaning) (L : Lawful m) (T : Table) (B : Behind m 0 T) (K : Knows m m.structures T) where
  reached_by : (n j : ℕ) → j < n → j < m.structures → known T j ≡ true → Reached m j
  reached_by zero j l h k = absurd (omega arith)
  reached_by (suc n) j l h k = go (reached_by n) (K.sound j h k)
    where
      go : ((i : ℕ) → i < n → i < m.structures → known T i ≡ true → Reached m i) → Traced m T j → Reached m j
      go rec (outermost z) = subst (Reached m) (sym z) top
      go rec (by_box a b c) =
          let i = (T Up j 0).from in
          let v = (T Up j 0).via in
          let u = (L.inner i v j c).0 in
          let i< : i < m.structures = omega (arith, u) in
          through_box (rec i (omega (arith, u)) i< a) (((B i (omega arith) i<).plain.right v).0 b) c

  pub known_reached : (j : ℕ) → j < m.structures → known T j ≡ true → Reached m j
  known_reached j = reached_by (suc j) j (omega arith)

  -- what is reached is known in the end
  pub reached_known : 0 < m.structures → {j : ℕ} → Reached m j → (j < m.structures) × (known T j ≡ true)
  reached_known s top = (s, K.top)
  reached_known s (through_box {i} {b} {j} r p x) =
      let a = reached_known s r in
      ((L.inner i b j x).1, K.below i b j a.0 a.1 (((B i (omega arith) a.0).plain.right b).1 p) x)

  pub mark_of : (i : ℕ) → i < m.structures → known T i ≡ true → MarkIn m i → MarkedNode m
  mark_of i h k x = record { structure = i; reached = known_reached i h k; place = x.u; come = x.come; noded = L.mark_node i x.u x.mark; marked = x.mark }

  pub no_mark : 0 < m.structures → ((i : ℕ) → i < m.structures → known T i ≡ true → MarkIn m i → ⊥) → MarkedNode m → ⊥
  no_mark s f x =
      let a = reached_known s x.reached in
      f x.structure a.0 a.1 (record { u = x.place; come = x.come; mark = x.marked })

pub mark_below : (m : Meaning) → Lawful m → (i u : ℕ) → m.mark i u ≡ true → u < m.places
mark_below m L i u k = (L.within i u (node_present _ (L.mark_node i u k))).1

pub yes_is : (X : Type 0) → X → Decides true X
yes_is X a = record { sure = λ _. a; never = λ f. absurd (both_ways true f refl) }

pub no_is : (X : Type 0) → (X → ⊥) → Decides false X
no_is X n = record { sure = λ t. absurd (both_ways false refl t); never = λ _. n }
