-- Sowing seeds: the targets of marked hops, and only those, are reached.
-- Assumes nothing.
use Rattle.std.proofs.lemmas.Grind.{common_steps}
use Rattle.std.proofs.Common.{◌≡◌, ℕ, ◌+◌, ◌<◌, true, false, ◌&&◌, ◌||◌, ◌⊎◌, sym, refl, ap, ◌∙◌, subst, inl, inr, arith}
use Rattle.std.proofs.lemmas.Bool.{cases_eq, both_ways, and_parts, and_from, or_cases, or_left, or_right}
use Rattle.hierarchy.specs.Meaning.{Meaning, box, Lawful}
use Rattle.theory.specs.Hops.{PassMarked, HopMarked, over!, through!, Hops, HopPass, at_end, on_way}
use Rattle.theory.proofs.Passing.{marked_pass→hops, hops→marked_pass}
use Rattle.guide.specs.declared.Entry.{Entry}
use Rattle.guide.specs.declared.Lane.TheVariants.{Plain, Marked}
use Rattle.guide.specs.Layout.{Table, blank}
use Rattle.judge.specs.declared.table.Site.{Site}
use Rattle.judge.specs.Spread.{here, Fit}
use Rattle.judge.specs.Rows.{Start, PlainRow, HopMarkedBy, on!, by!, from_one, from_row, BothRows, Behind}
use Rattle.judge.specs.Seeds.{Seed, Seeded, Sown, SownFrom, SownBelow, marked_site}
use Rattle.judge.specs.declared.spread.Along.TheVariants.{Marks}
use Rattle.judge.specs.Follows.{passes, Follows, along_edge, along_exit, Come, Expands}
use Rattle.judge.proofs.Stays.{row_same}

module _ (s : Site) (Q : Start) where
  pub sown_keeps : {T T' : Table} → Sown s Q T T' → (u : ℕ) → (here T s u).reached ≡ true → (here T' s u).reached ≡ true
  sown_keeps h1 u h2 = grind (arith, common_steps)

  moved : {u : ℕ} {x y : Entry} → y ≡ x → Seed Q u x → Seed Q u y
  moved {u} e z = subst (Seed Q u) (sym e) z

  pub sown_more : {T T' T'' : Table} → Sown s Q T T' → Sown s Q T' T'' → Sown s Q T T''
  sown_more h1 h2 = grind (arith, common_steps)

  pub sown_map : (R : Start) {T T' : Table} → ((u : ℕ) (x : Entry) → Q u x → R u x) → Sown s Q T T' → Sown s R T T'
  sown_map R h1 h2 = grind (arith, common_steps)

  pub sown_seeded : (T T' : Table) → ((u : ℕ) → here T s u ≡ blank) → Sown s Q T T' → Seeded s Q T'
  sown_seeded T T' h1 h2 = grind (arith, common_steps)

-- ---- a marked pass, as the rows have it
module _ (m : Meaning) (L : Lawful m) (T : Table) (j e : ℕ) (h : j < m.structures) (B : BothRows m j T) where
  pub met→pass : passes m T Marks j e ≡ true → PassMarked m j e
  met→pass t = let a = and_parts (m.exits j e) _ t in hops→marked_pass L h a.0 (go (or_cases _ _ a.1))
    where
      go : ((T Marked j e).reached ≡ true) ⊎ ((m.mark j e && (T Plain j e).reached) ≡ true) → HopPass m j e
      go (inl r) = let x = (B.marked.right e).0 r in on_way x.come x.go x.on
      go (inr r) = let a = and_parts (m.mark j e) _ r in at_end ((B.plain.right e).0 a.1) a.0

  pub pass→met : PassMarked m j e → passes m T Marks j e ≡ true
  pass→met p = and_from _ _ p.exits (go (marked_pass→hops L h p))
    where
      go : HopPass m j e → ((T Marked j e).reached || (m.mark j e && (T Plain j e).reached)) ≡ true
      go (at_end q k) = or_right _ _ (and_from _ _ k ((B.plain.right e).1 q))
      go (on_way {u} {w} q k r) = or_left _ _ ((B.marked.right e).1 (record { v = u; w = w; come = q; go = k; on = r }))

-- ---- the marked hops of one place
marked_by : {m : Meaning} {i v w : ℕ} → HopMarked m i v w → (e : ℕ) × HopMarkedBy m i v e w
marked_by (over! k x) = (0, on! k x)
marked_by (through! {j} {e} b p l) = (e, by! b p l)

pub by_marked : {m : Meaning} {i v e w : ℕ} → HopMarkedBy m i v e w → HopMarked m i v w
by_marked (on! k x) = over! k x
by_marked (by! b p l) = through! b p l

-- what is followed along the marks of v is sown
module _ (m : Meaning) (L : Lawful m) (s : Site) (v d : ℕ) (F : Fit m s) (T T' : Table) (B : Behind m (s.structure + 1) T) where
  rows_of : {j : ℕ} → m.place s.structure v ≡ box j → BothRows m j T
  rows_of {j} b = let h = L.inner s.structure v j b in B j (omega (arith, h.0)) h.1

  to_marked : {e w : ℕ} → Follows m T Marks s.structure v e w → HopMarkedBy m s.structure v e w
  to_marked (along_edge k x) = on! k x
  to_marked {e} (along_exit {j} b p l) = by! b (met→pass m L T j e (L.inner s.structure v j b).1 (rows_of b) p) l

  from_marked : {e w : ℕ} → HopMarkedBy m s.structure v e w → Follows m T Marks s.structure v e w
  from_marked (on! k x) = along_edge k x
  from_marked {e} (by! {j} b p l) = along_exit b (pass→met m L T j e (L.inner s.structure v j b).1 (rows_of b) p) l

  pub expands_sown : Expands m s Marks v d T T' → SownFrom m s v d T T'
  expands_sown X = record {
    sown = record { others = X.others; each = λ u. go u (X.each u) };
    all = λ w k. (let h = marked_by k in X.all h.0 w (from_marked h.1));
  }
    where
      go : (u : ℕ) → (here T' s u ≡ here T s u) ⊎ Come m s Marks v d T u (here T' s u) → (here T' s u ≡ here T s u) ⊎ (((here T s u).reached ≡ false) × Seed (from_one m s.structure v d) u (here T' s u))
      go u (inl e) = inl e
      go u (inr k) = inr (
        k.new,
        subst (Seed (from_one m s.structure v d) u) (sym k.is) (record {
          reached = refl;
          waiting = refl;
          why = (refl, record { depth = refl; seed = refl; hop = to_marked k.hop });
        }),
      )

-- ---- the marked hops of all reached places
module _ (m : Meaning) (P i : ℕ) where
  same_plain : {T T' : Table} (n : ℕ) → SownBelow m (marked_site P i) n T T' → T' Plain i ≡ T Plain i
  same_plain {T} {T'} n X = row_same T T' Marked i X.sown.others Plain i (λ z. let e = z.0 in let o : ◌≡◌ {A = ℕ} 0 1 = cc in omega arith)

  pub below_no : {T T' : Table} (n : ℕ) → PlainRow m i (T Plain i) → (T' Plain i n).reached ≡ false → SownBelow m (marked_site P i) n T T' → SownBelow m (marked_site P i) (n + 1) T T'
  below_no {T} {T'} n R y X = record { sown = X.sown; below = λ v w. more v w (cases_eq v n) }
    where
      more : (v w : ℕ) → (v ≡ n) ⊎ (v ≡ n → ⊥) → v < n + 1 → Hops m i (m.entry i) v → HopMarked m i v w → (T' Marked i w).reached ≡ true
      more v w (inl z) h p k = absurd (both_ways _ y (ap (λ r. (r n).reached) (same_plain n X) ∙ (R.right n).1 (subst (λ u. Hops m i (m.entry i) u) z p)))
      more v w (inr z) h p k = X.below v w (omega arith) p k

  pub below_yes : {T T' T'' : Table} (n d : ℕ) → PlainRow m i (T Plain i) → (T' Plain i n).reached ≡ true → d ≡ (T' Plain i n).depth + 1 →
      SownBelow m (marked_site P i) n T T' → SownFrom m (marked_site P i) n d T' T'' → SownBelow m (marked_site P i) (n + 1) T T''
  below_yes {T} {T'} {T''} n d R y dq X Z = record { sown = sown_more (marked_site P i) _ X.sown Y; below = λ v w. more v w (cases_eq v n) }
    where
      same : T' Plain i ≡ T Plain i
      same = same_plain n X

      to_row : (u : ℕ) (x : Entry) → from_one m i n d u x → from_row m i (T Plain i) u x
      to_row u x q =
          let a : T Plain i x.from ≡ T' Plain i n = ap (T Plain i) q.0 ∙ sym (ap (λ r. r n) same) in
          (ap (λ z. z.reached) a ∙ y, record { depth = q.1.depth ∙ dq ∙ sym (ap (λ z. z.depth + 1) a); seed = q.1.seed; hop = q.1.hop })

      Y : Sown (marked_site P i) (from_row m i (T Plain i)) T' T''
      Y = sown_map (marked_site P i) (from_one m i n d) (from_row m i (T Plain i)) to_row Z.sown

      more : (v w : ℕ) → (v ≡ n) ⊎ (v ≡ n → ⊥) → v < n + 1 → Hops m i (m.entry i) v → HopMarked m i v w → (T'' Marked i w).reached ≡ true
      more v w (inl z) h p k = Z.all w (subst (λ u. HopMarked m i u w) z k)
      more v w (inr z) h p k = sown_keeps (marked_site P i) _ Y w (X.below v w (omega arith) p k)
