-- Following the hops of one place, exit by exit. Assumes nothing.
use Rattle.std.proofs.lemmas.Grind.{common_steps}
use Rattle.std.proofs.Common.{◌≡◌, ℕ, ◌+◌, ◌<◌, ◌≤◌, Bool, true, false, ◌⊎◌, sym, ap, ◌∙◌, subst, inl, inr, arith}
use Rattle.std.proofs.lemmas.Bool.{cases_eq, both_ways, and_parts, and_from}
use Rattle.hierarchy.specs.Meaning.{Meaning, box, Lawful}
use Rattle.theory.proofs.Paths.{same_box, node_not_box}
use Rattle.guide.specs.declared.Entry.{Entry}
use Rattle.guide.specs.Layout.{Table}
use Rattle.judge.specs.declared.spread.Along.{Along}
use Rattle.judge.specs.declared.table.Site.{Site}
use Rattle.judge.specs.Tables.{Others}
use Rattle.judge.specs.Spread.{Apart, here, Adds}
use Rattle.judge.specs.Follows.{entry_of, met, passes, Follows, along_edge, along_exit, Come, Expanding, Expands}
use Rattle.judge.proofs.Grow.{others_trans, adds_each, adds_all}
use Rattle.hierarchy.proofs.Beyond.{node_present}

entry_reached : (a : Along) (v e d : ℕ) → (entry_of a v e d).reached ≡ true
entry_reached a v e d = grind (arith, common_steps)

module _ (m : Meaning) (L : Lawful m) (s : Site) (a : Along) (v d : ℕ) where
  -- one more set of hops is followed
  more : {T T' T'' : Table} (e : ℕ) (f : ℕ → Bool) → ((w : ℕ) → f w ≡ true → Follows m T a s.structure v e w) → Adds s (entry_of a v e d) f T' T'' →
      ((u : ℕ) → (here T' s u ≡ here T s u) ⊎ Come m s a v d T u (here T' s u)) → (u : ℕ) → (here T'' s u ≡ here T s u) ⊎ Come m s a v d T u (here T'' s u)
  more {T} {T'} {T''} e f hop A X u = go (X u) (adds_each s (entry_of a v e d) f A u)
    where
      go : (here T' s u ≡ here T s u) ⊎ Come m s a v d T u (here T' s u) → (here T'' s u ≡ here T' s u) ⊎ (((here T' s u).reached ≡ false) × (here T'' s u ≡ entry_of a v e d) × (f u ≡ true)) →
          (here T'' s u ≡ here T s u) ⊎ Come m s a v d T u (here T'' s u)
      go (inl p) (inl q) = inl (q ∙ p)
      go (inr k) (inl q) = inr (record { by = k.by; new = k.new; is = q ∙ k.is; hop = k.hop })
      go (inl p) (inr q) = inr (record { by = e; new = sym (ap (λ x. x.reached) p) ∙ q.0; is = q.1; hop = hop u q.2 })
      go (inr k) (inr q) = absurd (both_ways _ q.0 (ap (λ x. x.reached) k.is ∙ entry_reached a v k.by d))

  -- a box, exit by exit
  module _ (j : ℕ) (A : Apart m s) (b : m.place s.structure v ≡ box j) where
    met_kept : {T T' : Table} (a' : Along) → Others T T' s.lane s.row → (e : ℕ) → met m T' a' j e ≡ met m T a' j e
    met_kept a' h1 e = grind (arith, common_steps)

    not_edge : {w : ℕ} → m.edge s.structure v w ≡ true → ⊥
    not_edge {w} x = node_not_box (L.edge_from s.structure v w x) b

    pub exits_no : {T T' : Table} (n : ℕ) (t : Bool) → t ≡ passes m T' a j n → t ≡ false → Expanding m s a v d n T T' → Expanding m s a v d (n + 1) T T'
    exits_no {T} {T'} n t q y X = record { others = X.others; each = X.each; below = λ e w. by e w (cases_eq e n) }
      where
        clash : (w : ℕ) → Follows m T a s.structure v n w → ⊥
        clash w (along_edge c x) = not_edge x
        clash w (along_exit {j = k} p r l) =
            let h = and_parts (m.exits k n) (met m T a k n) r in
            both_ways _ y (q ∙ and_from _ _ (subst (λ i. m.exits i n ≡ true) (same_box p b) h.0) (met_kept a X.others n ∙ subst (λ i. met m T a i n ≡ true) (same_box p b) h.1))

        by : (e w : ℕ) → (e ≡ n) ⊎ (e ≡ n → ⊥) → e < n + 1 → Follows m T a s.structure v e w → (here T' s w).reached ≡ true
        by e w (inl z) h k = absurd (clash w (subst (λ i. Follows m T a s.structure v i w) z k))
        by e w (inr z) h k = X.below e w (omega arith) k

    pub exits_yes : {T T' T'' : Table} {x : Entry} (n : ℕ) (t : Bool) → t ≡ passes m T' a j n → t ≡ true → Expanding m s a v d n T T' → x ≡ entry_of a v n d → Adds s x (m.leave s.structure v n) T' T'' →
        Expanding m s a v d (n + 1) T T''
    exits_yes {T} {T'} {T''} {x} n t q y X xq D = record { others = others_trans X.others D.others; each = each; below = λ e w. by e w (cases_eq e n) }
      where
        D' : Adds s (entry_of a v n d) (m.leave s.structure v n) T' T''
        D' = subst (λ z. Adds s z (m.leave s.structure v n) T' T'') xq D

        pass : passes m T a j n ≡ true
        pass = let h = and_parts (m.exits j n) (met m T' a j n) (sym q ∙ y) in and_from _ _ h.0 (sym (met_kept a X.others n) ∙ h.1)

        each : (u : ℕ) → (here T'' s u ≡ here T s u) ⊎ Come m s a v d T u (here T'' s u)
        each = more n (m.leave s.structure v n) (λ w l. along_exit b pass l) D' X.each

        there : (w : ℕ) → Follows m T a s.structure v n w → (here T'' s w).reached ≡ true
        there w (along_edge c k) = absurd (not_edge k)
        there w (along_exit p r l) = adds_all s (entry_of a v n d) (m.leave s.structure v n) (entry_reached a v n d) D' w l

        stays : (w : ℕ) → (here T' s w).reached ≡ true → (here T'' s w).reached ≡ true
        stays w h = go (adds_each s (entry_of a v n d) (m.leave s.structure v n) D' w)
          where
            go : (here T'' s w ≡ here T' s w) ⊎ (((here T' s w).reached ≡ false) × (here T'' s w ≡ entry_of a v n d) × (m.leave s.structure v n w ≡ true)) → (here T'' s w).reached ≡ true
            go (inl e) = ap (λ x. x.reached) e ∙ h
            go (inr k) = absurd (both_ways _ k.0 h)

        by : (e w : ℕ) → (e ≡ n) ⊎ (e ≡ n → ⊥) → e < n + 1 → Follows m T a s.structure v e w → (here T'' s w).reached ≡ true
        by e w (inl z) h k = there w (subst (λ i. Follows m T a s.structure v i w) z k)
        by e w (inr z) h k = stays w (X.below e w (omega arith) k)

    pub exits_all : {T T' : Table} (n : ℕ) → m.places ≤ n → Expanding m s a v d n T T' → Expands m s a v d T T'
    exits_all {T} {T'} n h X = record { others = X.others; each = X.each; all = λ e w k. X.below e w (low e w k) k }
      where
        low : (e w : ℕ) → Follows m T a s.structure v e w → e < n
        low e w (along_edge c x) = absurd (not_edge x)
        low e w (along_exit {j = i} p r l) = omega (arith, (L.within i e (node_present _ (L.exit_node i e (and_parts (m.exits i e) (met m T a i e) r).0))).1)
