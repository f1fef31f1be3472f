-- Hops to places that are not reached yet.
-- Assumes nothing.
use Rattle.std.proofs.Common.{◌≡◌, ℕ, ◌+◌, ◌<◌, ◌≤◌, Bool, true, ◌&&◌, Some, None, sym, ◌∙◌, subst, arith}
use Rattle.std.proofs.lemmas.Bool.{and_parts}
use Rattle.hierarchy.specs.Meaning.{Meaning, box, Lawful}
use Rattle.theory.specs.Hops.{Pass, over, through}
use Rattle.theory.proofs.Paths.{same_box, node_not_box}
use Rattle.theory.proofs.Reaching.{pass→hops, hops→pass}
use Rattle.guide.specs.declared.Lane.TheVariants.{Plain}
use Rattle.guide.specs.Layout.{Table}
use Rattle.judge.specs.declared.table.Site.{Site}
use Rattle.judge.specs.Spread.{here}
use Rattle.judge.specs.Rows.{From}
use Rattle.judge.specs.Nested.{Fresh, FreshHop}
use Rattle.hierarchy.proofs.Beyond.{node_present}

-- from a box, by the exits below n
module _ (m : Meaning) (L : Lawful m) (s : Site) (v j : ℕ) (b : m.place s.structure v ≡ box j) (T : Table) (B : From m (s.structure + 1) T) where
  abbrev pub Spent : ℕ → Type 0
  Spent n = (e w : ℕ) → e < n → m.exits j e ≡ true → (T Plain j e).reached ≡ true → m.leave s.structure v e w ≡ true → (here T s w).reached ≡ true

  pub spent_some : (n w : ℕ) (t : Bool) → t ≡ (m.exits j n && (T Plain j n).reached) → t ≡ true → Fresh (m.leave s.structure v n) T s (Some w) → FreshHop m v T s (Some w)
  spent_some n w t q y f =
      let a = and_parts (m.exits j n) (T Plain j n).reached (sym q ∙ y) in
      let h = L.inner s.structure v j b in
      (f.0, f.1, through b (hops→pass L h.1 a.0 (((B j (omega (arith, h.0)) h.1).right n).0 a.1)) f.2)

  pub spent_all : (n : ℕ) → m.places ≤ n → Spent n → FreshHop m v T s None
  spent_all n h X w (over e) = absurd (node_not_box (L.edge_from s.structure v w e) b)
  spent_all n h X w (through {e = e} c p l) =
      let q = L.inner s.structure v j b in
      let x : m.exits j e ≡ true = subst (λ k. m.exits k e ≡ true) (same_box c b) p.exits in
      let p' = subst (λ k. Pass m k e) (same_box c b) p in
      X e w (omega (arith, (L.within j e (node_present _ (L.exit_node j e x))).1)) x (((B j (omega (arith, q.0)) q.1).right e).1 (pass→hops L q.1 p')) l
