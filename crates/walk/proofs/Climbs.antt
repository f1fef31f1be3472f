-- Climbing a search tree of a good guide: every edge of it is a hop, it ends at the root, and a marked way meets a seed.
-- Assumes nothing.
use Rattle.std.proofs.Common.{◌≡◌, ℕ, zero, suc, ◌<◌, true, false, cond, sym, refl, ap, ◌∙◌, subst, arith}
use Rattle.hierarchy.specs.Meaning.{Meaning}
use Rattle.guide.specs.Trees.{Tree, plain, marked, ring, Guide, Vertex, entry_at, parent, up, TreeHop}
use Rattle.guide.specs.Trees.{Sound, root, child, marked_seed, ring_seed, Row, Good}

-- climbing
pub up_from : (g : Guide) (i : ℕ) (v : Vertex) (n : ℕ) → up g.tree i v (suc n) ≡ up g.tree i (parent g.tree i v) n
up_from g i v zero = refl
up_from g i v (suc n) = ap (parent g.tree i) (up_from g i v n)

pub record Climb (m : Meaning) (g : Guide) (i : ℕ) (v : Vertex) (d f : ℕ) : Type 0 where
  pub hops : (k : ℕ) → k < d → TreeHop m g.tree i (up g.tree i v k)
  pub foot : (up g.tree i v d).spot ≡ f

pub record Seeded (g : Guide) (i : ℕ) (v : Vertex) (d : ℕ) : Type 0 where
  pub edge : ℕ
  pub below : edge < d
  pub seed : (entry_at g.tree i (up g.tree i v edge)).seed ≡ true

pub climb_more : {m : Meaning} {g : Guide} {i : ℕ} {v : Vertex} {d f : ℕ} → TreeHop m g.tree i v → Climb m g i (parent g.tree i v) d f → Climb m g i v (suc d) f
climb_more {m} {g} {i} {v} {d} {f} h c = record {
  hops = each;
  foot = ap (λ x. x.spot) (up_from g i v d) ∙ c.foot;
}
  where
    each : (k : ℕ) → k < suc d → TreeHop m g.tree i (up g.tree i v k)
    each zero b = h
    each (suc k) b = subst (TreeHop m g.tree i) (sym (up_from g i v k)) (c.hops k (omega arith))

pub seed_more : {g : Guide} {i : ℕ} {v : Vertex} {d : ℕ} → Seeded g i (parent g.tree i v) d → Seeded g i v (suc d)
seed_more {g} {i} {v} {d} s = record {
  edge = suc s.edge;
  below = omega arith;
  seed = ap (λ x. (entry_at g.tree i x).seed) (up_from g i v s.edge) ∙ s.seed;
}

abbrev pub foot_of : Meaning → Guide → Tree → ℕ → ℕ
foot_of m g plain i = m.entry i
foot_of m g marked i = m.entry i
foot_of m g ring i = g.aim g.home

abbrev pub vertex : Tree → ℕ → Vertex
vertex l u = record { lane = l; spot = u }

pub stay : (g : Guide) (i u : ℕ) (l : Tree) → (g.tree l i u).seed ≡ false → vertex l (g.tree l i u).from ≡ parent g.tree i (vertex l u)
stay g i u l e = ap (λ b. vertex (cond b plain l) (g.tree l i u).from) (sym e)

pub cross : (g : Guide) (i u : ℕ) (l : Tree) → (g.tree l i u).seed ≡ true → vertex plain (g.tree l i u).from ≡ parent g.tree i (vertex l u)
cross g i u l e = ap (λ b. vertex (cond b plain l) (g.tree l i u).from) (sym e)

pub marked_apart : marked ≡ plain → ⊥
marked_apart e = cc

pub ring_apart : ring ≡ plain → ⊥
ring_apart e = cc

module _ {m : Meaning} {g : Guide} (G : Good m g) where
  pub climb_base : {i u : ℕ} {l : Tree} → Sound m g.tree (g.aim g.home) i u l → (g.tree l i u).depth ≡ 0 → Climb m g i (vertex l u) 0 (foot_of m g l i)
  climb_base (root e f) z = record { hops = λ k b. absurd (omega arith); foot = f }
  climb_base (child e s t h f) z = absurd (omega arith)
  climb_base (marked_seed e s t h f) z = absurd (omega arith)
  climb_base (ring_seed e s t f) z = absurd (omega arith)

  pub climb_step : {d i u : ℕ} {l : Tree} → Row m g l i → Sound m g.tree (g.aim g.home) i u l → (g.tree l i u).depth ≡ suc d →
      ((l' : Tree) (u' : ℕ) → Row m g l' i → (g.tree l' i u').reached ≡ true → (g.tree l' i u').depth ≡ d → Climb m g i (vertex l' u') d (foot_of m g l' i)) →
      Climb m g i (vertex l u) (suc d) (foot_of m g l i)
  climb_step r (root e f) z rec = absurd (omega arith)
  climb_step {d} {i} {u} r (child {l} {k} e s t h f) z rec =
      climb_more t (subst (λ x. Climb m g i x d (foot_of m g l i)) (stay g i u l s) (rec l _ r h (omega arith)))
  climb_step {d} {i} {u} r (marked_seed {k} e s t h f) z rec =
      climb_more t (subst (λ x. Climb m g i x d (m.entry i)) (cross g i u marked s) (rec plain _ r h (omega arith)))
  climb_step {d} {i} {u} r (ring_seed e s t f) z rec =
      let q : 0 ≡ d = omega arith in
      subst (λ n. Climb m g i (vertex ring u) (suc n) (g.aim g.home)) q (climb_more t (record { hops = λ k b. absurd (omega arith); foot = f }))

  pub climb : (d : ℕ) (l : Tree) (i u : ℕ) → Row m g l i → (g.tree l i u).reached ≡ true → (g.tree l i u).depth ≡ d → Climb m g i (vertex l u) d (foot_of m g l i)
  climb zero l i u r h e = climb_base (G.sound l i u r h) e
  climb (suc d) l i u r h e = climb_step r (G.sound l i u r h) e (λ l' u' r' h' e'. climb d l' i u' r' h' e')

  pub seed_step : {d i u : ℕ} {l : Tree} → Row m g l i → (l ≡ plain → ⊥) → Sound m g.tree (g.aim g.home) i u l → (g.tree l i u).depth ≡ suc d →
      ((u' : ℕ) → (g.tree l i u').reached ≡ true → (g.tree l i u').depth ≡ d → Seeded g i (vertex l u') d) → Seeded g i (vertex l u) (suc d)
  seed_step r x (root e f) z rec = absurd (x refl)
  seed_step {d} {i} {u} r x (child {l} e s t h f) z rec = seed_more (subst (λ v. Seeded g i v d) (stay g i u l s) (rec _ h (omega arith)))
  seed_step r x (marked_seed e s t h f) z rec = record { edge = 0; below = omega arith; seed = s }
  seed_step r x (ring_seed e s t f) z rec = record { edge = 0; below = omega arith; seed = s }

  pub deep : {i u : ℕ} {l : Tree} → (l ≡ plain → ⊥) → Sound m g.tree (g.aim g.home) i u l → (n : ℕ) × ((g.tree l i u).depth ≡ suc n)
  deep x (root e f) = absurd (x refl)
  deep x (child {k = k} e s t h f) = (k, e)
  deep x (marked_seed {k} e s t h f) = (k, e)
  deep x (ring_seed e s t f) = (0, e)

  pub seeds_of : (d : ℕ) (l : Tree) (i u : ℕ) → (l ≡ plain → ⊥) → Row m g l i → (g.tree l i u).reached ≡ true → (g.tree l i u).depth ≡ d → Seeded g i (vertex l u) d
  seeds_of zero l i u x r h e = let n = deep x (G.sound l i u r h) in absurd (omega (arith, n.1))
  seeds_of (suc d) l i u x r h e = seed_step r x (G.sound l i u r h) e (λ u' h' e'. seeds_of d l i u' x r h' e')
