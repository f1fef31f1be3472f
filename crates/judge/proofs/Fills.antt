-- From a search of one row to the hierarchy: what is reached is what hops reach.
-- Assumes nothing.
use Rattle.std.proofs.lemmas.Grind.{common_steps}
use Rattle.std.proofs.Common.{◌≡◌, ℕ, zero, suc, ◌+◌, ◌<◌, ◌≤◌, true, false, cond, sym, refl, ap, ◌∙◌, subst, arith}
use mathlib.Core.Path.{fun_ext}
use Rattle.std.proofs.lemmas.Bool.{both_ways, and_parts, and_from}
use Rattle.hierarchy.specs.Meaning.{Meaning, Lawful}
use Rattle.hierarchy.specs.Flat.{stop, step}
use Rattle.theory.specs.Hops.{Hop, over, through, Hops}
use Rattle.theory.proofs.Paths.{snoc}
use Rattle.theory.proofs.Reaching.{pass→hops, hops→pass}
use Rattle.guide.specs.declared.Entry.{Entry}
use Rattle.guide.specs.declared.Lane.TheVariants.{Plain}
use Rattle.guide.specs.Layout.{Table, blank}
use Rattle.judge.specs.declared.table.Site.{Site}
use Rattle.judge.specs.Tables.{Others, Put}
use Rattle.judge.specs.Spread.{here, finished, child, Fit}
use Rattle.judge.specs.Follows.{Via, along_edge, along_exit}
use Rattle.judge.specs.Search.{Ranked, Origin, old, new, Closed, NothingOpen, Spreads, Orderly}
use Rattle.judge.specs.Rows.{HopBy, on, by, Start, Rooted, root, twig, Filled, at_entry, PlainRow, From}
use Rattle.judge.specs.Seeds.{Seed, Seeded, plain_site}
use Rattle.judge.proofs.Grow.{via_move}
use Rattle.judge.proofs.Turns.{missing_le}

-- a row with starts only
module _ (m : Meaning) (s : Site) (Q : Start) (T : Table) (Z : Seeded s Q T) where
  seed_done : (u : ℕ) → (here T s u).done ≡ false
  seed_done u = grind (arith, common_steps)

  pub seed_of : (u : ℕ) → (here T s u).reached ≡ true → Seed Q u (here T s u)
  seed_of u h1 = grind (arith, common_steps)

  pub seed_why : (u : ℕ) → (here T s u).reached ≡ true → Q u (finished (here T s u))
  seed_why u h = (seed_of u h).why

  pub seeded_ranked : (d : ℕ) → ((u : ℕ) → (here T s u).reached ≡ true → (here T s u).depth ≤ d) → Ranked (d + s.places) s T
  seeded_ranked d f u h =
      let a = ap {B = ℕ} (λ b. cond b 1 0) (seed_done u) in
      omega (arith, f u h, missing_le (λ k. (here T s k).done) s.places, a)

  pub seeded_orderly : ((u : ℕ) → (here T s u).reached ≡ true → (here T s u).depth ≤ s.places) → Orderly m s T
  seeded_orderly f = record {
    deep = seeded_ranked s.places f;
    done = λ u d. absurd (both_ways _ (seed_done u) d);
    closed = λ u e w d k. absurd (both_ways _ (seed_done u) d);
  }

-- hops by the table are hops
module _ (m : Meaning) (L : Lawful m) (i : ℕ) (T : Table) (B : From m (i + 1) T) where
  pub via→hop : {u e w : ℕ} → Via m T i u e w → HopBy m i u e w
  via→hop (along_edge c x) = on x
  via→hop {u} {e} (along_exit {j} p t l) =
      let h = L.inner i u j p in
      let a = and_parts (m.exits j e) (T Plain j e).reached t in
      by p (hops→pass L h.1 a.0 (((B j (omega (arith, h.0)) h.1).right e).0 a.1)) l

  pub hop→via : {u w : ℕ} → Hop m i u w → (e : ℕ) × Via m T i u e w
  hop→via (over x) = (0, along_edge refl x)
  hop→via {u} (through {j} {e} b p l) =
      let h = L.inner i u j b in
      (e, along_exit b (and_from _ _ p.exits (((B j (omega (arith, h.0)) h.1).right e).1 (pass→hops L h.1 p))) l)

pub hop_of : {m : Meaning} {i u e w : ℕ} → HopBy m i u e w → Hop m i u w
hop_of (on x) = over x
hop_of (by b p l) = through b p l

-- a row searched to its end, where Q speaks for what was reached before
module _ (m : Meaning) (L : Lawful m) (s : Site) (Q : Start) (T T' : Table) (F : Fit m s) (Z : (u : ℕ) → (here T s u).reached ≡ true → Q u (finished (here T s u))) (B : From m (s.structure + 1) T)
    (Y : Spreads m s T T') (C : Closed m s T') where
  pub filled : (k : ℕ) → Ranked k s T → NothingOpen T' s → Filled m s.structure Q k (here T' s)
  filled k R N = record { tree = λ u h. go u h (Y.each u h); closed = closed; shallow = shallow }
    where
      go : (u : ℕ) → (here T' s u).reached ≡ true → Origin m s T T' u → Rooted m s.structure Q (here T' s) u
      go u h (old r) = root (subst (Q u) (sym (Y.kept u r)) (Z u r))
      go u h (new a b c r d v) = twig a b c r d (via→hop m L s.structure T B v)

      closed : (u w : ℕ) → (here T' s u).reached ≡ true → Hop m s.structure u w → (here T' s w).reached ≡ true
      closed u w h v = let x = hop→via m L s.structure T B v in C u x.0 w h (via_move m s F.apart Y.others x.1)

      shallow : (u : ℕ) → (here T' s u).reached ≡ true → (here T' s u).depth < k
      shallow u h =
          let a = ap {B = ℕ} (λ b. cond b 1 0) (N u h) in
          omega (arith, Y.ranked k R u h, a)

  pub seed_kept : (u : ℕ) → (here T s u).reached ≡ true → (here T' s u).reached ≡ true
  seed_kept u h = ap (λ x. x.reached) (Y.kept u h) ∙ h

-- what a filled row says of hops
module _ (m : Meaning) (i : ℕ) (Q : Start) (k : ℕ) (row : ℕ → Entry) (F : Filled m i Q k row) where
  pub reached_on : {u w : ℕ} → (row u).reached ≡ true → Hops m i u w → (row w).reached ≡ true
  reached_on h stop = h
  reached_on {u} h (step {b = b} v p) = reached_on (F.closed u b h v) p

  pub record Came (u : ℕ) : Type 0 where
    pub start : ℕ
    pub why : Q start (finished (row start))
    pub hops : Hops m i start u

  came_by : (n u : ℕ) → (row u).depth ≤ n → (row u).reached ≡ true → Came u
  came_by zero u d h = go (F.tree u h)
    where
      go : Rooted m i Q row u → Came u
      go (root q) = record { start = u; why = q; hops = stop }
      go (twig a b c r e v) = absurd (omega arith)
  came_by (suc n) u d h = go (came_by n) (F.tree u h)
    where
      go : ((p : ℕ) → (row p).depth ≤ n → (row p).reached ≡ true → Came p) → Rooted m i Q row u → Came u
      go rec (root q) = record { start = u; why = q; hops = stop }
      go rec (twig {p} a b c r e v) =
          let x = rec p (omega arith) r in
          record { start = x.start; why = x.why; hops = snoc x.hops (hop_of v) }

  pub came : (u : ℕ) → (row u).reached ≡ true → Came u
  came u h = came_by (row u).depth u (omega arith) h

-- ---- the plain lane
pub plain_right : (m : Meaning) (i : ℕ) (row : ℕ → Entry) → (row (m.entry i)).reached ≡ true → Filled m i (at_entry m i) m.places row → PlainRow m i row
plain_right m i row h F =
    record {
      right = λ u. (λ r. (let x = came m i (at_entry m i) m.places row F u r in subst (λ k. Hops m i k u) x.why.1 x.hops), λ p. reached_on m i (at_entry m i) m.places row F h p);
      filled = F;
    }

-- a plain row stays right where it is not written
pub from_kept : (m : Meaning) (i : ℕ) (T T' : Table) → Others T T' Plain i → (j : ℕ) → (j ≡ i → ⊥) → PlainRow m j (T Plain j) → PlainRow m j (T' Plain j)
from_kept m i T T' f j n p = subst (PlainRow m j) (sym (fun_ext (λ u. f Plain j u (λ z. n z.1)))) p

pub plain_start : (m : Meaning) (s : Site) (T T' : Table) (n : ℕ) (x : Entry) → n ≡ m.entry s.structure → ((u : ℕ) → here T s u ≡ blank) → x ≡ child 0 0 0 → Put T T' s.lane s.row n x →
    Seeded s (at_entry m s.structure) T'
plain_start m s T T' n x h1 h2 h3 h4 = grind (arith, common_steps)

pub plain_fit : (m : Meaning) (L : Lawful m) (P i : ℕ) → m.large ≡ false → P ≡ m.places → i < m.structures → Fit m (plain_site P i)
plain_fit m L P i h1 h2 h3 = grind (arith, common_steps)

pub from_others : (m : Meaning) (i : ℕ) (T T' : Table) → Others T T' Plain i → From m (i + 1) T → From m (i + 1) T'
from_others m i T T' f B j h k = from_kept m i T T' f j (λ e. omega arith) (B j h k)

-- a search from the entry of structure i makes its plain row right
module _ (m : Meaning) (L : Lawful m) (P i : ℕ) (T T' : Table) (F : Fit m (plain_site P i)) (Z : Seeded (plain_site P i) (at_entry m i) T) (B : From m (i + 1) T)
    (Y : Spreads m (plain_site P i) T T') (C : Closed m (plain_site P i) T') (N : NothingOpen T' (plain_site P i)) where
  at_root : (u : ℕ) → (T Plain i u).reached ≡ true → (T Plain i u).depth ≤ 0
  at_root u h = let d = (seed_of m (plain_site P i) (at_entry m i) T Z u h).why.0 in omega (arith, d)

  pub plain_filled : (T Plain i (m.entry i)).reached ≡ true → PlainRow m i (T' Plain i)
  plain_filled e =
      plain_right m i (T' Plain i) (seed_kept m L (plain_site P i) (at_entry m i) T T' F (seed_why m (plain_site P i) (at_entry m i) T Z) B Y C (m.entry i) e)
      (subst (λ k. Filled m i (at_entry m i) k (T' Plain i)) F.places (filled m L (plain_site P i) (at_entry m i) T T' F (seed_why m (plain_site P i) (at_entry m i) T Z) B Y C P (λ u h. omega (arith, seeded_ranked m (plain_site P i) (at_entry m i) T Z 0 at_root u h)) N))
