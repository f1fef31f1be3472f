-- A ring of one structure, by a search of the last row.
-- Assumes nothing.
use Rattle.std.proofs.lemmas.Grind.{common_steps}
use Rattle.std.proofs.Common.{◌≡◌, ℕ, ◌+◌, ◌<◌, ◌≤◌, true, false, ◌∙◌, arith}
use mathlib.Core.Path.{fun_ext}
use Rattle.hierarchy.specs.Meaning.{Meaning, Lawful}
use Rattle.theory.specs.Hops.{Hop, over, through, HopMarked, over!, through!, Hops, MarkedRound}
use Rattle.theory.proofs.Paths.{append}
use Rattle.guide.specs.declared.Lane.{Lane}
use Rattle.guide.specs.declared.Lane.TheVariants.{Plain, Marked}
use Rattle.guide.specs.Layout.{Table, blank}
use Rattle.judge.specs.Tables.{Others, Kept}
use Rattle.judge.specs.Spread.{here, Fit}
use Rattle.judge.specs.Search.{Spreads, Closed, NothingOpen, Orderly}
use Rattle.judge.specs.Rows.{Filled, from_one, OnWay, Behind}
use Rattle.judge.specs.Seeds.{Seeded, SownFrom}
use Rattle.judge.specs.Known.{known, Knows}
use Rattle.judge.specs.Ring.{ring_site, Back, RingRow}
use Rattle.judge.proofs.Stays.{both_kept, both_same, behind_plain}
use Rattle.judge.proofs.Fills.{filled, seed_of, seed_why, seed_kept, seeded_ranked, seeded_orderly, reached_on}
use Rattle.judge.proofs.Sows.{sown_seeded}
use Rattle.judge.proofs.Knowing.{reached_known}

pub ring_fit : (m : Meaning) (L : Lawful m) (S P i : ℕ) → m.large ≡ false → P ≡ m.places → S ≡ m.structures → Fit m (ring_site S P i)
ring_fit m L S P i h1 h2 h3 = grind (arith, common_steps)

-- the last row is no structure's
pub behind_last : (m : Meaning) (T T' : Table) (c : Lane) (S i : ℕ) → S ≡ m.structures → Others T T' c S → Behind m i T → Behind m i T'
behind_last m T T' c S i e f B j h k = both_kept m T T' c S j f (λ z. omega arith) (B j h k)

pub behind_from : (m : Meaning) (T : Table) (i : ℕ) → Behind m 0 T → Behind m i T
behind_from m T i B j h k = B j (omega arith) k

-- what a row keeps
pub others_keep : (T T' : Table) (l : Lane) (S : ℕ) → Others T T' l S → Kept S T T'
others_keep T T' l S f c r u n = f c r u (λ z. n z.1)

pub kept_trans : (S : ℕ) (T T' T'' : Table) → Kept S T T' → Kept S T' T'' → Kept S T T''
kept_trans S T T' T'' f g c r u n = g c r u n ∙ f c r u n

pub behind_keep : (m : Meaning) (T T' : Table) (S i : ℕ) → S ≡ m.structures → Kept S T T' → Behind m i T → Behind m i T'
behind_keep m T T' S i e f B j h k = both_same m T T' j (fun_ext (λ u. f Plain j u (λ z. omega arith))) (fun_ext (λ u. f Marked j u (λ z. omega arith))) (B j h k)

-- the search from the marked hops of u
module _ (m : Meaning) (L : Lawful m) (S P i u : ℕ) (F : Fit m (ring_site S P i)) (T T₁ : Table) (b : (k : ℕ) → here T (ring_site S P i) k ≡ blank) (X : SownFrom m (ring_site S P i) u 1 T T₁) where
  seeds : Seeded (ring_site S P i) (from_one m i u 1) T₁
  seeds = sown_seeded (ring_site S P i) (from_one m i u 1) T T₁ b X.sown

  one_deep : (k : ℕ) → (here T₁ (ring_site S P i) k).reached ≡ true → (here T₁ (ring_site S P i) k).depth ≤ 1
  one_deep k h = omega (arith, (seed_of m (ring_site S P i) (from_one m i u 1) T₁ seeds k h).why.1.depth)

  pub ring_orderly : u < P → Orderly m (ring_site S P i) T₁
  ring_orderly l = seeded_orderly m (ring_site S P i) (from_one m i u 1) T₁ seeds (λ k h. omega (arith, one_deep k h))

  module _ (T' : Table) (B : Behind m (i + 1) T₁) (Y : Spreads m (ring_site S P i) T₁ T') (C : Closed m (ring_site S P i) T') (N : NothingOpen T' (ring_site S P i)) where
    full : Filled m i (from_one m i u 1) (m.places + 1) (T' Plain S)
    full = filled m L (ring_site S P i) (from_one m i u 1) T₁ T' F (seed_why m (ring_site S P i) (from_one m i u 1) T₁ seeds) (behind_plain m (i + 1) T₁ B) Y C (m.places + 1)
        (λ k h. omega (arith, seeded_ranked m (ring_site S P i) (from_one m i u 1) T₁ seeds 1 one_deep k h, F.places)) N

    pub ring_drawn : Back m i u → RingRow m i u (T' Plain S)
    ring_drawn x = record { filled = full; back = back }
      where
        back : (T' Plain S u).reached ≡ true
        back =
            reached_on m i (from_one m i u 1) (m.places + 1) (T' Plain S) full
            (seed_kept m L (ring_site S P i) (from_one m i u 1) T₁ T' F (seed_why m (ring_site S P i) (from_one m i u 1) T₁ seeds) (behind_plain m (i + 1) T₁ B) Y C x.w (X.all x.w x.go)) x.on

-- a marked hop is a hop, and a place that has a ring is reached after a mark
pub marked_hop : {m : Meaning} {i u w : ℕ} → HopMarked m i u w → Hop m i u w
marked_hop (over! k e) = over e
marked_hop (through! b p l) = through b (record { exits = p.exits; path = append p.path.before p.path.after }) l

pub back_on_way : {m : Meaning} {i u : ℕ} → Hops m i (m.entry i) u → Back m i u → OnWay m i u
back_on_way {u = u} p x = record { v = u; w = x.w; come = p; go = x.go; on = x.on }

-- a marked round is a ring in a known structure
pub no_round : (m : Meaning) (L : Lawful m) (T : Table) → Behind m 0 T → Knows m m.structures T → 0 < m.structures →
    ((i : ℕ) → i < m.structures → known T i ≡ true → (u : ℕ) → Hops m i (m.entry i) u → Back m i u → ⊥) → MarkedRound m → ⊥
no_round m L T B K s f c =
    let a = reached_known m L T B K s c.reached in
    f c.structure a.0 a.1 c.from c.come (record { w = c.to; go = c.go; on = c.back })
