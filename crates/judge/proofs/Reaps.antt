-- A search from the seeds of a structure makes its marked row right.
-- Assumes nothing.
use Rattle.std.proofs.lemmas.Grind.{common_steps}
use Rattle.std.proofs.Common.{◌≡◌, ℕ, ◌+◌, ◌<◌, ◌≤◌, true, false, subst, arith}
use Rattle.hierarchy.specs.Meaning.{Meaning, Lawful}
use Rattle.theory.specs.Hops.{HopMarked, Hops}
use Rattle.guide.specs.declared.Entry.{Entry}
use Rattle.guide.specs.declared.Lane.TheVariants.{Marked}
use Rattle.guide.specs.Layout.{Table}
use Rattle.judge.specs.Spread.{Fit}
use Rattle.judge.specs.Search.{Spreads, Closed, NothingOpen}
use Rattle.judge.specs.Rows.{Filled, PlainRow, From, from_row, OnWay, MarkedRow}
use Rattle.judge.specs.Seeds.{Seeded, marked_site}
use Rattle.judge.proofs.Fills.{filled, seed_why, seed_kept, seeded_ranked, came, reached_on}
use Rattle.judge.proofs.Sows.{by_marked}

pub marked_fit : (m : Meaning) (L : Lawful m) (P i : ℕ) → m.large ≡ false → P ≡ m.places → i < m.structures → Fit m (marked_site P i)
marked_fit m L P i h1 h2 h3 = grind (arith, common_steps)

-- a place with a marked hop is one of the row's
pub hop_inside : (m : Meaning) (L : Lawful m) (i v w P : ℕ) → P ≡ m.places → HopMarked m i v w → v < P
hop_inside m L i v w P h1 h2 = grind (arith, common_steps)

module _ (m : Meaning) (L : Lawful m) (P i : ℕ) (row : ℕ → Entry) (R : PlainRow m i row) (T : Table) (F : Fit m (marked_site P i)) (Z : Seeded (marked_site P i) (from_row m i row) T) where
  -- a seed is one deeper than a plain place
  pub seed_depth : (u : ℕ) → (T Marked i u).reached ≡ true → (T Marked i u).depth ≤ P
  seed_depth u h1 = grind (arith, common_steps)

  module _ (T' : Table) (B : From m (i + 1) T) (X : (v w : ℕ) → Hops m i (m.entry i) v → HopMarked m i v w → (T Marked i w).reached ≡ true)
      (Y : Spreads m (marked_site P i) T T') (C : Closed m (marked_site P i) T') (N : NothingOpen T' (marked_site P i)) where
    full : Filled m i (from_row m i row) (P + P) (T' Marked i)
    full = filled m L (marked_site P i) (from_row m i row) T T' F (seed_why m (marked_site P i) (from_row m i row) T Z) B Y C (P + P) (seeded_ranked m (marked_site P i) (from_row m i row) T Z P seed_depth) N

    pub marked_filled : MarkedRow m i row (T' Marked i)
    marked_filled = record { right = λ u. (there u, back u); filled = subst (λ k. Filled m i (from_row m i row) (k + k) (T' Marked i)) F.places full }
      where
        there : (u : ℕ) → (T' Marked i u).reached ≡ true → OnWay m i u
        there u r =
            let x = came m i (from_row m i row) (P + P) (T' Marked i) full u r in
            let f = (T' Marked i x.start).from in
            record { v = f; w = x.start; come = (R.right f).0 x.why.0; go = by_marked x.why.1.hop; on = x.hops }

        back : (u : ℕ) → OnWay m i u → (T' Marked i u).reached ≡ true
        back u x = reached_on m i (from_row m i row) (P + P) (T' Marked i) full (seed_kept m L (marked_site P i) (from_row m i row) T T' F (seed_why m (marked_site P i) (from_row m i row) T Z) B Y C x.w (X x.v x.w x.come x.go)) x.on
