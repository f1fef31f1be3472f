-- Rows that are right stay right where nothing is written; and the rows behind a structure, one structure at a time.
-- Assumes nothing.
use Rattle.std.proofs.lemmas.Grind.{common_steps}
use Rattle.std.proofs.Common.{◌≡◌, ℕ, ◌+◌, ◌≤◌, ◌⊎◌, sym, subst, inl, inr, arith}
use mathlib.Core.Path.{fun_ext}
use Rattle.std.proofs.lemmas.Bool.{cases_eq}
use Rattle.hierarchy.specs.Meaning.{Meaning}
use Rattle.guide.specs.declared.Lane.{Lane}
use Rattle.guide.specs.declared.Lane.TheVariants.{Plain, Marked}
use Rattle.guide.specs.Layout.{Table}
use Rattle.judge.specs.Tables.{Others}
use Rattle.judge.specs.Rows.{PlainRow, From, MarkedRow, BothRows, Behind}

pub plain_not_marked : Plain ≡ Marked → ⊥
plain_not_marked e = let o : ◌≡◌ {A = ℕ} 0 1 = cc in omega arith

pub row_same : (T T' : Table) (c : Lane) (r : ℕ) → Others T T' c r → (c' : Lane) (j : ℕ) → ((c' ≡ c) × (j ≡ r) → ⊥) → T' c' j ≡ T c' j
row_same T T' c r f c' j n = fun_ext (λ u. f c' j u n)

pub both_same : (m : Meaning) (T T' : Table) (j : ℕ) → T' Plain j ≡ T Plain j → T' Marked j ≡ T Marked j → BothRows m j T → BothRows m j T'
both_same m T T' j h1 h2 h3 = grind (arith, common_steps)

pub both_kept : (m : Meaning) (T T' : Table) (c : Lane) (r j : ℕ) → Others T T' c r → (j ≡ r → ⊥) → BothRows m j T → BothRows m j T'
both_kept m T T' c r j f n = both_same m T T' j (row_same T T' c r f Plain j (λ z. n z.1)) (row_same T T' c r f Marked j (λ z. n z.1))

pub behind_kept : (m : Meaning) (T T' : Table) (c : Lane) (r i : ℕ) → Others T T' c r → r ≤ i → Behind m (i + 1) T → Behind m (i + 1) T'
behind_kept m T T' c r i f h B j a b = both_kept m T T' c r j f (λ e. omega arith) (B j a b)

pub plain_same : (T T' : Table) (r j : ℕ) → Others T T' Marked r → T' Plain j ≡ T Plain j
plain_same T T' r j f = row_same T T' Marked r f Plain j (λ z. plain_not_marked z.0)

pub plain_stays : (m : Meaning) (T T' : Table) (r j : ℕ) → Others T T' Marked r → PlainRow m j (T Plain j) → PlainRow m j (T' Plain j)
plain_stays m T T' r j f R = subst (PlainRow m j) (sym (plain_same T T' r j f)) R

pub behind_plain : (m : Meaning) (i : ℕ) (T : Table) → Behind m i T → From m i T
behind_plain m i T B j h k = (B j h k).plain

-- one more structure
pub behind_more : (m : Meaning) (i : ℕ) (T T' T'' : Table) → Others T T' Plain i → Others T' T'' Marked i → Behind m (i + 1) T → PlainRow m i (T' Plain i) → MarkedRow m i (T'' Plain i) (T'' Marked i) → Behind m i T''
behind_more m i T T' T'' f g B R M j h k = go (cases_eq j i)
  where
    here_now : BothRows m i T''
    here_now = record { plain = plain_stays m T' T'' i i g R; marked = M }

    go : (j ≡ i) ⊎ (j ≡ i → ⊥) → BothRows m j T''
    go (inl e) = subst (λ n. BothRows m n T'') (sym e) here_now
    go (inr n) = both_kept m T' T'' Marked i j g n (both_kept m T T' Plain i j f n (B j (omega arith) k))
