-- Induction downwards, and the pigeonhole: of N + 1 numbers below N two are equal.
-- Assumes nothing.
use Rattle.std.proofs.Common.{◌≡◌, ℕ, zero, suc, ◌+◌, ◌<◌, ◌≤◌, ◌≢◌, ◌⊎◌, List, length, get_or, sym, ap, ◌∙◌, inl, inr, arith}
use mathlib.Core.List.{Memᴰ}
use native.Mathlib.Decide.{ℕ_discrete}

-- what holds of i when it holds of all numbers between i and n holds of all numbers below n
pub down : (P : ℕ → Type 0) (n : ℕ) → ((i : ℕ) → i < n → ((j : ℕ) → i < j → j < n → P j) → P i) → (i : ℕ) → i < n → P i
down P n f i h = go n i h (omega arith)
  where
    go : (d i : ℕ) → i < n → n ≤ i + d → P i
    go zero i h k = absurd (omega arith)
    go (suc d) i h k = f i h (λ j a b. go d j b (omega arith))

-- g takes a value twice, up to n
pub record Twice (g : ℕ → ℕ) (n : ℕ) : Type 0 where
  pub i : ℕ
  pub j : ℕ
  pub less : i < j
  pub most : j ≤ n
  pub same : g i ≡ g j

abbrev Found : (ℕ → ℕ) → ℕ → ℕ → Type 0
Found g v k = (n : ℕ) × (n < k) × (g n ≡ v)

abbrev Avoided : (ℕ → ℕ) → ℕ → ℕ → Type 0
Avoided g v k = (n : ℕ) → n < k → g n ≡ v → ⊥

-- g takes the value v below k, or it does not
found_or_avoided : (g : ℕ → ℕ) (v k : ℕ) → Found g v k ⊎ Avoided g v k
found_or_avoided g v zero = inr (λ n h e. omega arith)
found_or_avoided g v (suc k) = go (ℕ_discrete (g k) v) (found_or_avoided g v k)
  where
    go : Dec (g k ≡ v) → Found g v k ⊎ Avoided g v k → Found g v (suc k) ⊎ Avoided g v (suc k)
    go (yes e) r = inl (k, omega arith, e)
    go (no x) (inl t) = inl (t.0, omega arith, t.2)
    go (no x) (inr f) = inr (λ n h e. last n h e (ℕ_discrete n k))
      where
        last : (n : ℕ) → n < suc k → g n ≡ v → Dec (n ≡ k) → ⊥
        last n h e (yes q) = x (ap g (sym q) ∙ e)
        last n h e (no q) = f n (omega arith) e

abbrev first_if : {X : Type 0} → Dec X → ℕ → ℕ → ℕ
first_if (yes e) a b = a
first_if (no e) a b = b

-- If the last value stands nowhere before, put it in place of the value n, and n + 1 numbers are below n.
pub pigeonhole : (n : ℕ) (g : ℕ → ℕ) → ((k : ℕ) → k ≤ n → g k < n) → Twice g n
pigeonhole zero g h = absurd (omega (arith, h 0 (omega arith)))
pigeonhole (suc n) g h = go (pigeonhole n) (found_or_avoided g (g (suc n)) (suc n))
  where
    squeezed : ℕ → ℕ
    squeezed k = first_if (ℕ_discrete (g k) n) (g (suc n)) (g k)

    go : ((f : ℕ → ℕ) → ((k : ℕ) → k ≤ n → f k < n) → Twice f n) → Found g (g (suc n)) (suc n) ⊎ Avoided g (g (suc n)) (suc n) → Twice g (suc n)
    go rec (inl t) = record { i = t.0; j = suc n; less = t.1; most = omega arith; same = t.2 }
    go rec (inr f) = back (rec squeezed (λ k q. small k q (ℕ_discrete (g k) n)))
      where
        small : (k : ℕ) → k ≤ n → (d : Dec (g k ≡ n)) → first_if d (g (suc n)) (g k) < n
        small k q (yes e) = let x : g k ≢ g (suc n) = f k (omega arith) in omega (arith, h (suc n) (omega arith))
        small k q (no x) = omega (arith, h k (omega arith))

        same_before : (i j : ℕ) → i < suc n → j < suc n → (a : Dec (g i ≡ n)) (b : Dec (g j ≡ n)) → first_if a (g (suc n)) (g i) ≡ first_if b (g (suc n)) (g j) → g i ≡ g j
        same_before i j p q (yes a) (yes b) e = a ∙ sym b
        same_before i j p q (yes a) (no b) e = absurd (f j q (sym e))
        same_before i j p q (no a) (yes b) e = absurd (f i p e)
        same_before i j p q (no a) (no b) e = e

        back : Twice squeezed n → Twice g (suc n)
        back t =
            record {
              i = t.i;
              j = t.j;
              less = t.less;
              most = omega arith;
              same = same_before t.i t.j (omega arith) (omega arith) (ℕ_discrete (g t.i) n) (ℕ_discrete (g t.j) n) t.same;
            }

-- the number at which a member of a list stands
pub member_at : {X : Type 0} {a : X} {xs : List X} (d : X) → Memᴰ a xs → (k : ℕ) × (k < length xs) × (get_or xs k d ≡ a)
member_at d (Memᴰ.head e) = (0, omega arith, sym e)
member_at d (Memᴰ.tail m) = let t = member_at d m in (suc t.0, omega arith, t.2)
