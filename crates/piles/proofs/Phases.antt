-- The two phases, as sequences alone: marked above without end is marked below without end and accepting without end.
-- Assumes nothing.
use Rattle.std.proofs.Common.{◌≡◌, ℕ, zero, suc, ◌+◌, ◌-◌, ◌<◌, ◌≤◌, Bool, true, false, ◌&&◌, eqb, ◌⊎◌, refl, ◌∙◌, subst, inl, inr, add-zero, arith}
use Rattle.std.proofs.lemmas.Bool.{and_parts, and_from, eqb-true, eq-eqb}
use Rattle.hierarchy.specs.Runs.{Often}
use Rattle.monitor.specs.Product.{next_phase_lem}

-- P at some number from n on
abbrev From : (ℕ → Type 0) → ℕ → Type 0
From P n = (k : ℕ) × (n ≤ k) × P k

earlier : {P : ℕ → Type 0} (n l : ℕ) → n ≤ l → From P l → From P n
earlier n l h f = (f.0, omega (arith, f.1), f.2)

shift : (P : ℕ → Type 0) (x y : ℕ) → x ≡ y → P x → P y
shift P x y e h = subst P e h

-- phase 0 stays 0 without a mark, and rises at a mark
pub waits_for_mark : (c : ℕ) (marked accepting : Bool) → c ≡ 0 → marked ≡ false → next_phase_lem c marked accepting ≡ 0
waits_for_mark c marked accepting e f = rw (e, f) refl

pub rises_at_mark : (c : ℕ) (marked accepting : Bool) → c ≡ 0 → marked ≡ true → next_phase_lem c marked accepting ≡ 1
rises_at_mark c marked accepting e f = rw (e, f) refl

-- phase 1 stays 1 until an accepting state, and drops there
pub waits_for_acceptance : (c : ℕ) (marked accepting : Bool) → c ≡ 1 → accepting ≡ false → next_phase_lem c marked accepting ≡ 1
waits_for_acceptance c marked accepting e f = rw (e, f) refl

pub drops_at_acceptance : (c : ℕ) (marked accepting : Bool) → c ≡ 1 → accepting ≡ true → next_phase_lem c marked accepting ≡ 0
drops_at_acceptance c marked accepting e f = rw (e, f) refl

two : (c : ℕ) → c < 2 → (c ≡ 0) ⊎ (c ≡ 1)
two zero h = inl refl
two (suc zero) h = inr refl
two (suc (suc c)) h = absurd (omega arith)

pub next_phase_small : (c : ℕ) (marked accepting : Bool) → c < 2 → next_phase_lem c marked accepting < 2
next_phase_small c marked accepting h = go (two c h) marked accepting
  where
    go : (c ≡ 0) ⊎ (c ≡ 1) → (marked accepting : Bool) → next_phase_lem c marked accepting < 2
    go (inl e) true accepting = rw e (omega arith)
    go (inl e) false accepting = rw e (omega arith)
    go (inr e) marked true = rw e (omega arith)
    go (inr e) marked false = rw e (omega arith)

module _
    (c : ℕ → ℕ) (marked accepting : ℕ → Bool) (small : (n : ℕ) → c n < 2)
    (turns : (n : ℕ) → c (suc n) ≡ next_phase_lem (c n) (marked n) (accepting n))
  where
    abbrev Marks : ℕ → Type 0
    Marks n = marked n ≡ true

    abbrev High : ℕ → Type 0
    High n = c n ≡ 1

    -- marked above
    abbrev Both : ℕ → Type 0
    Both n = (eqb (c n) 1 && accepting n) ≡ true

    -- phase 0 gives way to phase 1 only at a mark
    mark_before_rise : (d n : ℕ) → c n ≡ 0 → c (n + d) ≡ 1 → From Marks n
    mark_before_rise zero n low high = absurd (omega (arith, low, shift High (n + 0) n (add-zero n) high))
    mark_before_rise (suc d) n low high = go (marked n) refl (λ l. mark_before_rise d (suc n) l (shift High (n + suc d) (suc n + d) (omega arith) high))
      where
        go : (b : Bool) → marked n ≡ b → (c (suc n) ≡ 0 → From Marks (suc n)) → From Marks n
        go true e next = (n, omega arith, e)
        go false e next = earlier n (suc n) (omega arith) (next (turns n ∙ waits_for_mark (c n) (marked n) (accepting n) low e))

    -- between two marks above is a mark below
    pub marked_below : Often Both → Often Marks
    marked_below often n =
        let k : ℕ = (often n).0 in
        let le : n ≤ k = (often n).1 in
        let here = and_parts (eqb (c k) 1) (accepting k) (often n).2 in
        let l : ℕ = (often (suc k)).0 in
        let later : suc k ≤ l = (often (suc k)).1 in
        let there = and_parts (eqb (c l) 1) (accepting l) (often (suc k)).2 in
        earlier n (suc k) (omega arith)
        (mark_before_rise (l - suc k) (suc k)
        (turns k ∙ drops_at_acceptance (c k) (marked k) (accepting k) (eqb-true _ _ here.0) here.1)
        (shift High l (suc k + (l - suc k)) (omega arith) (eqb-true _ _ there.0)))

    -- phase 1 lasts until an accepting state
    high_until_acceptance : (d n : ℕ) → c n ≡ 1 → accepting (n + d) ≡ true → From Both n
    high_until_acceptance zero n high acc = (n, omega arith, and_from _ _ (eq-eqb _ _ high) (shift (λ k. accepting k ≡ true) (n + 0) n (add-zero n) acc))
    high_until_acceptance (suc d) n high acc =
        go (accepting n) refl (λ l. high_until_acceptance d (suc n) l (shift (λ k. accepting k ≡ true) (n + suc d) (suc n + d) (omega arith) acc))
      where
        go : (b : Bool) → accepting n ≡ b → (c (suc n) ≡ 1 → From Both (suc n)) → From Both n
        go true e next = (n, omega arith, and_from _ _ (eq-eqb _ _ high) e)
        go false e next = earlier n (suc n) (omega arith) (next (turns n ∙ waits_for_acceptance (c n) (marked n) (accepting n) high e))

    -- phase 0 lasts until a mark
    high_after_mark : (d n : ℕ) → marked (n + d) ≡ true → From High n
    high_after_mark zero n seen = go (two (c n) (small n))
      where
        go : (c n ≡ 0) ⊎ (c n ≡ 1) → From High n
        go (inl e) = (suc n, omega arith, turns n ∙ rises_at_mark (c n) (marked n) (accepting n) e (shift Marks (n + 0) n (add-zero n) seen))
        go (inr e) = (n, omega arith, e)
    high_after_mark (suc d) n seen =
        earlier n (suc n) (omega arith) (high_after_mark d (suc n) (shift Marks (n + suc d) (suc n + d) (omega arith) seen))

    pub marked_above : Often Marks → Often (λ n. accepting n ≡ true) → Often Both
    marked_above marks accepts n =
        let k : ℕ = (marks n).0 in
        let le : n ≤ k = (marks n).1 in
        let h = high_after_mark (k - n) n (shift Marks k (n + (k - n)) (omega arith) (marks n).2) in
        let x : ℕ = h.0 in
        let l : ℕ = (accepts x).0 in
        let later : x ≤ l = (accepts x).1 in
        earlier n x h.1
        (high_until_acceptance (l - x) x h.2 (shift (λ k. accepting k ≡ true) l (x + (l - x)) (omega arith) (accepts x).2))
