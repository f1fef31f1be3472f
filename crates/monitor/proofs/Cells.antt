-- A table of steps, cell by cell: what one write alters, and what a loop over the letters has added so far.
-- Assumes nothing.
use Rattle.std.proofs.Common.{◌≡◌, ℕ, ◌+◌, ◌*◌, ◌<◌, Bool, true, false, ◌&&◌, ◌||◌, eqb, ltb, ◌≢◌, ◌⊎◌, List, length, get_or, set, replicate, sym, refl, ap, ◌∙◌, ⊎_elim, arith}
use lib.Bits.{bit_and}
use Rattle.std.proofs.lemmas.List.{get_or-set_same, get_or-set_other, get_or-replicate}
use Rattle.std.proofs.lemmas.Bool.{lt-ltb, or_right}
use Rattle.std.proofs.lemmas.Bool.Decides.{nat_tests}

abbrev pub cell : ℕ → ℕ → ℕ → ℕ
cell q a r = (q * 4 + r) * 16 + a

abbrev pub at : List Bool → ℕ → ℕ → ℕ → Bool
at cells q a r = ltb q 4 && (ltb a 16 && (ltb r 4 && get_or cells (cell q a r) false))

-- the steps from q to r by the letters below n that match
unfoldable pub added : ℕ → ℕ → ℕ → ℕ → ℕ → ℕ → ℕ → ℕ → Bool
added n q care value r p a t = eqb p q && (eqb t r && (ltb a n && eqb (bit_and a care) value))

pub at_inside : (cells : List Bool) (q a r : ℕ) → q < 4 → a < 16 → r < 4 → at cells q a r ≡ get_or cells (cell q a r) false
at_inside cells q a r hq ha hr = rw (lt-ltb q 4 hq, lt-ltb a 16 ha, lt-ltb r 4 hr)

pub at_outside : (cells : List Bool) (q a r : ℕ) → ((q < 4) × (a < 16) × (r < 4) → ⊥) → at cells q a r ≡ false
at_outside cells q a r out = let b = get_or cells (cell q a r) false in grind (arith, nat_tests)

inside : (q a r : ℕ) → ((q < 4) × (a < 16) × (r < 4)) ⊎ ((q < 4) × (a < 16) × (r < 4) → ⊥)
inside q a r = grind (arith, nat_tests)

pub at_none : (q a r : ℕ) → at (replicate 256 false) q a r ≡ false
at_none q a r =
    let all = replicate 256 false in
    ⊎_elim
    (λ h. at_inside all q a r h.0 h.1 h.2 ∙ get_or-replicate 256 (cell q a r) false false (omega (arith, h.0, h.1, h.2)))
    (λ out. at_outside all q a r out)
    (inside q a r)

module _ (cells : List Bool) (q a r : ℕ) (full : length cells ≡ 256) (hq : q < 4) (ha : a < 16) (hr : r < 4) where
  pub at_set_here : at (set cells (cell q a r) true) q a r ≡ true
  at_set_here = at_inside _ q a r hq ha hr ∙ get_or-set_same cells (cell q a r) true false (omega arith)

  pub at_set_else : (p b t : ℕ) → (p ≡ q → b ≡ a → t ≡ r → ⊥) → at (set cells (cell q a r) true) p b t ≡ at cells p b t
  at_set_else p b t other =
      ⊎_elim
      (λ h.
      let ne : cell p b t ≢ cell q a r = λ e. other (omega (arith, h.0, h.1, h.2, e)) (omega (arith, h.0, h.1, h.2, e)) (omega (arith, h.0, h.1, h.2, e)) in
      ap (λ v. ltb p 4 && (ltb b 16 && (ltb t 4 && v))) (get_or-set_other cells (cell q a r) (cell p b t) true false ne))
      (λ out. at_outside (set cells (cell q a r) true) p b t out ∙ sym (at_outside cells p b t out))
      (inside p b t)

-- ---- the loop over the letters

module _ (q care value r : ℕ) where
  added_none : (p a t : ℕ) → added 0 q care value r p a t ≡ false
  unfolding added
  added_none p a t = let m = eqb (bit_and a care) value in grind (arith, nat_tests)

  added_here : (n : ℕ) → bit_and n care ≡ value → added (n + 1) q care value r q n r ≡ true
  unfolding added
  added_here n e = grind (arith, nat_tests)

  added_else : (n p a t : ℕ) → (p ≡ q → a ≡ n → t ≡ r → bit_and n care ≡ value → ⊥) → added (n + 1) q care value r p a t ≡ added n q care value r p a t
  unfolding added
  added_else n p a t other = grind (arith, nat_tests)

  -- the cells after the letters below n: what was there before, and what they added
  abbrev pub Added : List Bool → ℕ → List Bool → Type 0
  Added before n cells = (p a t : ℕ) → at cells p a t ≡ (at before p a t || added n q care value r p a t)

  or_false : (b x : Bool) → x ≡ false → b ≡ (b || x)
  or_false true x e = refl
  or_false false x e = sym e

  pub added_first : (before : List Bool) → Added before 0 before
  added_first before p a t = or_false (at before p a t) _ (added_none p a t)

  pub added_skipped : (before cells : List Bool) (n : ℕ) → (bit_and n care ≡ value → ⊥) → Added before n cells → Added before (n + 1) cells
  added_skipped before cells n differs so p a t =
      so p a t ∙ ap (λ x. at before p a t || x) (sym (added_else n p a t (λ _ _ _ e. differs e)))

  pub added_written : (before cells : List Bool) (n : ℕ) → length cells ≡ 256 → q < 4 → n < 16 → r < 4 → bit_and n care ≡ value → Added before n cells → Added before (n + 1) (set cells (cell q n r) true)
  added_written before cells n full hq hn hr match so p a t = ⊎_elim here else (same p a t) where
    same : (p a t : ℕ) → ((p ≡ q) × (a ≡ n) × (t ≡ r)) ⊎ (p ≡ q → a ≡ n → t ≡ r → ⊥)
    same p a t = grind (arith, nat_tests)

    after : List Bool
    after = set cells (cell q n r) true

    here : (p ≡ q) × (a ≡ n) × (t ≡ r) → at after p a t ≡ (at before p a t || added (n + 1) q care value r p a t)
    here e =
        rw (e.0, e.1, e.2)
        (at_set_here cells q n r full hq hn hr ∙ sym (or_right (at before q n r) _ (added_here n match)))

    else : (p ≡ q → a ≡ n → t ≡ r → ⊥) → at after p a t ≡ (at before p a t || added (n + 1) q care value r p a t)
    else other =
        at_set_else cells q n r full hq hn hr p a t other
        ∙ so p a t
        ∙ ap (λ x. at before p a t || x) (sym (added_else n p a t (λ e f g _. other e f g)))
