-- One bit of a set of places, read, set or cleared: the other bits stay.
use Rattle.std.proofs.Common.{◌≡◌, ℕ, ◌*◌, ◌%◌, ◌^◌, ◌<◌, ◌≤◌, Bool, true, false, not, eqb, bit_and, bit_or, ◌≢◌, sym, ap, ◌∙◌, ⊎_elim, arith}
use mathlib.Core.Path.{fun_ext}
use Rattle.std.specs.Int.{w16, bit_at, bit_not}
use Rattle.std.proofs.lemmas.Nat.{one_shl, pow_pos, and_le_l}
use Rattle.std.proofs.lemmas.Nat.Bits.{and_pow, bit_at-lt, bit_at-zero, bit_at_above, bit_at_set_same, bit_at_set_other, bit_at_clear_same, bit_at_clear_other}
use Rattle.std.proofs.lemmas.Bool.{cases_lt, cases_eq, eq-eqb, ne_eqb, cond-true, cond-false}
use Rattle.sheet.specs.Changes.{but}

-- whether bit k of n is set
abbrev set? : ℕ → ℕ → Bool
set? n k = eqb (bit_at n k) 1

pub no_bit : (y : ℕ) → set? 0 y ≡ false
no_bit y = ap (λ b. eqb b 1) (bit_at-zero y)

pub no_bit_above : (n y : ℕ) → n < 2 ^ 16 → 16 ≤ y → set? n y ≡ false
no_bit_above n y h l = ap (λ b. eqb b 1) (bit_at_above n 16 y h l)

pub test_bit : (n y : ℕ) → y < 16 → not (eqb (bit_and n (1 * 2 ^ y % 2 ^ 16)) 0) ≡ set? n y
test_bit n y h =
    let e : bit_and n (1 * 2 ^ y % 2 ^ 16) ≡ bit_at n y * 2 ^ y = ap (bit_and n) (one_shl y 16 h) ∙ and_pow n y in
    let p = pow_pos y in
    let l = bit_at-lt n y in
    simp e (grind arith)

-- n and m agree but at y, where m has v
bits_but : (n m y : ℕ) (v : Bool) → set? m y ≡ v → ((k : ℕ) → k ≢ y → bit_at m k ≡ bit_at n k) → set? m ≡ but y v (set? n)
bits_but n m y v e h = fun_ext (λ k. ⊎_elim
    (λ s. ap (set? m) s ∙ e ∙ sym (cond-true (eqb k y) v (set? n k) (eq-eqb k y s)))
    (λ ne. ap (λ b. eqb b 1) (h k ne) ∙ sym (cond-false (eqb k y) v (set? n k) (ne_eqb k y ne)))
    (cases_eq k y))

pub with_bit : (n y : ℕ) → y < 16 → set? (bit_or n (1 * 2 ^ y % 2 ^ 16)) ≡ but y true (set? n)
with_bit n y h = bits_but n _ y true (ap (λ b. eqb b 1) (bit_at_set_same w16 n y h)) (bit_at_set_other w16 n y h)

pub without_bit : (n y : ℕ) → y < 16 → n < 2 ^ 16 → set? (bit_and n (bit_not w16 (1 * 2 ^ y % 2 ^ 16))) ≡ but y false (set? n)
without_bit n y h l =
    let m = bit_and n (bit_not w16 (1 * 2 ^ y % 2 ^ 16)) in
    let b : m < 2 ^ 16 = omega (arith, and_le_l n (bit_not w16 (1 * 2 ^ y % 2 ^ 16))) in
    bits_but n m y false (ap (λ b. eqb b 1) (bit_at_clear_same w16 n y h)) (λ k ne. ⊎_elim
    (λ s. bit_at_clear_other w16 n y h k s ne)
    (λ s. bit_at_above m 16 k b s ∙ sym (bit_at_above n 16 k l s))
    (cases_lt k 16))
