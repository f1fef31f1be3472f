-- The accepting states as a row of flags: what one write alters.
-- Assumes nothing.
use Rattle.std.proofs.Common.{◌≡◌, ℕ, ◌<◌, Bool, true, false, ◌&&◌, ◌||◌, eqb, ltb, List, length, get_or, set, replicate, sym, refl, ap, ◌∙◌, ⊎_elim, arith}
use mathlib.Core.Path.{fun_ext}
use Rattle.std.proofs.Math.Bool.{or-true, or-false}
use Rattle.std.proofs.lemmas.List.{get_or-set_same, get_or-set_other, get_or-replicate, get_or_past}
use Rattle.std.proofs.lemmas.Bool.{cases_eq, cases_lt, lt-ltb, le-ltb, eq-eqb, ne_eqb}
use Rattle.monitor.specs.Tables.{accepting_in}

pub flag_at : (flags : List Bool) (q : ℕ) → q < 4 → accepting_in flags q ≡ get_or flags q false
unfolding accepting_in
flag_at flags q h = rw (lt-ltb q 4 h)

pub flag_is : (flags : List Bool) (q : ℕ) → length flags ≡ 4 → accepting_in flags q ≡ get_or flags q false
unfolding accepting_in
flag_is flags q four =
    ⊎_elim
    (λ h. flag_at flags q h)
    (λ h. ap (λ t. t && get_or flags q false) (le-ltb q 4 h) ∙ sym (get_or_past flags q false (omega arith)))
    (cases_lt q 4)

pub flag_set : (flags : List Bool) (q : ℕ) → length flags ≡ 4 → q < 4 → accepting_in (set flags q true) ≡ (λ p. accepting_in flags p || eqb p q)
unfolding accepting_in
flag_set flags q four h =
    fun_ext
    (λ p. ⊎_elim
    (λ e.
    rw e (flag_at (set flags q true) q h ∙ get_or-set_same flags q true false (omega arith) ∙ sym (ap (λ x. accepting_in flags q || x) (eq-eqb q q refl) ∙ or-true (accepting_in flags q))))
    (λ ne.
    ap (λ v. ltb p 4 && v) (get_or-set_other flags q p true false ne)
    ∙ sym (ap (λ x. accepting_in flags p || x) (ne_eqb p q ne) ∙ or-false (accepting_in flags p)))
    (cases_eq p q))

pub no_flags : accepting_in (replicate 4 false) ≡ (λ _. false)
unfolding accepting_in
no_flags =
    fun_ext
    (λ p. ⊎_elim
    (λ h. flag_at (replicate 4 false) p h ∙ get_or-replicate 4 p false false h)
    (λ h. ap (λ t. t && get_or (replicate 4 false) p false) (le-ltb p 4 h))
    (cases_lt p 4))
