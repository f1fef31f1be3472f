-- By induction over the automata of a pile: its words, its good runs, its size, and its laws.
-- Assumes nothing.
use Rattle.std.proofs.Common.{◌≡◌, ℕ, ◌*◌, ◌<◌, ◌≤◌, Bool, true, false, cond, ltb, ◌↔◌, List, [], ◌∷◌, sym, refl, ap, ◌∙◌, subst, mul_assoc, mul-one, arith}
use Rattle.std.proofs.lemmas.Nat.{mul-le}
use Rattle.std.proofs.lemmas.Bool.{both_ways, or_parts, or_from, ltb-false, le-ltb, cond-false}
use Rattle.hierarchy.specs.Meaning.{Meaning, Lawful}
use Rattle.hierarchy.specs.Flat.{Recurs, letter_of}
use Rattle.hierarchy.specs.Runs.{Endless}
use Rattle.monitor.specs.Automata.{Automaton, AllProper, Accepts, AllAccept}
use Rattle.monitor.specs.Product.{width, overflows, too_large, spread, product, laid}
use Rattle.monitor.specs.Piles.{GoodRun, widths, pile_too_large}
use Rattle.monitor.proofs.Products.{small, width_positive, laid_lawful}
use Rattle.theory.proofs.Running.{running}
use Rattle.piles.specs.OnePile.{Word, OneMonitor, PileGood, PileLarge, PileSizes, PileLawful, SameMeaning}
use Rattle.piles.proofs.Words.{word_below, accepts_below, word_above}

-- ---- one product

pub product_large : (m : Meaning) (a : Automaton) → (product m a).large ≡ overflows m a
product_large m a = by (overflows m a)
  where
    by : (t : Bool) → (cond t too_large (spread m a)).large ≡ t
    by true = refl
    by false = refl

pub product_spreads : (m : Meaning) (a : Automaton) → (product m a).large ≡ false → product m a ≡ spread m a
product_spreads m a e = cond-false (overflows m a) too_large (spread m a) (sym (product_large m a) ∙ e)

pub below_fits : (m : Meaning) (a : Automaton) → (product m a).large ≡ false → m.large ≡ false
below_fits m a e = (small m a (sym (product_large m a) ∙ e)).0

pub one_monitor : OneMonitor
one_monitor m law a proper fits letters =
    let some : 0 < m.structures = (law.sized (below_fits m a fits)).0 in
    let pos : 0 < width a = width_positive a proper.some in
    subst (λ (p : Meaning). Word p letters ↔ (Word m letters × Accepts a letters)) (sym (product_spreads m a fits)) (
      (λ w. (word_below m law some a pos letters w, accepts_below m law some a pos letters w)),
      (λ p. word_above m law some a pos letters p.0 p.1),
    )

-- ---- laws and words of a pile

pub pile_lawful : PileLawful
pile_lawful m law automata proper = laid_lawful m automata law proper

pub pile_words : (m : Meaning) → Lawful m → (automata : List Automaton) → AllProper automata → (laid automata m).large ≡ false
    → (letters : ℕ → ℕ) → Word (laid automata m) letters ↔ (Word m letters × AllAccept automata letters)
pile_words m law [] proper fits letters = ((λ w. (w, tt)), (λ p. p.0))
pile_words m law (a ∷ rest) proper fits letters =
    let top = one_monitor (laid rest m) (pile_lawful m law rest proper.1) a proper.0 fits letters in
    let below = pile_words m law rest proper.1 (below_fits (laid rest m) a fits) letters in (
      (λ w. let u = top.0 w in let d = below.0 u.0 in (d.0, (u.1, d.1))),
      (λ p. top.1 (below.1 (p.0, p.1.1), p.1.0)),
    )

pub pile_endless : (m : Meaning) → Lawful m → (automata : List Automaton) → AllProper automata → (laid automata m).large ≡ false
    → Endless (laid automata m) ↔ GoodRun m automata
pile_endless m law automata proper fits = (
  (λ e.
      let w = (pile_words m law automata proper fits (λ n. letter_of (laid automata m) 0 (e.run.state n))).0
      (record { run = e.run; often = e.often; reads = λ n. refl }) in
      record { run = w.0.run; often = w.0.often; accepted = subst (AllAccept automata) (λ i n. sym (w.0.reads n) i) w.1 }),
  (λ g.
      let w = (pile_words m law automata proper fits (λ n. letter_of m 0 (g.run.state n))).1
      (record { run = g.run; often = g.often; reads = λ n. refl }, g.accepted) in
      record { run = w.run; often = w.often }),
)

pub pile_good : PileGood
pile_good m law automata proper fits =
    let r = running (laid automata m) (pile_lawful m law automata proper) fits in
    let e = pile_endless m law automata proper fits in
    ((λ x. e.0 (r.0 x)), (λ g. r.1 (e.1 g)))

pub same_meaning : SameMeaning
same_meaning m n e = (subst Recurs e, subst Recurs (sym e))

-- ---- size of a pile

product_sizes : (m : Meaning) (a : Automaton) → (product m a).large ≡ false
    → ((product m a).structures ≡ m.structures * width a) × ((product m a).places ≡ m.places * width a)
product_sizes m a fits = (ap (λ (p : Meaning). p.structures) (product_spreads m a fits), ap (λ (p : Meaning). p.places) (product_spreads m a fits))

pub pile_sizes : PileSizes
pile_sizes m [] fits = (sym (mul-one m.structures), sym (mul-one m.places))
pile_sizes m (a ∷ rest) fits =
    let top = product_sizes (laid rest m) a fits in
    let below = pile_sizes m rest (below_fits (laid rest m) a fits) in (
      top.0 ∙ ap (λ (n : ℕ). n * width a) below.0 ∙ mul_assoc m.structures (widths rest) (width a),
      top.1 ∙ ap (λ (n : ℕ). n * width a) below.1 ∙ mul_assoc m.places (widths rest) (width a),
    )

bottom_fits : (m : Meaning) (automata : List Automaton) → (laid automata m).large ≡ false → m.large ≡ false
bottom_fits m [] fits = fits
bottom_fits m (a ∷ rest) fits = bottom_fits m rest (below_fits (laid rest m) a fits)

-- a pile that fits is lawful, so its sizes are at most 1,024
fits_by_formulas : (m : Meaning) → Lawful m → (automata : List Automaton) → AllProper automata → (laid automata m).large ≡ false
    → pile_too_large m automata ≡ false
fits_by_formulas m law automata proper fits =
    let sizes = pile_sizes m automata fits in
    let sized = (pile_lawful m law automata proper).sized fits in
    or_from m.large _ (bottom_fits m automata fits)
    (or_from (ltb 1024 (m.structures * widths automata)) (ltb 1024 (m.places * widths automata))
    (le-ltb _ _ (omega (arith, sizes.0, sized.1)))
    (le-ltb _ _ (omega (arith, sizes.1, sized.3))))

-- what the formulas say of a pile with one automaton more bounds the pile without it
size_below : (n w a : ℕ) → 0 < a → n * (w * a) ≤ 1024 → n * w ≤ 1024
size_below n w a pos h = omega (arith, mul-le (n * w) 1 (n * w) a (omega arith) pos, mul_assoc n w a, mul-one (n * w), h)

fits_over : (m : Meaning) (a : Automaton) → m.large ≡ false → m.structures * width a ≤ 1024 → m.places * width a ≤ 1024
    → overflows m a ≡ false
unfolding overflows
fits_over m a e s p =
    or_from m.large _ e (or_from (ltb 1024 (m.structures * width a)) (ltb 1024 (m.places * width a)) (le-ltb _ _ s) (le-ltb _ _ p))

formulas_fit : (m : Meaning) (automata : List Automaton) → AllProper automata → pile_too_large m automata ≡ false → (laid automata m).large ≡ false
formulas_fit m [] proper fits = (or_parts m.large _ fits).0
formulas_fit m (a ∷ rest) proper fits =
    let one = or_parts m.large _ fits in
    let two = or_parts (ltb 1024 (m.structures * (widths rest * width a))) _ one.1 in
    let s : m.structures * (widths rest * width a) ≤ 1024 = ltb-false _ _ two.0 in
    let p : m.places * (widths rest * width a) ≤ 1024 = ltb-false _ _ two.1 in
    let pos : 0 < width a = width_positive a proper.0.some in
    let below : (laid rest m).large ≡ false =
    formulas_fit m rest proper.1
    (or_from m.large _ one.0
    (or_from (ltb 1024 (m.structures * widths rest)) (ltb 1024 (m.places * widths rest))
    (le-ltb _ _ (size_below m.structures (widths rest) (width a) pos s))
    (le-ltb _ _ (size_below m.places (widths rest) (width a) pos p)))) in
    let sizes = pile_sizes m rest below in
    let s-above : (laid rest m).structures * width a ≡ m.structures * (widths rest * width a) =
    ap (λ (n : ℕ). n * width a) sizes.0 ∙ mul_assoc m.structures (widths rest) (width a) in
    let p-above : (laid rest m).places * width a ≡ m.places * (widths rest * width a) =
    ap (λ (n : ℕ). n * width a) sizes.1 ∙ mul_assoc m.places (widths rest) (width a) in
    product_large (laid rest m) a ∙ fits_over (laid rest m) a below (omega (arith, s, s-above)) (omega (arith, p, p-above))

same_test : (x y : Bool) → (x ≡ false → y ≡ false) → (y ≡ false → x ≡ false) → x ≡ y
same_test true true f g = refl
same_test true false f g = absurd (both_ways true (g refl) refl)
same_test false true f g = absurd (both_ways true (f refl) refl)
same_test false false f g = refl

pub pile_large : PileLarge
pile_large m law automata proper =
    same_test (laid automata m).large (pile_too_large m automata) (fits_by_formulas m law automata proper) (formulas_fit m automata proper)
