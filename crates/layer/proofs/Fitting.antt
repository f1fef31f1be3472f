-- A pile that is not too large is its monitors, spread out; more than ten monitors are too large.
-- Assumes nothing.
use Rattle.std.proofs.Common.{◌≡◌, ◌^◌, ◌<◌, ◌≤◌, Bool, true, false, ◌&&◌, cond, not, Option, Some, None, MatchOption, List, [], ◌∷◌, length, sym, refl, ap, ◌∙◌, pow-suc, arith}
use Rattle.std.proofs.Math.Bool.{and-true, and-false}
use lib.Pow.{pow-lt}
use Rattle.std.proofs.lemmas.Nat.{mul-le}
use Rattle.std.proofs.lemmas.Bool.{both_ways, cond-false}
use Rattle.hierarchy.specs.Meaning.{Meaning, Lawful}
use Rattle.monitor.specs.Automata.{Automaton}
use Rattle.monitor.specs.Product.{width, overflows, too_large, spread, product}
use Rattle.monitor.specs.Tables.{automaton_of}
use Rattle.monitor.specs.declared.Monitor.{Monitor}
use Rattle.monitor.proofs.Products.{small}
use Rattle.layer.specs.Piles.{pile, pile_lawful, spread_all}

-- what is not too large is the product, spread out
record Fitting (under : Meaning) (a : Automaton) : Type 0 where
  is : product under a ≡ spread under a
  under_fits : under.large ≡ false

fitting : (under : Meaning) (a : Automaton) → (product under a).large ≡ false → Fitting under a
fitting under a fits =
    let fit = by (overflows under a) fits in
    record { is = cond-false (overflows under a) too_large (spread under a) fit; under_fits = (small under a fit).0 }
  where
    by : (t : Bool) → (cond t too_large (spread under a)).large ≡ false → t ≡ false
    by true f = absurd (both_ways true f refl)
    by false f = refl

pub fits_all : (monitors : List Monitor) (below : Meaning) → (pile monitors below).large ≡ false → pile monitors below ≡ spread_all monitors below
fits_all [] below fits = refl
fits_all (m ∷ rest) below fits =
    let f = fitting (pile rest below) (automaton_of m) fits in
    f.is ∙ ap (λ b. spread b (automaton_of m)) (fits_all rest below f.under_fits)

-- what is known of an option twice, by cases
pub of_both : {A G P R : Type 0} {Q S : A → Type 0} (o : Option A) → MatchOption o P Q → MatchOption o R S → (P → R → G) → ((s : A) → Q s → S s → G) → G
of_both None p r none some = none p r
of_both (Some s) q r none some = some s q r

-- a yes or no of the pile: that of the monitors spread out, if they fit
pub answer : (monitors : List Monitor) (below : Meaning) (q : Meaning → Bool) → ((pile monitors below).large ≡ true → false ≡ q (pile monitors below)) → (q (spread_all monitors below) && not (pile monitors below).large) ≡ q (pile monitors below)
answer monitors below q none = by (pile monitors below).large refl where
  by : (t : Bool) → (pile monitors below).large ≡ t → (q (spread_all monitors below) && not t) ≡ q (pile monitors below)
  by true e = and-false _ ∙ none e
  by false e = and-true _ ∙ sym (ap q (fits_all monitors below e))

-- each monitor at least doubles the sizes, so that more than ten are too large
doubles : (below : Meaning) → Lawful below → (monitors : List Monitor) → (pile monitors below).large ≡ false → 2 ^ length monitors ≤ (pile monitors below).structures
doubles below law [] fits = (law.sized fits).0
doubles below law (m ∷ rest) fits =
    let f = fitting (pile rest below) (automaton_of m) fits in
    let more = mul-le (2 ^ length rest) 2 (pile rest below).structures (width (automaton_of m)) (doubles below law rest f.under_fits) (omega (arith, m.some)) in
    omega (arith, more, pow-suc 2 (length rest), ap (λ x. x.structures) f.is)

pub many_large : (below : Meaning) → Lawful below → (monitors : List Monitor) → 10 < length monitors → (pile monitors below).large ≡ true
many_large below law monitors many = by (pile monitors below).large refl where
  by : (t : Bool) → (pile monitors below).large ≡ t → t ≡ true
  by true e = refl
  by false e = absurd (omega (arith, pow-lt many, doubles below law monitors e, ((pile_lawful monitors law).sized e).1))
