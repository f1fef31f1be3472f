-- The size of a monitor over a hierarchy, by the size that is told below.
-- Assumes nothing.
use Rattle.std.proofs.Common.{◌≡◌, ℕ, ◌*◌, Bool, true, false, cond, ◌||◌, ltb, None, refl}
use Rattle.hierarchy.specs.Meaning.{Meaning}
use Rattle.hierarchy.specs.Answers.{size_told, fits}
use Rattle.hierarchy.proofs.Told.{fits_is}
use Rattle.monitor.specs.Automata.{Automaton}
use Rattle.monitor.specs.Product.{width, overflows, too_large, spread, product}

module _ (m : Meaning) (a : Automaton) where
  pub told_large : m.large ≡ true → None ≡ size_told (product m a)
  unfolding overflows
  told_large e = rw e

  -- the sizes below, multiplied by the width, are the product's
  pub told_above : (s p f : ℕ) → fits s p ≡ size_told m → f ≡ width a → cond (ltb 1024 (s * f) || ltb 1024 (p * f)) None (fits (s * f) (p * f)) ≡ size_told (product m a)
  unfolding overflows
  told_above s p f told ef =
      let is = fits_is m s p told in
      rw (is.1, is.2, ef, is.0) (by (ltb 1024 (m.structures * width a) || ltb 1024 (m.places * width a)))
    where
      by : (t : Bool) → cond t None (fits (m.structures * width a) (m.places * width a)) ≡ size_told (cond t too_large (spread m a))
      by true = refl
      by false = refl
