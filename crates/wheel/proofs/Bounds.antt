-- The numbers of a wheel are small: its levels, its sizes and what they bound.
-- Assumes nothing.
use Rattle.std.proofs.Common.{◌≡◌, ℕ, ◌<◌, ◌≤◌, true, ◌||◌, ⊎_elim, arith}
use Rattle.std.proofs.lemmas.Bool.{or_cases}
use Rattle.wheel.specs.Meaning.{size_of, is_entry_lem, is_item_lem, is_box_lem, largest}
use Rattle.wheel.specs.Shapes.{entry_is, item_is, box_is, size_below_largest}
use Rattle.wheel.specs.Made.{sizes_of}
use Rattle.wheel.specs.declared.Wheel.{Wheel}
use Rattle.wheel.proofs.Sizes.{Right, right}

module _ (w : Wheel) where
  made_right : Right (sizes_of w)
  unfolding sizes_of
  made_right = right (sizes_of w) w.right

  pub largest_small : largest (sizes_of w) ≤ 1022
  largest_small = made_right.small

  pub size_small : (k : ℕ) → size_of (sizes_of w) k ≤ 1022
  size_small k = omega (arith, size_below_largest (sizes_of w) k, made_right.small)

  pub item_level : (i p : ℕ) → is_item_lem (sizes_of w) i p ≡ true → i < 16
  item_level i p e = omega (arith, (item_is (sizes_of w) i p e).0, made_right.few)

  pub box_level : (i p : ℕ) → is_box_lem (sizes_of w) i p ≡ true → i < 16
  box_level i p e = item_level i p (box_is (sizes_of w) i p e).0

  pub next_small : (i p : ℕ) → (is_entry_lem (sizes_of w) i p || is_item_lem (sizes_of w) i p) ≡ true → p ≤ 1022
  next_small i p e =
      ⊎_elim
      (λ f. omega (arith, (entry_is (sizes_of w) i p f).1))
      (λ f. omega (arith, (item_is (sizes_of w) i p f).2, size_below_largest (sizes_of w) i, made_right.small))
      (or_cases (is_entry_lem (sizes_of w) i p) _ e)
