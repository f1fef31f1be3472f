-- What right sizes are, and which of them is the largest.
-- Assumes nothing.
use Rattle.std.proofs.Common.{◌≡◌, ℕ, ◌≤◌, max, Option, None, Some, true, ◌&&◌, ltb, leb, List, [], ◌∷◌, length, fold, refl, arith}
use Rattle.std.proofs.lemmas.Bool.{and_parts, ltb-true, leb-true}
use Rattle.std.specs.List.{list_all, reduce}
use Rattle.std.specs.Option.{option_map, unwrap_or}
use Rattle.wheel.specs.Meaning.{all_sized, sizes_right, largest}
use Rattle.wheel.specs.Shapes.{largest_small}

pub sized_is : (sizes : List ℕ) → list_all (λ s. ltb 0 s && leb s 1022) sizes ≡ all_sized sizes
sized_is [] = refl
sized_is (s ∷ rest) = rw (sized_is rest)

largest_from : (most : ℕ) (sizes : List ℕ) → fold max most sizes ≡ max most (largest sizes)
largest_from most [] = omega arith
largest_from most (s ∷ rest) = omega (arith, largest_from (max most s) rest)

pub most_is : (sizes : List ℕ) (most : Option ℕ) → option_map (λ x. x) most ≡ reduce max sizes → unwrap_or most 0 ≡ largest sizes
most_is [] None e = refl
most_is [] (Some m) e = cc
most_is (s ∷ rest) None e = cc
most_is (s ∷ rest) (Some m) e = let top : m ≡ fold max s rest = cc in omega (arith, largest_from s rest)

pub record Right (sizes : List ℕ) : Type 0 where
  pub some : 1 ≤ length sizes
  pub few : length sizes ≤ 16
  pub small : largest sizes ≤ 1022

pub right : (sizes : List ℕ) → sizes_right sizes ≡ true → Right sizes
right sizes e =
    let parts = and_parts (ltb 0 (length sizes) && leb (length sizes) 16) _ e in
    let count = and_parts (ltb 0 (length sizes)) _ parts.0 in
    record {
      some = omega (arith, ltb-true 0 (length sizes) count.0);
      few = leb-true (length sizes) 16 count.1;
      small = largest_small sizes parts.1;
    }
