-- Each size is tested.
use Rattle.std.proofs.Common.{◌≡◌, true, ◌&&◌, ltb, leb, length, sym, ◌∙◌, ap, arith}
use Rattle.std.proofs.lemmas.Grind.{common_steps}
use Rattle.wheel.specs.Meaning.{all_sized}
use Rattle.wheel.proofs.Sizes.{sized_is}
use Rattle.wheel.proofs.made.are_right.Goals as goal

pub returns-then-contains : goal.returns-then-contains
returns-then-contains c =
    let sizes = c.args.sizes.now in
    let count : (ltb 0 (length sizes) && leb (length sizes) 16) ≡ true = grind (arith, common_steps) in
    c.are_sized.ensures ∙ sized_is sizes ∙ sym (ap (λ t. t && all_sized sizes) count)
