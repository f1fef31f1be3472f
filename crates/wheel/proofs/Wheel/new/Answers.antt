-- Right sizes are copied.
use Rattle.std.proofs.Common.{ℕ, cond, List, Ok, Err, Result, ap, ◌∙◌}
use Rattle.hierarchy.specs.declared.refusal.Refusal.{Refusal}
use Rattle.hierarchy.specs.declared.refusal.Refusal.TheVariants.{WheelSizes}
use Rattle.wheel.specs.Made.{sizes_of}
use Rattle.wheel.proofs.Wheel.new.Goals as goal

pub returns : goal.returns
unfolding sizes_of
returns c =
    let sizes = c.args.sizes.now in
    let ok : List ℕ → Result (List ℕ) Refusal = λ l. Ok l in
    ap ok c.copied-sizes.ensures.sizes ∙ ap (λ t. cond t (ok sizes) (Err WheelSizes)) c.if-not-are_right.ensures
