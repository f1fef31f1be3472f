-- The sizes of a wheel, what wheel is made of given sizes, and when they are refused.
-- Assumes nothing.
use Rattle.std.specs.Prelude.{ℕ, cond, List, take, Ok, Err, Result}
use Rattle.hierarchy.specs.declared.refusal.Refusal.{Refusal}
use Rattle.hierarchy.specs.declared.refusal.Refusal.TheVariants.{WheelSizes}
use Rattle.hierarchy.specs.Meaning.{Lawful}
use Rattle.wheel.specs.Lawful.{wheel_lawful}
use Rattle.wheel.specs.Meaning.{sizes_right, wheel}
use Rattle.wheel.specs.declared.Wheel.{Wheel}

unfoldable pub sizes_of : Wheel → List ℕ
sizes_of w = take w.levels w.sizes

-- the sizes of a wheel that was made, or why there is none
abbrev pub sizes_told : Result Wheel Refusal → Result (List ℕ) Refusal
sizes_told (Ok w) = Ok (sizes_of w)
sizes_told (Err refusal) = Err refusal

abbrev pub made : List ℕ → Result (List ℕ) Refusal
made sizes = cond (sizes_right sizes) (Ok sizes) (Err WheelSizes)

pub made_lawful : (w : Wheel) → Lawful (wheel (sizes_of w))
unfolding sizes_of
made_lawful w = wheel_lawful (sizes_of w) w.right
