-- What the loop keeps.
use Rattle.std.proofs.Common.{◌≡◌, ℕ, ◌<◌, false}
use Rattle.guide.specs.Layout.{look}
use Rattle.judge.specs.Known.{OnlyUp, known}
use Rattle.judge.proofs.judged.Judged.forget.Given as goal

abbrev pub invariant-loop-i : goal.invariant-loop-i
invariant-loop-i g l =
    let T = look l.guide l.self.places in
    OnlyUp (look l.initial.guide l.self.places) T × ((j : ℕ) → j < l.i → known T j ≡ false)
