-- What the loop keeps.
use Rattle.std.proofs.Common.{◌≡◌, ℕ, ◌<◌, true}
use Rattle.guide.specs.Layout.{look}
use Rattle.guide.specs.declared.Lane.TheVariants.{Plain}
use Rattle.judge.specs.Spread.{here}
use Rattle.judge.proofs.judged.Judged.fresh_leave.Given as goal

abbrev pub invariant-loop-by : goal.invariant-loop-by
invariant-loop-by g l =
    let m = g.B.Hierarchy.meaning l.self.h.now in
    let T = look l.guide l.site.places in
    (e w : ℕ) → e < l.by → m.exits l.inner e ≡ true → (T Plain l.inner e).reached ≡ true → m.leave l.site.structure l.v e w ≡ true → (here T l.site w).reached ≡ true
