-- What the loop keeps.
use Rattle.std.proofs.Common.{◌≡◌, ℕ, ◌<◌}
use Rattle.guide.specs.Layout.{look, blank}
use Rattle.judge.specs.Tables.{Others}
use Rattle.judge.proofs.table.Site.clear.Given as goal

abbrev pub invariant-loop-u : goal.invariant-loop-u
invariant-loop-u l =
    let T = look l.guide l.self.places in
    Others (look l.initial.guide l.self.places) T l.self.lane l.self.row × ((k : ℕ) → k < l.u → T l.self.lane l.self.row k ≡ blank)
