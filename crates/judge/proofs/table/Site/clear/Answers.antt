-- A cleared row is blank, past its end too.
use Rattle.std.proofs.Common.{◌≡◌, ℕ, ◌<◌, ◌≤◌, ◌⊎◌, inl, inr, arith}
use Rattle.std.proofs.lemmas.Bool.{cases_lt}
use Rattle.guide.specs.Layout.{look, blank}
use Rattle.judge.proofs.Looks.{look_out}
use Rattle.judge.proofs.table.Site.clear.Goals as goal

pub returns : goal.returns
returns c = record { others = c.loop-u.invariant.0; blank = λ u. go u (cases_lt u c.args.self.places) }
  where
    go : (u : ℕ) → (u < c.args.self.places) ⊎ (c.args.self.places ≤ u) → look c.loop-u.guide c.args.self.places c.args.self.lane c.args.self.row u ≡ blank
    go u (inl h) = c.loop-u.invariant.1 u (omega (arith, c.loop-u-test.false))
    go u (inr h) = look_out _ _ _ _ u h
