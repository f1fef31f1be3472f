-- A place that is reached and not done, or none is left.
use Rattle.std.proofs.Common.{◌≡◌, ℕ, ◌<◌, ◌≤◌, true, false, MatchOption, Some, None, Option, arith, rules, tests}
use Rattle.std.proofs.lemmas.Iterator.{first_from_Range}
use Rattle.guide.specs.Layout.{Table, look}
use Rattle.judge.specs.declared.table.Site.{Site}
use Rattle.judge.specs.Spread.{here}
use Rattle.judge.specs.Search.{Picked}
use Rattle.judge.proofs.Looks.{reached_in}
use Rattle.judge.proofs.spread.pick.Goals as goal

module _ (T : Table) (s : Site) where
  abbrev Waits : ℕ → Type 0
  Waits k = ((here T s k).reached ≡ true) × ((here T s k).done ≡ false)

  abbrev Rests : ℕ → Type 0
  Rests k = (here T s k).reached ≡ true → (here T s k).done ≡ true

  picked : (r : Option ℕ) → ((u : ℕ) → (here T s u).reached ≡ true → u < s.places) →
      MatchOption r ((k : ℕ) → 0 ≤ k → k < s.places → Rests k) (λ i. (0 ≤ i) × (i < s.places) × Waits i × ((k : ℕ) → 0 ≤ k → k < i → Rests k)) → Picked T s r
  picked (Some v) f h = record { inside = h.1; reached = h.2.0; waiting = h.2.1 }
  picked None f h = λ u t. h u (omega arith) (f u t) t

pub returns : goal.returns
returns c =
    let T = look c.args.guide.now c.args.site.places in
    let s = c.args.site in
    picked T s _ (reached_in c.args.guide.now s.places s.lane s.row)
    (first_from_Range _ _ _ _ (Waits T s) (Rests T s) c.find.ensures.ran (λ x q k. search (rules, tests)) (λ x q k. search (rules, tests)))
