-- A place that is not reached and that the hops lead to, or all are reached.
use Rattle.std.proofs.Common.{◌≡◌, ℕ, ◌<◌, ◌≤◌, Bool, true, false, MatchOption, Some, None, Option, arith, rules, tests}
use Rattle.std.proofs.lemmas.Iterator.{first_from_Range}
use Rattle.guide.specs.Layout.{Table, look}
use Rattle.judge.specs.declared.table.Site.{Site}
use Rattle.judge.specs.Spread.{here, leads}
use Rattle.judge.specs.Nested.{Fresh}
use Rattle.judge.proofs.Told.{leads_inside}
use Rattle.judge.proofs.judged.Judged.fresh.Goals as goal

module _ (T : Table) (s : Site) (f : ℕ → Bool) where
  abbrev New : ℕ → Type 0
  New k = ((here T s k).reached ≡ false) × (f k ≡ true)

  abbrev Old : ℕ → Type 0
  Old k = f k ≡ true → (here T s k).reached ≡ true

  found : (r : Option ℕ) → ((k : ℕ) → f k ≡ true → k < s.places) →
      MatchOption r ((k : ℕ) → 0 ≤ k → k < s.places → Old k) (λ i. (0 ≤ i) × (i < s.places) × New i × ((k : ℕ) → 0 ≤ k → k < i → Old k)) → Fresh f T s r
  found (Some w) b h = (h.1, h.2.0, h.2.1)
  found None b h = λ w t. h w (omega arith) (b w t) t

pub returns : goal.returns
returns g c =
    let m = g.B.Hierarchy.meaning c.args.self.now.h.now in
    let L = g.B.Hierarchy.lawful c.args.self.now.h.now in
    let T = look c.args.guide.now c.args.site.places in
    let s = c.args.site in
    let f = leads m s.structure c.args.hops in
    found T s f _ (λ k t. omega (arith, leads_inside m L s.structure c.args.hops k t, c.requires))
    (first_from_Range _ _ _ _ (New T s f) (Old T s f) c.find.ensures.ran (λ x q k. search (rules, tests)) (λ x q k. search (rules, tests)))
