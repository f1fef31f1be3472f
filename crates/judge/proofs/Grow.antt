-- A row in which places are reached. Assumes nothing.
use Rattle.std.proofs.lemmas.Grind.{common_steps}
use Rattle.std.proofs.Common.{◌&&◌, ◌≡◌, ℕ, ◌<◌, Bool, true, false, ◌⊎◌, sym, ap, ◌∙◌, arith}
use Rattle.std.proofs.lemmas.Bool.{cond-true}
use Rattle.hierarchy.specs.Meaning.{Meaning}
use Rattle.guide.specs.declared.Lane.{Lane}
use Rattle.guide.specs.declared.Lane.TheVariants.{Plain}
use Rattle.guide.specs.declared.Entry.{Entry}
use Rattle.judge.specs.declared.table.Site.{Site}
use Rattle.guide.specs.Layout.{Table}
use Rattle.judge.specs.Tables.{Others}
use Rattle.judge.specs.declared.spread.Along.{Along}
use Rattle.judge.specs.Spread.{Apart, here, or_entry, Adds, Adding}
use Rattle.judge.specs.Follows.{Via, along_edge, along_exit, Expands}

pub others_trans : {T T' T'' : Table} {c : Lane} {r : ℕ} → Others T T' c r → Others T' T'' c r → Others T T'' c r
others_trans f g c' r' u' n = g c' r' u' n ∙ f c' r' u' n

pub others_sym : {T T' : Table} {c : Lane} {r : ℕ} → Others T T' c r → Others T' T c r
others_sym f c' r' u' n = sym (f c' r' u' n)

-- a written row does not change the hops
pub via_move : (m : Meaning) (s : Site) {T T' : Table} {u e w : ℕ} → Apart m s → Others T T' s.lane s.row → Via m T s.structure u e w → Via m T' s.structure u e w
via_move m s A f (along_edge c h) = along_edge c h
via_move m s {u = u} {e = e} A f (along_exit {j} p t l) = along_exit p (ap (λ y. m.exits j e && y.reached) (f Plain j e (λ z. A u j p z.1)) ∙ t) l

pub or_reached : (y x : Entry) → x.reached ≡ true → (or_entry y x).reached ≡ true
or_reached y x h1 = grind (arith, common_steps)

module _ (s : Site) (x : Entry) (f : ℕ → Bool) where
  pub adding_all : {T T' : Table} (n : ℕ) → ((u : ℕ) → f u ≡ true → u < n) → Adding s x f n T T' → Adds s x f T T'
  adding_all n h1 h2 = grind (arith, common_steps)

  -- what is added is reached
  pub adds_all : {T T' : Table} → x.reached ≡ true → Adds s x f T T' → (w : ℕ) → f w ≡ true → (here T' s w).reached ≡ true
  adds_all {T} {T'} h A w t = ap (λ y. y.reached) (A.each w ∙ cond-true (f w) _ _ t) ∙ or_reached (here T s w) x h

  -- as it was, or new
  pub adds_each : {T T' : Table} → Adds s x f T T' → (u : ℕ) → (here T' s u ≡ here T s u) ⊎ (((here T s u).reached ≡ false) × (here T' s u ≡ x) × (f u ≡ true))
  adds_each h1 u = grind (arith, common_steps)

-- what is reached stays as it is
module _ (m : Meaning) (s : Site) (a : Along) (v d : ℕ) where
  pub expands_kept : {T T' : Table} → Expands m s a v d T T' → (u : ℕ) → (here T s u).reached ≡ true → here T' s u ≡ here T s u
  expands_kept h1 u h2 = grind (arith, common_steps)

  pub expands_reached : {T T' : Table} → Expands m s a v d T T' → (u : ℕ) → (here T s u).reached ≡ true → (here T' s u).reached ≡ true
  expands_reached G u h = ap (λ x. x.reached) (expands_kept G u h) ∙ h
