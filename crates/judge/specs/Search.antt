-- What a search of one row keeps, turn by turn, and what it has made of the row in the end.
-- Assumes nothing.
use Rattle.std.specs.Prelude.{◌≡◌, ℕ, zero, suc, ◌+◌, ◌<◌, ◌≤◌, Bool, true, false, cond, Some, None, Option}
use Rattle.hierarchy.specs.Meaning.{Meaning}
use Rattle.guide.specs.Layout.{Table}
use Rattle.judge.specs.declared.table.Site.{Site}
use Rattle.judge.specs.Tables.{Others, Put}
use Rattle.judge.specs.declared.spread.Along.TheVariants.{All}
use Rattle.judge.specs.Spread.{here, finished}
use Rattle.judge.specs.Follows.{Via, Expands}

-- reached, and still to be expanded
pub record Open (T : Table) (s : Site) (u : ℕ) : Type 0 where
  pub inside : u < s.places
  pub reached : (here T s u).reached ≡ true
  pub waiting : (here T s u).done ≡ false

abbrev pub NothingOpen : Table → Site → Type 0
NothingOpen T s = (u : ℕ) → (here T s u).reached ≡ true → (here T s u).done ≡ true

abbrev pub Picked : Table → Site → Option ℕ → Type 0
Picked T s (Some v) = Open T s v
Picked T s None = NothingOpen T s

-- one turn: v is done, and its hops are followed
pub record Turned (m : Meaning) (s : Site) (v : ℕ) (T T' : Table) : Type 0 where
  pub mid : Table
  pub marks : Put T mid s.lane s.row v (finished (here T s v))
  pub follows : Expands m s All v ((here mid s v).depth + 1) mid T'

-- how many of the first n numbers f leaves out
abbrev pub missing : (ℕ → Bool) → ℕ → ℕ
missing f zero = 0
missing f (suc n) = cond (f n) 0 1 + missing f n

-- how many of the first n are not done
abbrev pub undone : Table → Site → ℕ → ℕ
undone T s n = missing (λ k. (here T s k).done) n

-- no place is deeper than k allows for, each place still to be done leaving room for one more
abbrev pub Ranked : ℕ → Site → Table → Type 0
Ranked k s T = (u : ℕ) → (here T s u).reached ≡ true → (here T s u).depth + undone T s s.places + cond (here T s u).done 1 0 ≤ k

-- why a place is reached: it was before; or it has a parent one less deep, and a hop from there
pub data Origin (m : Meaning) (s : Site) (T T' : Table) (u : ℕ) : Type 0 where
  old : (here T s u).reached ≡ true → Origin m s T T' u
  new : {p e : ℕ} → (here T' s u).from ≡ p → (here T' s u).via ≡ e → (here T' s u).seed ≡ false → (here T' s p).reached ≡ true → (here T' s u).depth ≡ (here T' s p).depth + 1 →
      Via m T s.structure p e u → Origin m s T T' u

-- what a search has made of the row so far
pub record Spreads (m : Meaning) (s : Site) (T T' : Table) : Type 0 where
  pub others : Others T T' s.lane s.row
  pub kept : (u : ℕ) → (here T s u).reached ≡ true → finished (here T' s u) ≡ finished (here T s u)
  pub each : (u : ℕ) → (here T' s u).reached ≡ true → Origin m s T T' u
  pub ranked : (k : ℕ) → Ranked k s T → Ranked k s T'

-- what a search keeps true of the row
pub record Orderly (m : Meaning) (s : Site) (T : Table) : Type 0 where
  pub deep : Ranked (s.places + s.places) s T
  pub done : (u : ℕ) → (here T s u).done ≡ true → (here T s u).reached ≡ true
  pub closed : (u e w : ℕ) → (here T s u).done ≡ true → Via m T s.structure u e w → (here T s w).reached ≡ true

-- every hop from a reached place leads to a reached place
abbrev pub Closed : Meaning → Site → Table → Type 0
Closed m s T = (u e w : ℕ) → (here T s u).reached ≡ true → Via m T s.structure u e w → (here T s w).reached ≡ true
