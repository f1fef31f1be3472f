-- What following the hops of one place writes into a row, where the rows say which passes there are.
-- Assumes nothing.
use Rattle.std.specs.Prelude.{◌≡◌, ℕ, ◌<◌, Bool, true, false, ◌&&◌, ◌||◌, ◌⊎◌}
use Rattle.hierarchy.specs.Meaning.{Meaning, box}
use Rattle.guide.specs.declared.Entry.{Entry}
use Rattle.guide.specs.declared.Lane.TheVariants.{Plain, Marked}
use Rattle.guide.specs.Layout.{Table}
use Rattle.judge.specs.declared.spread.Along.{Along}
use Rattle.judge.specs.declared.spread.Along.TheVariants.{All, Marks}
use Rattle.judge.specs.declared.table.Site.{Site}
use Rattle.judge.specs.Tables.{Others}
use Rattle.judge.specs.Spread.{here, child}
use Rattle.judge.specs.Seeds.{seed_entry}

-- the entry of a place that is reached from v
abbrev pub entry_of : Along → ℕ → ℕ → ℕ → Entry
entry_of All v e d = child v e d
entry_of Marks v e d = seed_entry v e d

-- whether the edges from a node with that mark count
abbrev pub counts : Along → Bool → Bool
counts All b = true
counts Marks b = b

-- whether the inner entry of structure j reaches the exit e, or reaches it after a mark, or at one
abbrev pub met : Meaning → Table → Along → ℕ → ℕ → Bool
met m T All j e = (T Plain j e).reached
met m T Marks j e = (T Marked j e).reached || (m.mark j e && (T Plain j e).reached)

abbrev pub passes : Meaning → Table → Along → ℕ → ℕ → Bool
passes m T a j e = m.exits j e && met m T a j e

-- a hop from u to w of structure i that counts; by the exit e if u is a box
pub data Follows (m : Meaning) (T : Table) (a : Along) (i u e w : ℕ) : Type 0 where
  along_edge : counts a (m.mark i u) ≡ true → m.edge i u w ≡ true → Follows m T a i u e w
  along_exit : {j : ℕ} → m.place i u ≡ box j → passes m T a j e ≡ true → m.leave i u e w ≡ true → Follows m T a i u e w

-- a hop of any kind; from a box, by an exit that the table has as reached in the inner row
abbrev pub Via : Meaning → Table → ℕ → ℕ → ℕ → ℕ → Type 0
Via m T i u e w = Follows m T All i u e w

-- u is reached now, from v, at the depth d
pub record Come (m : Meaning) (s : Site) (a : Along) (v d : ℕ) (T : Table) (u : ℕ) (x : Entry) : Type 0 where
  pub by : ℕ
  pub new : (here T s u).reached ≡ false
  pub is : x ≡ entry_of a v by d
  pub hop : Follows m T a s.structure v by u

-- the hops of v that count, by the exits below n if it is a box, are followed
pub record Expanding (m : Meaning) (s : Site) (a : Along) (v d n : ℕ) (T T' : Table) : Type 0 where
  pub others : Others T T' s.lane s.row
  pub each : (u : ℕ) → (here T' s u ≡ here T s u) ⊎ Come m s a v d T u (here T' s u)
  pub below : (e w : ℕ) → e < n → Follows m T a s.structure v e w → (here T' s w).reached ≡ true

-- all of them are followed
pub record Expands (m : Meaning) (s : Site) (a : Along) (v d : ℕ) (T T' : Table) : Type 0 where
  pub others : Others T T' s.lane s.row
  pub each : (u : ℕ) → (here T' s u ≡ here T s u) ⊎ Come m s a v d T u (here T' s u)
  pub all : (e w : ℕ) → Follows m T a s.structure v e w → (here T' s w).reached ≡ true
