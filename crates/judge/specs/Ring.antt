-- The ring: a marked hop from a place and hops back to it, and the way there from structure 0.
-- Assumes nothing.
use Rattle.std.specs.Prelude.{◌≡◌, ℕ, ◌+◌, ◌<◌, true, ◌≢◌, List, Some, None, Option}
use Rattle.hierarchy.specs.Meaning.{Meaning}
use Rattle.theory.specs.Hops.{HopMarked, Hops, MarkedRound}
use Rattle.guide.specs.declared.Entry.{Entry}
use Rattle.guide.specs.declared.GuideRecord.{GuideRecord}
use Rattle.guide.specs.declared.Lane.TheVariants.{Plain, Up}
use Rattle.guide.specs.Layout.{Table, aim_of_lem}
use Rattle.judge.specs.declared.table.Site.{Site}
use Rattle.judge.specs.declared.ring.Ring.{Ring}
use Rattle.judge.specs.Rows.{Filled, from_one}
use Rattle.judge.specs.Known.{known}

-- where the ring of a structure is searched: in the row behind the structures' rows
abbrev pub ring_site : ℕ → ℕ → ℕ → Site
ring_site S P i = record { structure = i; places = P; lane = Plain; row = S }

-- a marked hop from u, and hops back to it
pub record Back (m : Meaning) (i u : ℕ) : Type 0 where
  pub w : ℕ
  pub go : HopMarked m i u w
  pub on : Hops m i w u

-- a row that has the ring of the place u of structure i
pub record RingRow (m : Meaning) (i u : ℕ) (row : ℕ → Entry) : Type 0 where
  pub filled : Filled m i (from_one m i u 1) (m.places + 1) row
  pub back : (row u).reached ≡ true

-- the place u of structure i is reached, and its ring is in the row behind the structures' rows
pub record Ringed (m : Meaning) (T : Table) (i u : ℕ) : Type 0 where
  pub come : (T Plain i u).reached ≡ true
  pub row : RingRow m i u (T Plain m.structures)

-- a place of structure i that has a ring
abbrev pub RingIn : Meaning → ℕ → Table → Option ℕ → Type 0
RingIn m i T (Some u) = Ringed m T i u
RingIn m i T None = (u : ℕ) → Hops m i (m.entry i) u → Back m i u → ⊥

-- a ring in a known structure
abbrev pub RingAny : Meaning → Table → Option Ring → Type 0
RingAny m T (Some x) = (x.home < m.structures) × (known T x.home ≡ true) × Ringed m T x.home x.start
RingAny m T None = MarkedRound m → ⊥

-- one aim is set, and no other
pub record Aimed (g g' : List GuideRecord) (P r n : ℕ) : Type 0 where
  pub here : aim_of_lem g' P r ≡ n
  pub rest : (r' : ℕ) → r' ≢ r → aim_of_lem g' P r' ≡ aim_of_lem g P r'

-- each known structure but structure 0 became known from a known one that comes before it
abbrev pub Falls : ℕ → Table → Type 0
Falls S T = (j : ℕ) → 0 < j → j < S → known T j ≡ true → ((T Up j 0).from < j) × (known T (T Up j 0).from ≡ true)

-- the aims lead from structure i to home, each through the box by which the next structure became known
pub data Pointed (T : Table) (aim : ℕ → ℕ) (home : ℕ) : ℕ → Type 0 where
  at_home : {i : ℕ} → i ≡ home → Pointed T aim home i
  to_inner : {i j : ℕ} → i < j → known T j ≡ true → (T Up j 0).from ≡ i → (T Up j 0).via ≡ aim i → Pointed T aim home j → Pointed T aim home i

-- the aims lead from structure 0 to where the ring starts
pub record Points (T : Table) (aim : ℕ → ℕ) (x : Ring) : Type 0 where
  pub start : aim x.home ≡ x.start
  pub way : Pointed T aim x.home 0
