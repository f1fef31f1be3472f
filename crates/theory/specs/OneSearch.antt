-- Why one search of each structure suffices: the statements about reaching, passing, recurring and endless runs.
-- Each holds of every lawful meaning that is not too large. Assumes nothing.
use Rattle.std.specs.Prelude.{◌≡◌, ℕ, suc, ◌<◌, true, false, ◌↔◌}
use Rattle.hierarchy.specs.Meaning.{Meaning, Lawful}
use Rattle.hierarchy.specs.Flat.{State, at, within, Reach, Reaches, Recurs}
use Rattle.hierarchy.specs.Runs.{Endless}
use Rattle.theory.specs.Hops.{PassMarked, HopReach, HopPass, MarkedRound, MarkedNode}

-- the flat states of structure i that are reachable are those that its own hops give
abbrev pub Reaching : Type 0
Reaching = (m : Meaning) → Lawful m → m.large ≡ false → (i : ℕ) → i < m.structures → (s : State) → Reach m i s ↔ HopReach m i (m.entry i) s

-- an exit is reached by a path that meets a mark exactly if the hops say so
abbrev pub Passing : Type 0
Passing = (m : Meaning) → Lawful m → m.large ≡ false → (j e : ℕ) → j < m.structures → PassMarked m j e ↔ ((m.exits j e ≡ true) × HopPass m j e)

-- a marked state is reachable exactly if hops reach a marked node in a reached structure
abbrev pub Marking : Type 0
Marking = (m : Meaning) → Lawful m → m.large ≡ false → Reaches m ↔ MarkedNode m

-- a reachable marked state reaches itself exactly if a reached structure has a marked round of hops
abbrev pub Recurring : Type 0
Recurring = (m : Meaning) → Lawful m → m.large ≡ false → Recurs m ↔ MarkedRound m

-- a reachable marked state reaches itself exactly if an endless run is marked without end
abbrev pub Running : Type 0
Running = (m : Meaning) → Lawful m → m.large ≡ false → Recurs m ↔ Endless m

-- how many boxes a state has
abbrev pub boxes : State → ℕ
boxes (at n) = 0
boxes (within b s) = suc (boxes s)

-- a reachable state has fewer boxes than there are structures
abbrev pub Shallow : Type 0
Shallow = (m : Meaning) → Lawful m → m.large ≡ false → (s : State) → Reach m 0 s → boxes s < m.structures
