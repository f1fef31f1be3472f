-- What a hierarchy becomes with an automaton laid over it: the product, again a hierarchy.
-- Assumes nothing.
use Rattle.std.specs.Prelude.{ℕ, ◌+◌, ◌*◌, ◌/◌, ◌%◌, Bool, true, false, cond, ◌&&◌, ◌||◌, List, [], ◌∷◌, ◌==◌, nat_lt}
use Rattle.hierarchy.specs.Meaning.{Meaning, Kind, absent, node, box}
use Rattle.monitor.specs.Automata.{Automaton}

-- A number n below becomes n × width + 2 × q + c above, for each state q and each phase c.
-- Phase 0 waits for a mark below, phase 1 for an accepting state.
abbrev pub width : Automaton → ℕ
width a = 2 * a.states

abbrev pub state_of : Automaton → ℕ → ℕ
state_of a n = n % width a / 2

abbrev pub phase_of : Automaton → ℕ → ℕ
phase_of a n = n % width a % 2

-- the phase after c, as a node that is marked or not is left in a state that is accepting or not
abbrev pub next_phase_lem : ℕ → Bool → Bool → ℕ
next_phase_lem c marked accepting = cond (c == 0) (cond marked 1 0) (cond accepting 0 1)

-- from the number u above to the number w above, as a node of this letter and mark is left
unfoldable pub moves : Automaton → ℕ → Bool → ℕ → ℕ → Bool
moves a letter marked u w =
    a.follows (state_of a u) letter (state_of a w)
    && phase_of a w == next_phase_lem (phase_of a u) marked (a.accepting (state_of a u))

-- a node above is marked: its phase is 1 and its state is accepting
unfoldable pub marks : Automaton → ℕ → Bool
marks a u = phase_of a u == 1 && a.accepting (state_of a u)

-- the product is too large: what is below is, or a size would exceed 1,024
unfoldable pub overflows : Meaning → Automaton → Bool
overflows m a = m.large || (nat_lt 1024 (m.structures * width a) || nat_lt 1024 (m.places * width a))

abbrev pub too_large : Meaning
too_large = record {
  large = true;
  structures = 0;
  places = 0;
  place = λ _ _. absent;
  entry = λ _. 0;
  exits = λ _ _. false;
  letter = λ _ _. 0;
  mark = λ _ _. false;
  edge = λ _ _ _. false;
  leave = λ _ _ _ _. false;
}

-- what a place becomes; the inner structure keeps the state and phase of the box
abbrev pub kind_above : ℕ → ℕ → Kind → Kind
kind_above f k absent = absent
kind_above f k node = node
kind_above f k (box j) = box (j * f + k)

abbrev pub is_node : Kind → Bool
is_node absent = false
is_node node = true
is_node (box _) = false

-- what is asked of the structure that a box names; no of what is no box
abbrev pub at_inner : Kind → (ℕ → Bool) → Bool
at_inner absent t = false
at_inner node t = false
at_inner (box j) t = t j

-- The product, where it is not too large. An edge reads letter and mark of the node that is left, a leave those of the
-- exit, whose state and phase are meant.
abbrev pub spread : Meaning → Automaton → Meaning
spread m a =
    let f = width a in
    record {
      large = false;
      structures = m.structures * f;
      places = m.places * f;
      place = λ i u. kind_above f (u % f) (m.place (i / f) (u / f));
      entry = λ i. cond (nat_lt (i / f) m.structures) (m.entry (i / f) * f + i % f) 0;
      exits = λ i u. m.exits (i / f) (u / f);
      letter = λ i u. m.letter (i / f) (u / f);
      mark = λ i u. is_node (m.place (i / f) (u / f)) && marks a u;
      edge = λ i u w. m.edge (i / f) (u / f) (w / f) && moves a (m.letter (i / f) (u / f)) (m.mark (i / f) (u / f)) u w;
      leave = λ i b e w.
          m.leave (i / f) (b / f) (e / f) (w / f)
          && at_inner (m.place (i / f) (b / f)) (λ j. moves a (m.letter j (e / f)) (m.mark j (e / f)) e w);
    }

abbrev pub product : Meaning → Automaton → Meaning
product m a = cond (overflows m a) too_large (spread m a)

-- automata laid one upon another; the last one laid stands first
abbrev pub laid : List Automaton → Meaning → Meaning
laid [] m = m
laid (a ∷ rest) m = product (laid rest m) a
