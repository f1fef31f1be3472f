-- The words of a product are the words below that the automaton accepts.
-- Assumes nothing.
use Rattle.std.proofs.Common.{◌≡◌, ℕ, zero, suc, ◌+◌, ◌*◌, ◌/◌, ◌%◌, ◌<◌, Bool, true, ◌&&◌, eqb, sym, refl, ap, ◌∙◌, subst, ap₂, mod-lt, mod-eq_of_lt, arith}
use native.Mathlib.Nat.{zero-div, zero-mod}
use lib.Arith.{digits_div, digits_mod}
use Rattle.std.proofs.lemmas.Bool.{and_parts, and_from, eqb-true, eq-eqb, lt-ltb}
use Rattle.hierarchy.specs.Meaning.{Meaning, Lawful}
use Rattle.hierarchy.specs.Flat.{State, at, last_structure, last_node, letter_of, Step, initial}
use Rattle.hierarchy.specs.Runs.{Often, Run}
use Rattle.monitor.specs.Automata.{Automaton, Accepts}
use Rattle.monitor.specs.Product.{width, state_of, phase_of, next_phase_lem, moves, marks, is_node, spread}
use Rattle.piles.specs.OnePile.{Word}
use Rattle.piles.proofs.Project.{down, mark_of, moves_by_tag, last_node_down, last_structure_down, step_down}
use Rattle.piles.proofs.Lift.{Above, step_above}
use Rattle.piles.proofs.Nodes.{run_ends_in_node}
use Rattle.piles.proofs.Phases.{marked_below, marked_above, next_phase_small}

-- ---- what a move and a mark say of states and phases

moves_follow : (a : Automaton) (letter : ℕ) (marked : Bool) (u w : ℕ) → moves a letter marked u w ≡ true
    → (a.follows (state_of a u) letter (state_of a w) ≡ true) × (phase_of a w ≡ next_phase_lem (phase_of a u) marked (a.accepting (state_of a u)))
unfolding moves
moves_follow a letter marked u w h =
    let both = and_parts (a.follows (state_of a u) letter (state_of a w)) _ h in
    (both.0, eqb-true _ _ both.1)

moves_from : (a : Automaton) (letter : ℕ) (marked : Bool) (u w : ℕ) → a.follows (state_of a u) letter (state_of a w) ≡ true
    → phase_of a w ≡ next_phase_lem (phase_of a u) marked (a.accepting (state_of a u)) → moves a letter marked u w ≡ true
unfolding moves
moves_from a letter marked u w h e = and_from (a.follows (state_of a u) letter (state_of a w)) _ h (eq-eqb _ _ e)

marks_both : (a : Automaton) (u : ℕ) → marks a u ≡ (eqb (phase_of a u) 1 && a.accepting (state_of a u))
unfolding marks
marks_both a u = refl

marks_by_tag : (a : Automaton) (u v : ℕ) → u % width a ≡ v % width a → marks a u ≡ marks a v
unfolding marks
marks_by_tag a u v e = ap (λ (t : ℕ). eqb (t % 2) 1 && a.accepting (t / 2)) e

-- ---- states above and below, from structure 0

module _ (m : Meaning) (law : Lawful m) (some : 0 < m.structures) (a : Automaton) (pos : 0 < width a) where
  entry_starts : (spread m a).entry 0 ≡ m.entry 0 * width a + 0
  entry_starts = rw (zero-div (width a), zero-mod (width a), lt-ltb 0 m.structures some) refl

  pub initial_down : down (width a) (initial (spread m a) 0) ≡ initial m 0
  initial_down = ap at (ap (λ (n : ℕ). n / width a) entry_starts ∙ digits_div (m.entry 0) pos)

  initial_tag : last_node (initial (spread m a) 0) % width a ≡ 0
  initial_tag = ap (λ (n : ℕ). n % width a) entry_starts ∙ digits_mod (m.entry 0) pos

  structure_down : (s : State) → last_structure (spread m a) 0 s / width a ≡ last_structure m 0 (down (width a) s)
  structure_down s = last_structure_down m law a pos 0 s ∙ ap (λ (i : ℕ). last_structure m i (down (width a) s)) (zero-div (width a))

  letter_down : (s : State) → letter_of (spread m a) 0 s ≡ letter_of m 0 (down (width a) s)
  letter_down s = ap₂ m.letter (structure_down s) (sym (last_node_down (width a) s))

  mark_down : (s : State)
      → mark_of (spread m a) 0 s ≡ (is_node (m.place (last_structure m 0 (down (width a) s)) (last_node (down (width a) s))) && marks a (last_node s))
  mark_down s = ap₂ (λ (i n : ℕ). is_node (m.place i n) && marks a (last_node s)) (structure_down s) (sym (last_node_down (width a) s))

  pub top_step_down : {s t : State} → Step (spread m a) 0 s t
      → Step m 0 (down (width a) s) (down (width a) t)
      × (moves a (letter_of m 0 (down (width a) s)) (mark_of m 0 (down (width a) s)) (last_node s) (last_node t) ≡ true)
  top_step_down {s} {t} st =
      subst (λ (i : ℕ).
      Step m i (down (width a) s) (down (width a) t)
      × (moves a (letter_of m i (down (width a) s)) (mark_of m i (down (width a) s)) (last_node s) (last_node t) ≡ true))
      (zero-div (width a)) (step_down m law a pos st)

-- ---- from above to below

module _
    (m : Meaning) (law : Lawful m) (some : 0 < m.structures) (a : Automaton) (pos : 0 < width a) (letters : ℕ → ℕ)
    (word : Word (spread m a) letters)
  where
    abbrev above : ℕ → State
    above n = word.run.state n

    abbrev number : ℕ → ℕ
    number n = last_node (above n)

    run_below : Run m
    run_below = record {
      state = λ n. down (width a) (above n);
      begins = ap (down (width a)) word.run.begins ∙ initial_down m law some a pos;
      moves = λ n. (top_step_down m law some a pos (word.run.moves n)).0;
    }

    reads_below : (n : ℕ) → letter_of m 0 (down (width a) (above n)) ≡ letters n
    reads_below n = sym (letter_down m law some a pos (above n)) ∙ word.reads n

    follows_below : (n : ℕ)
        → (a.follows (state_of a (number n)) (letter_of m 0 (down (width a) (above n))) (state_of a (number (suc n))) ≡ true)
        × (phase_of a (number (suc n)) ≡ next_phase_lem (phase_of a (number n)) (mark_of m 0 (down (width a) (above n))) (a.accepting (state_of a (number n))))
    follows_below n = moves_follow a _ _ (number n) (number (suc n)) (top_step_down m law some a pos (word.run.moves n)).1

    often_both : Often (λ n. (eqb (phase_of a (number n)) 1 && a.accepting (state_of a (number n))) ≡ true)
    often_both n =
        let k : ℕ = (word.often n).0 in
        let seen = and_parts _ (marks a (number k)) (sym (mark_down m law some a pos (above k)) ∙ (word.often n).2) in
        (k, (word.often n).1, sym (marks_both a (number k)) ∙ seen.1)

    pub word_below : Word m letters
    unfolding run_below
    word_below = record {
      run = run_below;
      often = marked_below (λ n. phase_of a (number n)) (λ n. mark_of m 0 (down (width a) (above n))) (λ n. a.accepting (state_of a (number n)))
          (λ n. omega arith) (λ n. (follows_below n).1) often_both;
      reads = reads_below;
    }

    pub accepts_below : Accepts a letters
    accepts_below = record {
      state = λ n. state_of a (number n);
      below = λ n. let r : number n % width a < width a = mod-lt (number n) pos in omega (arith, r);
      begins = ap (λ (t : ℕ). t / 2) (ap (λ (s : State). last_node s % width a) word.run.begins ∙ initial_tag m law some a pos);
      moves = λ n. subst (λ (l : ℕ). a.follows (state_of a (number n)) l (state_of a (number (suc n))) ≡ true) (reads_below n) (follows_below n).0;
      often = λ n. ((often_both n).0, (often_both n).1, (and_parts _ _ (often_both n).2).1);
    }

-- ---- from below to above

module _
    (m : Meaning) (law : Lawful m) (some : 0 < m.structures) (a : Automaton) (pos : 0 < width a) (letters : ℕ → ℕ)
    (word : Word m letters) (accepts : Accepts a letters)
  where
    abbrev below : ℕ → State
    below n = word.run.state n

    abbrev q : ℕ → ℕ
    q n = accepts.state n

    abbrev phase : ℕ → ℕ
    phase zero = 0
    phase (suc n) = next_phase_lem (phase n) (mark_of m 0 (below n)) (a.accepting (q n))

    phase_small : (n : ℕ) → phase n < 2
    phase_small zero = omega arith
    phase_small (suc n) = next_phase_small (phase n) _ _ (phase_small n)

    -- state and phase as one number
    abbrev tag : ℕ → ℕ
    tag n = 2 * q n + phase n

    tag_small : (n : ℕ) → tag n % width a ≡ tag n
    tag_small n = mod-eq_of_lt (omega (arith, accepts.below n, phase_small n))

    tag_state : (n : ℕ) → state_of a (tag n) ≡ q n
    tag_state n = ap (λ (t : ℕ). t / 2) (tag_small n) ∙ omega (arith, phase_small n)

    tag_phase : (n : ℕ) → phase_of a (tag n) ≡ phase n
    tag_phase n = ap (λ (t : ℕ). t % 2) (tag_small n) ∙ omega (arith, phase_small n)

    -- a state over the n-th state below, with the n-th state and phase of the automaton
    abbrev Over : ℕ → Type 0
    Over n = (x : State) × (down (width a) x ≡ below n) × (last_node x % width a ≡ tag n % width a)

    tag_moves : (n : ℕ) → moves a (letter_of m 0 (below n)) (mark_of m 0 (below n)) (tag n) (tag (suc n)) ≡ true
    tag_moves n =
        moves_from a (letter_of m 0 (below n)) (mark_of m 0 (below n)) (tag n) (tag (suc n))
        (rw (tag_state n, tag_state (suc n), word.reads n) (accepts.moves n))
        (rw (tag_state n, tag_phase n) (tag_phase (suc n)))

    climb_next : (n : ℕ) (o : Over n) → Above m a 0 o.0 (below (suc n)) (tag (suc n))
    climb_next n o =
        step_above m law a pos (word.run.moves n) 0 o.0 (tag (suc n)) (zero-div (width a)) o.1
        (moves_by_tag a _ _ (last_node o.0) (tag n) (tag (suc n)) (tag (suc n)) o.2 refl ∙ tag_moves n)

    climb : (n : ℕ) → Over n
    climb zero = (
      initial (spread m a) 0,
      initial_down m law some a pos ∙ sym word.run.begins,
      initial_tag m law some a pos ∙ sym (tag_small 0 ∙ omega (arith, accepts.begins)),
    )
    climb (suc n) = let y = climb_next n (climb n) in (y.to, y.over, y.tagged)

    run_above : Run (spread m a)
    unfolding climb
    run_above = record {
      state = λ n. (climb n).0;
      begins = refl;
      moves = λ n. (climb_next n (climb n)).steps;
    }

    mark_above : (k : ℕ) → (eqb (phase k) 1 && a.accepting (q k)) ≡ true → mark_of (spread m a) 0 (climb k).0 ≡ true
    mark_above k h =
        let x : State = (climb k).0 in
        mark_down m law some a pos x
        ∙ and_from (is_node (m.place (last_structure m 0 (down (width a) x)) (last_node (down (width a) x)))) (marks a (last_node x))
        (ap (λ (s : State). is_node (m.place (last_structure m 0 s) (last_node s))) (climb k).1 ∙ ap is_node (run_ends_in_node m law some word.run k))
        (marks_by_tag a (last_node x) (tag k) (climb k).2 ∙ marks_both a (tag k) ∙ rw (tag_state k, tag_phase k) h)

    pub word_above : Word (spread m a) letters
    unfolding run_above
    word_above = record {
      run = run_above;
      often = λ n.
          let b = marked_above phase (λ k. mark_of m 0 (below k)) (λ k. a.accepting (q k)) phase_small (λ k. refl) word.often accepts.often n in
          (b.0, b.1, mark_above b.0 b.2);
      reads = λ n. letter_down m law some a pos (climb n).0 ∙ ap (letter_of m 0) (climb n).1 ∙ word.reads n;
    }
