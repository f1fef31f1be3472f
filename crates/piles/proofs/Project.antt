-- The flat form of a product projects onto the one below: boxes and node by division, state and phase by remainder.
-- Assumes nothing.
use Rattle.std.proofs.Common.{◌≡◌, ℕ, ◌+◌, ◌*◌, ◌/◌, ◌%◌, ◌<◌, Bool, true, false, ◌&&◌, eqb, sym, refl, ap, ◌∙◌, subst, ap₂, mod-lt}
use native.Mathlib.Nat.{zero-div}
use lib.Arith.{digits_div, digits_mod}
use Rattle.std.proofs.lemmas.Bool.{and_parts, both_ways, lt-ltb}
use Rattle.hierarchy.specs.Meaning.{Meaning, Lawful, Kind, absent, node, box}
use Rattle.hierarchy.specs.Flat.{State, at, within, inner_of, last_structure, last_node, letter_of, Enter, to_node, to_box, Step, by_edge, by_leave, inside}
use Rattle.monitor.specs.Automata.{Automaton}
use Rattle.monitor.proofs.Products.{kind_node, kind_box}
use Rattle.monitor.specs.Product.{width, next_phase_lem, moves, kind_above, at_inner, spread}

-- the state below
abbrev pub down : ℕ → State → State
down f (at n) = at (n / f)
down f (within b s) = within (b / f) (down f s)

-- the mark of a state's last node
abbrev pub mark_of : Meaning → ℕ → State → Bool
mark_of m i s = m.mark (last_structure m i s) (last_node s)

pub last_node_down : (f : ℕ) (s : State) → last_node (down f s) ≡ last_node s / f
last_node_down f (at n) = refl
last_node_down f (within b s) = last_node_down f s

inner_down : (f k : ℕ) (s : Kind) → k < f → inner_of (kind_above f k s) / f ≡ inner_of s
inner_down f k absent h = zero-div f
inner_down f k node h = zero-div f
inner_down f k (box i) h = digits_div i h

at_inner_of : (s : Kind) (t : ℕ → Bool) → at_inner s t ≡ true → t (inner_of s) ≡ true
at_inner_of absent t e = absurd (both_ways false refl e)
at_inner_of node t e = absurd (both_ways false refl e)
at_inner_of (box j) t e = e

-- only state and phase of the two numbers count
pub moves_by_tag : (a : Automaton) (letter : ℕ) (marked : Bool) (u v w x : ℕ) → u % width a ≡ v % width a → w % width a ≡ x % width a
    → moves a letter marked u w ≡ moves a letter marked v x
unfolding moves
moves_by_tag a letter marked u v w x e g =
    ap₂ (λ (s t : ℕ). a.follows (s / 2) letter (t / 2) && eqb (t % 2) (next_phase_lem (s % 2) marked (a.accepting (s / 2)))) e g

module _ (m : Meaning) (law : Lawful m) (a : Automaton) (pos : 0 < width a) where
  pub last_structure_down : (i : ℕ) (s : State) → last_structure (spread m a) i s / width a ≡ last_structure m (i / width a) (down (width a) s)
  last_structure_down i (at n) = refl
  last_structure_down i (within b s) =
      last_structure_down (inner_of ((spread m a).place i b)) s
      ∙ ap (λ (k : ℕ). last_structure m k (down (width a) s)) (inner_down (width a) (b % width a) (m.place (i / width a) (b / width a)) (mod-lt b pos))

  pub entry_above : (j t : ℕ) → j < m.structures → t < width a → (spread m a).entry (j * width a + t) ≡ m.entry j * width a + t
  entry_above j t small h =
      let d : (j * width a + t) / width a ≡ j = digits_div j h in
      let r : (j * width a + t) % width a ≡ t = digits_mod j h in
      rw (d, r, lt-ltb j m.structures small) refl

  enter_down : {i w : ℕ} {t : State} → Enter (spread m a) i w t
      → Enter m (i / width a) (w / width a) (down (width a) t) × (last_node t % width a ≡ w % width a)
  enter_down {i} {w} (to_node e) = (to_node (kind_node (width a) (w % width a) _ e), refl)
  enter_down {i} {w} (to_box {j} e) =
      let b = kind_box (width a) (w % width a) j (m.place (i / width a) (w / width a)) e in
      let k : ℕ = b.0 in
      let r : w % width a < width a = mod-lt w pos in
      let is : (spread m a).entry j ≡ m.entry k * width a + w % width a =
      ap (spread m a).entry b.2 ∙ entry_above k (w % width a) (law.inner (i / width a) (w / width a) k b.1).1 r in
      let d : (spread m a).entry j / width a ≡ m.entry k = ap (λ (n : ℕ). n / width a) is ∙ digits_div (m.entry k) r in (
        subst (λ (n : ℕ). Enter m (i / width a) (w / width a) (within (w / width a) (at n))) (sym d) (to_box b.1),
        ap (λ (n : ℕ). n % width a) is ∙ digits_mod (m.entry k) r,
      )

  -- the move of the automaton that a step from s to t of the flat form of structure i makes
  abbrev pub Moves : ℕ → State → State → Type 0
  Moves i s t = moves a (letter_of m i (down (width a) s)) (mark_of m i (down (width a) s)) (last_node s) (last_node t) ≡ true

  pub step_down : {i : ℕ} {s t : State} → Step (spread m a) i s t → Step m (i / width a) (down (width a) s) (down (width a) t) × Moves (i / width a) s t
  step_down (by_edge {i} {p} {w} {t} h enters) =
      let both = and_parts (m.edge (i / width a) (p / width a) (w / width a)) _ h in
      let d = enter_down enters in
      (by_edge both.0 d.0, moves_by_tag a _ _ p p (last_node t) w refl d.1 ∙ both.1)
  step_down (by_leave {i} {b} {e} {w} {t} h enters) =
      let both = and_parts (m.leave (i / width a) (b / width a) (e / width a) (w / width a)) _ h in
      let d = enter_down enters in (
        by_leave both.0 d.0,
        moves_by_tag a _ _ e e (last_node t) w refl d.1 ∙ at_inner_of (m.place (i / width a) (b / width a)) _ both.1,
      )
  step_down (inside {i} {b} {j} {s} {t} e st) =
      let below = step_down st in
      let k = kind_box (width a) (b % width a) j (m.place (i / width a) (b / width a)) e in
      let j-down : j / width a ≡ k.0 = ap (λ (n : ℕ). n / width a) k.2 ∙ digits_div k.0 (mod-lt b pos) in
      let same : j / width a ≡ inner_of (m.place (i / width a) (b / width a)) = j-down ∙ sym (ap inner_of k.1) in (
        inside k.1 (subst (λ (n : ℕ). Step m n (down (width a) s) (down (width a) t)) j-down below.0),
        subst (λ (n : ℕ). Moves n s t) same below.1,
      )
