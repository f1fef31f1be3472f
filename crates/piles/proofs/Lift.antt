-- Each step below that the automaton permits lifts to a step of the product, from every state above.
-- Assumes nothing.
use Rattle.std.proofs.Common.{◌≡◌, ℕ, ◌+◌, ◌*◌, ◌/◌, ◌%◌, ◌<◌, true, refl, ap, ◌∙◌, subst, ap₂, mod-lt, arith}
use lib.Arith.{digits_div, digits_mod}
use Rattle.std.proofs.lemmas.Bool.{and_from}
use Rattle.hierarchy.specs.Meaning.{Meaning, Lawful, box}
use Rattle.hierarchy.specs.Flat.{State, at, within, inner_of, last_node, letter_of, Enter, to_node, to_box, Step, by_edge, by_leave, inside}
use Rattle.monitor.specs.Automata.{Automaton}
use Rattle.monitor.specs.Product.{width, moves, kind_above, spread}
use Rattle.piles.proofs.Project.{down, mark_of, moves_by_tag, entry_above}

-- a step above from x, to a state over t with state and phase of u
pub record Above (m : Meaning) (a : Automaton) (k : ℕ) (x t : State) (u : ℕ) : Type 0 where
  pub to : State
  pub steps : Step (spread m a) k x to
  pub over : down (width a) to ≡ t
  pub tagged : last_node to % width a ≡ u % width a

record EnterAbove (m : Meaning) (a : Automaton) (k w : ℕ) (t : State) (u : ℕ) : Type 0 where
  to : State
  enters : Enter (spread m a) k (w * width a + u % width a) to
  over : down (width a) to ≡ t
  tagged : last_node to % width a ≡ u % width a

module _ (m : Meaning) (law : Lawful m) (a : Automaton) (pos : 0 < width a) where
  place_above : (i b k c : ℕ) → k / width a ≡ i → c / width a ≡ b → (spread m a).place k c ≡ kind_above (width a) (c % width a) (m.place i b)
  place_above i b k c ek ec = ap₂ (λ (x y : ℕ). kind_above (width a) (c % width a) (m.place x y)) ek ec

  enter_above : {i w : ℕ} {t : State} → Enter m i w t → (k u : ℕ) → k / width a ≡ i → EnterAbove m a k w t u
  enter_above {i} {w} (to_node e) k u ek =
      let r : u % width a < width a = mod-lt u pos in
      record {
        to = at (w * width a + u % width a);
        enters = to_node (place_above i w k (w * width a + u % width a) ek (digits_div w r) ∙ ap (kind_above (width a) _) e);
        over = ap at (digits_div w r);
        tagged = digits_mod w r;
      }
  enter_above {i} {w} (to_box {j} e) k u ek =
      let r : u % width a < width a = mod-lt u pos in
      let v : ℕ = w * width a + u % width a in
      let tag : v % width a ≡ u % width a = digits_mod w r in
      let is : (spread m a).place k v ≡ box (j * width a + v % width a) = place_above i w k v ek (digits_div w r) ∙ ap (kind_above (width a) _) e in
      let entry : (spread m a).entry (j * width a + v % width a) ≡ m.entry j * width a + v % width a =
      entry_above m law a pos j (v % width a) (law.inner i w j e).1 (mod-lt v pos) in
      record {
        to = within v (at ((spread m a).entry (j * width a + v % width a)));
        enters = to_box is;
        over = ap₂ (λ (x y : ℕ). within x (at y)) (digits_div w r) (ap (λ (n : ℕ). n / width a) entry ∙ digits_div (m.entry j) (mod-lt v pos));
        tagged = ap (λ (n : ℕ). n % width a) entry ∙ digits_mod (m.entry j) (mod-lt v pos) ∙ tag;
      }

  edge_above : (i p k n w u : ℕ) → k / width a ≡ i → n / width a ≡ p → m.edge i p w ≡ true
      → moves a (m.letter i p) (m.mark i p) n u ≡ true → (spread m a).edge k n (w * width a + u % width a) ≡ true
  edge_above i p k n w u ek en h f =
      let r : u % width a < width a = mod-lt u pos in
      let v : ℕ = w * width a + u % width a in
      and_from (m.edge (k / width a) (n / width a) (v / width a)) _
      (rw (ek, en, digits_div w r) h)
      (moves_by_tag a _ _ n n v u refl (digits_mod w r) ∙ rw (ek, en) f)

  leave_above : (i b j e k c n w u : ℕ) → k / width a ≡ i → c / width a ≡ b → n / width a ≡ e → m.place i b ≡ box j
      → m.leave i b e w ≡ true → moves a (m.letter j e) (m.mark j e) n u ≡ true → (spread m a).leave k c n (w * width a + u % width a) ≡ true
  leave_above i b j e k c n w u ek ec en is h f =
      let r : u % width a < width a = mod-lt u pos in
      let v : ℕ = w * width a + u % width a in
      and_from (m.leave (k / width a) (c / width a) (n / width a) (v / width a)) _
      (rw (ek, ec, en, digits_div w r) h)
      (rw (ek, ec, en, is) (moves_by_tag a (m.letter j e) (m.mark j e) n n v u refl (digits_mod w r) ∙ f))

  pub step_above : {i : ℕ} {s t : State} → Step m i s t → (k : ℕ) (x : State) (u : ℕ) → k / width a ≡ i → down (width a) x ≡ s
      → moves a (letter_of m i s) (mark_of m i s) (last_node x) u ≡ true → Above m a k x t u
  step_above (by_edge {i} {p} {w} h enters) k (at n) u ek es f =
      let up = enter_above enters k u ek in
      let en : n / width a ≡ p = cc in
      record { to = up.to; steps = by_edge (edge_above i p k n w u ek en h f) up.enters; over = up.over; tagged = up.tagged }
  step_above (by_edge {i} {p} {w} h enters) k (within b x) u ek es f = let z : ◌≡◌ {A = ℕ} 0 1 = cc in absurd (omega arith)
  step_above (by_leave {i} {b} {e} {w} h enters) k (at n) u ek es f = let z : ◌≡◌ {A = ℕ} 0 1 = cc in absurd (omega arith)
  step_above (by_leave {i} {b} {e} {w} h enters) k (within c (at n)) u ek es f =
      let up = enter_above enters k u ek in
      let left = law.leave_from i b e w h in
      let ec : c / width a ≡ b = cc in
      let en : n / width a ≡ e = cc in
      let same : inner_of (m.place i b) ≡ left.0 = ap inner_of left.1 in
      let permits = subst (λ (j : ℕ). moves a (m.letter j e) (m.mark j e) n u ≡ true) same f in
      record {
        to = up.to;
        steps = by_leave (leave_above i b left.0 e k c n w u ek ec en left.1 h permits) up.enters;
        over = up.over;
        tagged = up.tagged;
      }
  step_above (by_leave {i} {b} {e} {w} h enters) k (within c (within d x)) u ek es f = let z : ◌≡◌ {A = ℕ} 0 1 = cc in absurd (omega arith)
  step_above (inside {i} {b} {j} {s} {t} e st) k (at n) u ek es f = let z : ◌≡◌ {A = ℕ} 0 1 = cc in absurd (omega arith)
  step_above (inside {i} {b} {j} {s} {t} e st) k (within c x) u ek es f =
      let ec : c / width a ≡ b = cc in
      let ex : down (width a) x ≡ s = cc in
      let same : inner_of (m.place i b) ≡ j = ap inner_of e in
      let permits = subst (λ (n : ℕ). moves a (letter_of m n s) (mark_of m n s) (last_node x) u ≡ true) same f in
      let up = step_above st (j * width a + c % width a) x u (digits_div j (mod-lt c pos)) ex permits in
      record {
        to = within c up.to;
        steps = inside (place_above i b k c ek ec ∙ ap (kind_above (width a) _) e) up.steps;
        over = ap₂ within ec up.over;
        tagged = up.tagged;
      }
