-- Paths in general, moves into a place, and what one place can be: the lemmas that all other files of this crate share.
-- Assumes nothing.
use Rattle.std.proofs.Common.{◌≡◌, ℕ, sym, refl, ap, subst, arith}
use Rattle.hierarchy.specs.Meaning.{Meaning, Kind, absent, node, box}
use Rattle.hierarchy.specs.Flat.{State, at, within, inner_of, Marked, Enter, to_node, to_box, Step, inside, Star, stop, step, Plus}

-- ---- paths
pub append : {X : Type 0} {R : X → X → Type 0} {a b c : X} → Star R a b → Star R b c → Star R a c
append stop q = q
append (step r p) q = step r (append p q)

pub snoc : {X : Type 0} {R : X → X → Type 0} {a b c : X} → Star R a b → R b c → Star R a c
snoc p r = append p (step r stop)

pub plus_path : {X : Type 0} {R : X → X → Type 0} {a c : X} → Plus R a c → Star R a c
plus_path p = step p.first p.rest

pub plus_snoc : {X : Type 0} {R : X → X → Type 0} {a b c : X} → Star R a b → R b c → Plus R a c
plus_snoc {c = c} stop r = record { next = c; first = r; rest = stop }
plus_snoc (step {b = b} q p) r = record { next = b; first = q; rest = snoc p r }

pub star_map : {X : Type 0} {R Q : X → X → Type 0} {a b : X} → ((x y : X) → R x y → Q x y) → Star R a b → Star Q a b
star_map f stop = stop
star_map f (step r p) = step (f _ _ r) (star_map f p)

-- ---- what a place is
pub same_box : {k : Kind} {i j : ℕ} → k ≡ box i → k ≡ box j → i ≡ j
same_box e f = cc

pub node_not_box : {k : Kind} {j : ℕ} → k ≡ node → k ≡ box j → ⊥
node_not_box e f = let z : ◌≡◌ {A = ℕ} 0 1 = cc in omega arith

-- ---- moves into a place
pub enter_once : {m : Meaning} {i w : ℕ} {s t : State} → Enter m i w s → Enter m i w t → s ≡ t
enter_once (to_node e) (to_node f) = refl
enter_once (to_node e) (to_box f) = absurd (node_not_box e f)
enter_once (to_box e) (to_node f) = absurd (node_not_box f e)
enter_once {m} {i} {w} (to_box e) (to_box f) = ap (λ j. within w (at (m.entry j))) (same_box e f)

pub enter_present : {m : Meaning} (i w : ℕ) → (m.place i w ≡ absent → ⊥) → (t : State) × Enter m i w t
enter_present {m} i w present = by_kind (m.place i w) refl
  where
    by_kind : (k : Kind) → m.place i w ≡ k → (t : State) × Enter m i w t
    by_kind absent e = absurd (present e)
    by_kind node e = (at w, to_node e)
    by_kind (box j) e = (within w (at (m.entry j)), to_box e)

-- ---- inside a box
pub path_inside : {m : Meaning} {i b j : ℕ} {s t : State} → m.place i b ≡ box j → Star (Step m j) s t → Star (Step m i) (within b s) (within b t)
path_inside c stop = stop
path_inside c (step r p) = step (inside c r) (path_inside c p)

pub marked_inside : (m : Meaning) (i b : ℕ) (s : State) {j : ℕ} → m.place i b ≡ box j → Marked m j s → Marked m i (within b s)
marked_inside m i b s c k = subst (λ x. Marked m (inner_of x) s) (sym c) k

pub marked_below : (m : Meaning) (i b : ℕ) (s : State) {j : ℕ} → m.place i b ≡ box j → Marked m i (within b s) → Marked m j s
marked_below m i b s c k = subst (λ x. Marked m (inner_of x) s) c k
