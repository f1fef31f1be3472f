-- The flat form read from inside is the flat form read from outside: states, transitions and looks agree.
-- Assumes nothing.
use Rattle.std.proofs.Common.{◌≡◌, ℕ, ◌<◌, true, List, [], ◌∷◌, ◌++◌, sym, refl, ap, ◌∙◌, subst, arith}
use Rattle.hierarchy.specs.Meaning.{Meaning, box, Lawful}
use Rattle.hierarchy.specs.Flat.{State, at, within, inner_of, last_structure, last_node, Enter, to_node, to_box, Step, by_edge, by_leave, inside, Reach}
use Rattle.theory.specs.Innermost.{ListState, Into, there, through, FlatState, Arrive, at_node, at_entry, Move, edge_inside, leave_box}
use Rattle.theory.specs.Innermost.{boxes_of, listed, nested, SameStates, FlatFormReadFromInside, InnermostLooks, ReachableAreFlat}
use Rattle.theory.proofs.Reaching.{reach→hops, node_there, box_there, box_reach}

-- ---- the states
abbrev state_of : ListState → State
state_of x = nested x.boxes x.last

abbrev put_in : ℕ → ListState → ListState
put_in b x = record { boxes = b ∷ x.boxes; last = x.last }

pub nested_listed : (s : State) → nested (boxes_of s) (last_node s) ≡ s
nested_listed (at n) = refl
nested_listed (within b s) = ap (within b) (nested_listed s)

pub listed_nested : (bs : List ℕ) (n : ℕ) → listed (nested bs n) ≡ record { boxes = bs; last = n }
listed_nested [] n = refl
listed_nested (b ∷ bs) n = ap (put_in b) (listed_nested bs n)

-- ---- from outside to inside
enter→arrive : {m : Meaning} {i w : ℕ} {t : State} → Enter m i w t → Arrive m i [] w (listed t)
enter→arrive (to_node e) = at_node e refl
enter→arrive (to_box e) = at_entry e refl

arrive_in_box : {m : Meaning} {k b w : ℕ} {bs : List ℕ} {t : ListState} → Arrive m k bs w t → Arrive m k (b ∷ bs) w (put_in b t)
arrive_in_box {b = b} (at_node e q) = at_node e (ap (put_in b) q)
arrive_in_box {b = b} (at_entry e q) = at_entry e (ap (put_in b) q)

move_in_box : {m : Meaning} {i b j : ℕ} {s t : ListState} → m.place i b ≡ box j → Move m j s t → Move m i (put_in b s) (put_in b t)
move_in_box c (edge_inside r e a) = edge_inside (through c r) e (arrive_in_box a)
move_in_box {b = b} c (leave_box q r l a) = leave_box (ap (λ bs. b ∷ bs) q) (through c r) l (arrive_in_box a)

pub step→move : {m : Meaning} {i : ℕ} {s t : State} → Step m i s t → Move m i (listed s) (listed t)
step→move (by_edge e y) = edge_inside there e (enter→arrive y)
step→move (by_leave l y) = leave_box refl there l (enter→arrive y)
step→move (inside c d) = move_in_box c (step→move d)

-- ---- from inside to outside
arrive→enter : {m : Meaning} {i w : ℕ} {t : ListState} → Arrive m i [] w t → Enter m i w (state_of t)
arrive→enter {m} {i} {w} (at_node e q) = subst (λ x. Enter m i w (state_of x)) (sym q) (to_node e)
arrive→enter {m} {i} {w} (at_entry e q) = subst (λ x. Enter m i w (state_of x)) (sym q) (to_box e)

-- what arrives behind a box arrives inside it
record InBox (m : Meaning) (k b : ℕ) (bs : List ℕ) (w : ℕ) (t : ListState) : Type 0 where
  inner : ListState
  arrives : Arrive m k bs w inner
  same : t ≡ put_in b inner

arrive_behind : {m : Meaning} {k b w : ℕ} {bs : List ℕ} {t : ListState} → Arrive m k (b ∷ bs) w t → InBox m k b bs w t
arrive_behind {w = w} {bs = bs} (at_node e q) = record { inner = record { boxes = bs; last = w }; arrives = at_node e refl; same = q }
arrive_behind {m} {w = w} {bs = bs} (at_entry {j} e q) =
    record { inner = record { boxes = bs ++ (w ∷ []); last = m.entry j }; arrives = at_entry e refl; same = q }

no_box_left : (b : ℕ) (bs : List ℕ) → [] ≡ bs ++ (b ∷ []) → ⊥
no_box_left b [] e = let z : ◌≡◌ {A = ℕ} 0 1 = cc in omega arith
no_box_left b (c ∷ bs) e = let z : ◌≡◌ {A = ℕ} 0 1 = cc in omega arith

step_in_box : {m : Meaning} {i b j : ℕ} {s : State} {x t : ListState} →
    m.place i b ≡ box j → t ≡ put_in b x → Step m j s (state_of x) → Step m i (within b s) (state_of t)
step_in_box {m} {i} {b} {s = s} c q d = subst (λ y. Step m i (within b s) (state_of y)) (sym q) (inside c d)

leave_last : {m : Meaning} (s : State) {i b w : ℕ} {t : ListState} →
    boxes_of s ≡ [] → m.leave i b (last_node s) w ≡ true → Arrive m i [] w t → Step m i (within b s) (state_of t)
leave_last (at n) p l a = by_leave l (arrive→enter a)
leave_last (within d s) p l a = absurd (let z : ◌≡◌ {A = ℕ} 0 1 = cc in omega arith)

-- a leave of the innermost of the boxes b and bs is one of b itself, or one inside b
leave_of_last : {m : Meaning} {i b c k w : ℕ} {t : ListState} (s : State) (bs : List ℕ) →
    b ∷ boxes_of s ≡ bs ++ (c ∷ []) → Into m i bs k → m.leave k c (last_node s) w ≡ true → Arrive m k bs w t →
    ((j : ℕ) (x : ListState) → Move m j (listed s) x → Step m j s (state_of x)) → Step m i (within b s) (state_of t)
leave_of_last {m} {i} {b} {c} {w = w} s [] q there l a rec =
    let f : c ≡ b = cc in
    let p : boxes_of s ≡ [] = cc in
    leave_last s p (subst (λ d. m.leave i d (last_node s) w ≡ true) f l) a
leave_of_last {m} {i} {b} {c} {t = t} s (d ∷ ds) q (through {j = j} f r) l a rec =
    let z = arrive_behind a in
    let q' : boxes_of s ≡ ds ++ (c ∷ []) = cc in
    let g : d ≡ b = cc in
    let f' : m.place i b ≡ box j = subst (λ x. m.place i x ≡ box j) g f in
    let same : t ≡ put_in b z.inner = subst (λ x. t ≡ put_in x z.inner) g z.same in
    step_in_box f' same (rec j z.inner (leave_box q' r l z.arrives))

pub move→step : {m : Meaning} (s : State) (i : ℕ) (t : ListState) → Move m i (listed s) t → Step m i s (state_of t)
move→step (at n) i t (edge_inside there e a) = by_edge e (arrive→enter a)
move→step (at n) i t (leave_box {bs} {b} q r l a) = absurd (no_box_left b bs q)
move→step (within b s) i t (edge_inside (through c r) e a) =
    let z = arrive_behind a in
    step_in_box c z.same (move→step s _ z.inner (edge_inside r e z.arrives))
move→step (within b s) i t (leave_box {bs} q r l a) = leave_of_last s bs q r l a (move→step s)

-- ---- the looks
pub into_last : {m : Meaning} {i k : ℕ} (s : State) → Into m i (boxes_of s) k → last_structure m i s ≡ k
into_last (at n) there = refl
into_last {m} (within b s) (through c r) = ap (λ x. last_structure m (inner_of x) s) c ∙ into_last s r

-- ---- reachable states
pub reach_flat : {m : Meaning} → Lawful m → (s : State) (i : ℕ) → i < m.structures → Reach m i s → FlatState m i (listed s)
reach_flat L (at n) i h p = record { structure = i; into = there; noded = node_there L (reach→hops L h p) }
reach_flat L (within b s) i h p =
    let r = reach→hops L h p in
    let c = box_there L r in
    let f = reach_flat L s c.0 (L.inner i b c.0 c.1).1 (box_reach L r c.1) in
    record { structure = f.structure; into = through c.1 f.into; noded = f.noded }

-- ---- the statements
pub same_states : SameStates
same_states = (nested_listed, λ x. listed_nested x.boxes x.last)

pub flat_form_read_from_inside : FlatFormReadFromInside
flat_form_read_from_inside m i s t = (step→move, λ d. subst (Step m i s) (nested_listed t) (move→step s i (listed t) d))

pub innermost_looks : InnermostLooks
innermost_looks m i k s r = into_last s r

pub reachable_are_flat : ReachableAreFlat
reachable_are_flat m L fits s p = reach_flat L s 0 (omega (arith, (L.sized fits).0)) p
