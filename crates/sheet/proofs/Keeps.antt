-- An edit of one structure that only grows what the laws ask for keeps a sheet sound.
use Rattle.std.proofs.Common.{◌≡◌, ℕ, zero, suc, ◌<◌, Bool, true, false, ◌&&◌, eqb, ◌≢◌, ◌⊎◌, List, [], ◌∷◌, ◌++◌, length, set, Some, None, Option, sym, refl, ap, ◌∙◌, subst, inl, inr, ⊎_elim, arith}
use mathlib.Core.Logic.{∥∥₁_map}
use Rattle.std.specs.List.{slice_get}
use Rattle.std.proofs.lemmas.List.{length-replicate, get_or-replicate, length-set, length_push, get_or-set_same, get_or-set_other}
use Rattle.std.proofs.lemmas.Option.{slice_get-get_or}
use Rattle.std.proofs.lemmas.Bool.{cases_eq, cases_Bool, eqb-true, and_parts, and_from, cond-true, cond-false, ltb-true, lt-ltb, true≢false, false≢true}
use Rattle.sheet.specs.declared.Spot.{Spot}
use Rattle.sheet.specs.declared.Spot.TheVariants.{Node, Box}
use Rattle.sheet.specs.Sheet.{Structure, Sheet, nothing, at, present, node?, box?, exit?, inner}
use Rattle.sheet.specs.Changes.{but, but2, but3, with_edge_lem, with_place_lem, with_spot_lem, with_leave, fresh}
use Rattle.sheet.specs.Edits.{begun}
use Rattle.sheet.specs.Laws.{Sound, later, edge_stands, leave_stands}

pub record Grows (s : Sheet) (i : ℕ) (r : Structure) : Type 0 where
  pub nodes : (p : ℕ) → node? (slice_get (at s i).places p) ≡ true → node? (slice_get r.places p) ≡ true
  pub exits : (p : ℕ) → exit? (slice_get (at s i).places p) ≡ true → exit? (slice_get r.places p) ≡ true
  pub order : (p : ℕ) → later (length s) i (slice_get r.places p) ≡ true
  pub edges : (p w : ℕ) → r.edge p w ≡ true → edge_stands r p w ≡ true
  pub leaves : (b e w : ℕ) → r.leave b e w ≡ true → leave_stands s r b e w ≡ true

-- a fact of every structure of the sheet with structure i written
pub at_each : (s : Sheet) (i : ℕ) (r : Structure) (P : ℕ → Structure → Type 0) → i < length s → P i r → ((k : ℕ) → P k (at s k)) → (k : ℕ) → P k (at (set s i r) k)
at_each s i r P h here there k = ⊎_elim
    (λ e. subst (λ (j : ℕ). P j (at (set s i r) j)) (sym e) (subst (P i) (sym (get_or-set_same s i r nothing h)) here))
    (λ ne. subst (P k) (sym (get_or-set_other s i k r nothing ne)) (there k))
    (cases_eq k i)

exit_still : (s : Sheet) (i : ℕ) (r : Structure) → i < length s → Grows s i r → (j e : ℕ) → exit? (slice_get (at s j).places e) ≡ true → exit? (slice_get (at (set s i r) j).places e) ≡ true
exit_still s i r h g j e = at_each s i r (λ k q. exit? (slice_get (at s k).places e) ≡ true → exit? (slice_get q.places e) ≡ true) h (g.exits e) (λ _ x. x) j

leave_still : (s : Sheet) (i : ℕ) (r : Structure) → i < length s → Grows s i r → (q : Structure) (b e w : ℕ) → leave_stands s q b e w ≡ true → leave_stands (set s i r) q b e w ≡ true
leave_still s i r h g q b e w t =
    let o : Option Spot = slice_get q.places b in
    let x : Bool = exit? (slice_get (at s (inner o)).places e) in
    let y : Bool = exit? (slice_get (at (set s i r) (inner o)).places e) in
    let u = and_parts (box? o) (x && present q w) t in
    let v = and_parts x (present q w) u.1 in
    and_from (box? o) (y && present q w) u.0 (and_from y (present q w) (exit_still s i r h g (inner o) e v.0) v.1)

pub keeps : (s : Sheet) (i : ℕ) (r : Structure) → i < length s → Grows s i r → Sound s → Sound (set s i r)
keeps s i r h g l = record {
  entries = λ k m. at_each s i r (λ j q. j < length s → node? (slice_get q.places 0) ≡ true) h (λ m. g.nodes 0 (l.entries i m)) (λ j m. l.entries j m) k (simp length-set at m);
  order = λ k p. at_each s i r (λ j q. later (length (set s i r)) j (slice_get q.places p) ≡ true) h (simp length-set (g.order p)) (λ j. simp length-set (l.order j p)) k;
  edges = λ k p w. at_each s i r (λ j q. q.edge p w ≡ true → edge_stands q p w ≡ true) h (g.edges p w) (λ j. l.edges j p w) k;
  leaves = λ k b e w. at_each s i r (λ j q. q.leave b e w ≡ true → leave_stands (set s i r) q b e w ≡ true) h
      (λ t. leave_still s i r h g r b e w (g.leaves b e w t))
      (λ j t. leave_still s i r h g (at s j) b e w (l.leaves j b e w t)) k;
}

-- the same of a structure that is known by an equation
pub grown_sound : (s : Sheet) (i : ℕ) (r q : Structure) → q ≡ r → i < length s → (Sound s → Grows s i r) → ∥ Sound s ∥₁ → ∥ Sound (set s i q) ∥₁
grown_sound s i r q e h g t = ∥∥₁_map t (λ l. subst (λ (x : Structure). Sound (set s i x)) (sym e) (keeps s i r h (g l) l))

but_true : (k : ℕ) (v : Bool) (f : ℕ → Bool) (x : ℕ) → but k v f x ≡ true → (f x ≡ true) ⊎ ((x ≡ k) × (v ≡ true))
but_true k v f x h = ⊎_elim
    (λ t. inr (eqb-true x k t, sym (cond-true (eqb x k) v (f x) t) ∙ h))
    (λ t. inl (sym (cond-false (eqb x k) v (f x) t) ∙ h))
    (cases_Bool (eqb x k))

pub but2_true : (p w : ℕ) (v : Bool) (f : ℕ → ℕ → Bool) (x y : ℕ) → but2 p w v f x y ≡ true → (f x y ≡ true) ⊎ ((x ≡ p) × (y ≡ w) × (v ≡ true))
but2_true p w v f x y h = ⊎_elim
    (λ t. let e : x ≡ p = eqb-true x p t in
    ⊎_elim (λ a. inl (ap (λ q. f q y) e ∙ a)) (λ a. inr (e, a.0, a.1))
    (but_true w v (f p) y (sym (ap (λ q. q y) (cond-true (eqb x p) (but w v (f p)) (f x) t)) ∙ h)))
    (λ t. inl (sym (ap (λ q. q y) (cond-false (eqb x p) (but w v (f p)) (f x) t)) ∙ h))
    (cases_Bool (eqb x p))

-- an edge more, or one less
pub edge_grows : (s : Sheet) (i p w : ℕ) (v : Bool) → Sound s → (v ≡ true → edge_stands (at s i) p w ≡ true) → Grows s i (with_edge_lem p w v (at s i))
edge_grows s i p w v l h = record {
  nodes = λ _ x. x;
  exits = λ _ x. x;
  order = l.order i;
  edges = λ x y t. ⊎_elim (λ a. l.edges i x y a) (λ a. simp (a.0, a.1) (h a.2)) (but2_true p w v (at s i).edge x y t);
  leaves = l.leaves i;
}

-- a place more
nth_push : (f : Option Spot → Bool) → f None ≡ false → (ps : List Spot) (v : Spot) (p : ℕ) → f (slice_get ps p) ≡ true → slice_get (ps ++ v ∷ []) p ≡ slice_get ps p
nth_push f z [] v p h = let e : true ≡ false = sym h ∙ z in absurd (true≢false e)
nth_push f z (x ∷ ps) v zero h = refl
nth_push f z (x ∷ ps) v (suc p) h = nth_push f z ps v p h

push_keeps : (f : Option Spot → Bool) → f None ≡ false → (ps : List Spot) (v : Spot) (p : ℕ) → f (slice_get ps p) ≡ true → f (slice_get (ps ++ v ∷ []) p) ≡ true
push_keeps f z ps v p h = ap f (nth_push f z ps v p h) ∙ h

push_all : (f : Option Spot → Bool) → f None ≡ true → (v : Spot) → f (Some v) ≡ true → (ps : List Spot) → ((p : ℕ) → f (slice_get ps p) ≡ true) → (p : ℕ) → f (slice_get (ps ++ v ∷ []) p) ≡ true
push_all f z v h [] k zero = h
push_all f z v h [] k (suc p) = z
push_all f z v h (x ∷ ps) k zero = k zero
push_all f z v h (x ∷ ps) k (suc p) = push_all f z v h ps (λ q. k (suc q)) p

push_present : (r : Structure) (v : Spot) (w : ℕ) → present r w ≡ true → present (with_place_lem v r) w ≡ true
push_present r v w h = lt-ltb w (length (r.places ++ v ∷ [])) (simp length_push (omega (arith, ltb-true w (length r.places) h)))

pub place_grows : (s : Sheet) (i : ℕ) (v : Spot) → Sound s → later (length s) i (Some v) ≡ true → Grows s i (with_place_lem v (at s i))
place_grows s i v l h =
    let r = at s i in
    record {
      nodes = push_keeps node? refl r.places v;
      exits = push_keeps exit? refl r.places v;
      order = push_all (later (length s) i) refl v h r.places (l.order i);
      edges = λ p w t.
          let u = and_parts (node? (slice_get r.places p)) (present r w) (l.edges i p w t) in
          and_from (node? (slice_get (r.places ++ v ∷ []) p)) (present (with_place_lem v r) w) (push_keeps node? refl r.places v p u.0) (push_present r v w u.1);
      leaves = λ b e w t.
          let o : Option Spot = slice_get r.places b in
          let x : Bool = exit? (slice_get (at s (inner o)).places e) in
          let u = and_parts (box? o) (x && present r w) (l.leaves i b e w t) in
          let k = and_parts x (present r w) u.1 in
          subst (λ (q : Option Spot). (box? q && (exit? (slice_get (at s (inner q)).places e) && present (with_place_lem v r) w)) ≡ true)
          (sym (nth_push box? refl r.places v b u.0))
          (and_from (box? o) (x && present (with_place_lem v r) w) u.0 (and_from x (present (with_place_lem v r) w) k.0 (push_present r v w k.1)));
    }

-- a place changed in a way that keeps what it is
pub nth_set_same : (ps : List Spot) (p : ℕ) (v : Spot) → p < length ps → slice_get (set ps p v) p ≡ Some v
nth_set_same ps p v h = slice_get-get_or (set ps p v) p v (simp length-set h) ∙ ap Some (get_or-set_same ps p v v h)

pub nth_set_other : (ps : List Spot) (p q : ℕ) (v : Spot) → q ≢ p → slice_get (set ps p v) q ≡ slice_get ps q
nth_set_other [] p q v h = refl
nth_set_other (x ∷ ps) zero zero v h = absurd (h refl)
nth_set_other (x ∷ ps) zero (suc q) v h = refl
nth_set_other (x ∷ ps) (suc p) zero v h = refl
nth_set_other (x ∷ ps) (suc p) (suc q) v h = nth_set_other ps p q v (λ e. h (ap suc e))

set_test : (f : Option Spot → Bool) (ps : List Spot) (p : ℕ) (v : Spot) → p < length ps → f (Some v) ≡ true → (q : ℕ) → (q ≢ p → f (slice_get ps q) ≡ true) → f (slice_get (set ps p v) q) ≡ true
set_test f ps p v h t q k = ⊎_elim
    (λ e. ap (λ z. f (slice_get (set ps p v) z)) e ∙ ap f (nth_set_same ps p v h) ∙ t)
    (λ ne. ap f (nth_set_other ps p q v ne) ∙ k ne)
    (cases_eq q p)

no_box : (o : Option Spot) → node? o ≡ true → box? o ≡ false
no_box None h = absurd (false≢true h)
no_box (Some (Node l x)) h = refl
no_box (Some (Box j)) h = absurd (false≢true h)

-- a node changed in a way that keeps it an exit
pub node_grows : (s : Sheet) (i p l : ℕ) (x : Bool) → Sound s → p < length (at s i).places → node? (slice_get (at s i).places p) ≡ true
    → (exit? (slice_get (at s i).places p) ≡ true → x ≡ true) → Grows s i (with_spot_lem p (Node l x) (at s i))
node_grows s i p l x o h n k =
    let r = at s i in
    let v : Spot = Node l x in
    let same : (w : ℕ) → present r w ≡ true → present (with_spot_lem p v r) w ≡ true = λ w t. simp length-set t in
    record {
      nodes = λ q t. set_test node? r.places p v h refl q (λ _. t);
      exits = λ q t. ⊎_elim
          (λ e. ap (λ z. exit? (slice_get (set r.places p v) z)) e ∙ ap exit? (nth_set_same r.places p v h) ∙ k (ap (λ z. exit? (slice_get r.places z)) (sym e) ∙ t))
          (λ ne. ap exit? (nth_set_other r.places p q v ne) ∙ t)
          (cases_eq q p);
      order = λ q. set_test (later (length s) i) r.places p v h refl q (λ _. o.order i q);
      edges = λ q w t.
          let u = and_parts (node? (slice_get r.places q)) (present r w) (o.edges i q w t) in
          and_from (node? (slice_get (set r.places p v) q)) (present (with_spot_lem p v r) w) (set_test node? r.places p v h refl q (λ _. u.0)) (same w u.1);
      leaves = λ b e w t.
          let m : Option Spot = slice_get r.places b in
          let y : Bool = exit? (slice_get (at s (inner m)).places e) in
          let u = and_parts (box? m) (y && present r w) (o.leaves i b e w t) in
          let z = and_parts y (present r w) u.1 in
          let ne : b ≢ p = λ d. false≢true (sym (no_box (slice_get r.places p) n) ∙ ap (λ a. box? (slice_get r.places a)) (sym d) ∙ u.0) in
          subst (λ (q : Option Spot). (box? q && (exit? (slice_get (at s (inner q)).places e) && present (with_spot_lem p v r) w)) ≡ true)
          (sym (nth_set_other r.places p b v ne))
          (and_from (box? m) (y && present (with_spot_lem p v r) w) u.0 (and_from y (present (with_spot_lem p v r) w) z.0 (same w z.1)));
    }

-- a new chart's sheet
at_begun : (n i : ℕ) → (at (begun n) i ≡ fresh) ⊎ (at (begun n) i ≡ nothing)
at_begun zero i = inr refl
at_begun (suc n) zero = inl refl
at_begun (suc n) (suc i) = at_begun n i

pub begun_each : (n : ℕ) (P : Structure → Type 0) → P fresh → P nothing → (i : ℕ) → P (at (begun n) i)
begun_each n P a b i = ⊎_elim (λ e. subst P (sym e) a) (λ e. subst P (sym e) b) (at_begun n i)

later_fresh : (n i p : ℕ) → later n i (slice_get fresh.places p) ≡ true
later_fresh n i zero = refl
later_fresh n i (suc p) = refl

pub begun_sound : (n : ℕ) → Sound (begun n)
begun_sound n = record {
  entries = λ i h. ap (λ z. node? (slice_get z.places 0)) (get_or-replicate n i fresh nothing (simp length-replicate at h));
  order = λ i p. begun_each n (λ r. later (length (begun n)) i (slice_get r.places p) ≡ true) (later_fresh _ i p) refl i;
  edges = λ i p w t. absurd (false≢true (sym (begun_each n (λ r. r.edge p w ≡ false) refl refl i) ∙ t));
  leaves = λ i b e w t. absurd (false≢true (sym (begun_each n (λ r. r.leave b e w ≡ false) refl refl i) ∙ t));
}

but3_true : (b e w : ℕ) (v : Bool) (f : ℕ → ℕ → ℕ → Bool) (x y z : ℕ) → but3 b e w v f x y z ≡ true → (f x y z ≡ true) ⊎ ((x ≡ b) × (y ≡ e) × (z ≡ w) × (v ≡ true))
but3_true b e w v f x y z h = ⊎_elim
    (λ t. let q : x ≡ b = eqb-true x b t in
    ⊎_elim (λ a. inl (ap (λ k. f k y z) q ∙ a)) (λ a. inr (q, a.0, a.1, a.2))
    (but2_true e w v (f b) y z (sym (ap (λ k. k y z) (cond-true (eqb x b) (but2 e w v (f b)) (f x) t)) ∙ h)))
    (λ t. inl (sym (ap (λ k. k y z) (cond-false (eqb x b) (but2 e w v (f b)) (f x) t)) ∙ h))
    (cases_Bool (eqb x b))

pub leave_grows : (s : Sheet) (i b e w : ℕ) (v : Bool) → Sound s → leave_stands s (at s i) b e w ≡ true → Grows s i (with_leave b e w v (at s i))
leave_grows s i b e w v l h = record {
  nodes = λ _ x. x;
  exits = λ _ x. x;
  order = l.order i;
  edges = l.edges i;
  leaves = λ x y z t. ⊎_elim (λ a. l.leaves i x y z a) (λ a. simp (a.0, a.1, a.2) h) (but3_true b e w v (at s i).leave x y z t);
}
