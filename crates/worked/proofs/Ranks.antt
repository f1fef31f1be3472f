-- A list of ranked states, checked by computing: no step from a listed state falls in rank, and each from a marked one
-- climbs. Then no marked state that is listed reaches itself. Assumes nothing.
use Rattle.std.proofs.Common.{◌≡◌, ℕ, zero, suc, ◌+◌, ◌<◌, ◌≤◌, Bool, true, false, cond, not, ◌&&◌, eqb, ltb, leb, List, [], ◌∷◌, sym, ap, ◌∙◌, subst, ⊎_elim, arith}
use Rattle.std.proofs.lemmas.Bool.{and_parts, cases_Bool, eqb-true, leb-true, ltb-true, not-true, cond-true, cond-false, cases_lt, false≢true}
use Rattle.hierarchy.specs.Meaning.{Meaning, Kind, absent, node, box, Lawful}
use Rattle.hierarchy.specs.Flat.{State, at, within, last_structure, last_node, Enter, to_node, to_box, Step, by_edge, by_leave, inside, Star, stop, step, initial, Reaches, Recurs}

-- ---- what holds of every step's end
abbrev below : ℕ → (ℕ → Bool) → Bool
below zero t = true
below (suc n) t = t n && below n t

abbrev entered : Meaning → ℕ → ℕ → Kind → (State → Bool) → Bool
entered m i w absent t = true
entered m i w node t = t (at w)
entered m i w (box j) t = t (within w (at (m.entry j)))

abbrev on_leaves : Meaning → ℕ → ℕ → State → (State → Bool) → Bool
on_leaves m i b (within c s) t = true
on_leaves m i b (at e) t = below m.places (λ w. cond (m.leave i b e w) (entered m i w (m.place i w) t) true)

abbrev on_inner : Kind → (ℕ → Bool) → Bool
on_inner absent t = true
on_inner node t = true
on_inner (box j) t = t j

abbrev pub next : Meaning → ℕ → State → (State → Bool) → Bool
next m i (at p) t = below m.places (λ w. cond (m.edge i p w) (entered m i w (m.place i w) t) true)
next m i (within b s) t = on_leaves m i b s t && on_inner (m.place i b) (λ j. next m j s (λ u. t (within b u)))

below_at : (n : ℕ) (t : ℕ → Bool) (w : ℕ) → below n t ≡ true → w < n → t w ≡ true
below_at zero t w h l = absurd (omega arith)
below_at (suc n) t w h l =
    let u = and_parts (t n) (below n t) h in
    ⊎_elim (λ k. below_at n t w u.1 k) (λ k. let e : w ≡ n = omega arith in ap t e ∙ u.0) (cases_lt w n)

enter_entered : (m : Meaning) (i w : ℕ) (t : State → Bool) {s : State} → entered m i w (m.place i w) t ≡ true → Enter m i w s → t s ≡ true
enter_entered m i w t h (to_node e) = subst (λ k. entered m i w k t ≡ true) e h
enter_entered m i w t h (to_box e) = subst (λ k. entered m i w k t ≡ true) e h

module _ {m : Meaning} (L : Lawful m) where
  pub next_step : {i : ℕ} {s u : State} (t : State → Bool) → next m i s t ≡ true → Step m i s u → t u ≡ true
  next_step {i} t h (by_edge {p = p} {w = w} e n) =
      let l : w < m.places = (L.within i w (L.edge_to i p w e)).1 in
      let c = below_at m.places _ w h l in
      enter_entered m i w t (sym (cond-true (m.edge i p w) (entered m i w (m.place i w) t) true e) ∙ c) n
  next_step {i} t h (by_leave {b = b} {e = x} {w = w} e n) =
      let l : w < m.places = (L.within i w (L.leave_to i b x w e)).1 in
      let k = and_parts (on_leaves m i b (at x) t) _ h in
      let c = below_at m.places _ w k.0 l in
      enter_entered m i w t (sym (cond-true (m.leave i b x w) (entered m i w (m.place i w) t) true e) ∙ c) n
  next_step {i} t h (inside {b = b} {j = j} {s = s} e d) =
      let k = and_parts (on_leaves m i b s t) (on_inner (m.place i b) (λ j. next m j s (λ u. t (within b u)))) h in
      next_step (λ u. t (within b u)) (subst (λ k. on_inner k (λ j. next m j s (λ u. t (within b u))) ≡ true) e k.1) d

-- ---- ranks
abbrev same : State → State → Bool
same (at p) (at q) = eqb p q
same (at p) (within c t) = false
same (within b s) (at q) = false
same (within b s) (within c t) = eqb b c && same s t

same_is : (s t : State) → same s t ≡ true → s ≡ t
same_is (at p) (at q) h = ap at (eqb-true p q h)
same_is (at p) (within c t) h = absurd (false≢true h)
same_is (within b s) (at q) h = absurd (false≢true h)
same_is (within b s) (within c t) h =
    let u = and_parts (eqb b c) (same s t) h in
    ap (λ x. within x s) (eqb-true b c u.0) ∙ ap (within c) (same_is s t u.1)

abbrev pub Ranks : Type 0
Ranks = List (ℕ × State)

-- 0 for what is not listed
abbrev rank : Ranks → State → ℕ
rank [] s = 0
rank (x ∷ rest) s = cond (same x.1 s) x.0 (rank rest s)

abbrev marked : Meaning → State → Bool
marked m s = m.mark (last_structure m 0 s) (last_node s)

abbrev climb : Meaning → State → ℕ
climb m s = cond (marked m s) 1 0

-- the steps from each of the second list lead to states that the first ranks no lower, and higher behind a mark
abbrev climbs : Meaning → Ranks → Ranks → Bool
climbs m ranks [] = true
climbs m ranks (x ∷ rest) = next m 0 x.1 (λ t. leb (x.0 + climb m x.1) (rank ranks t)) && climbs m ranks rest

-- the initial state is listed, and so is all that it reaches
abbrev pub ranked : Meaning → Ranks → Bool
ranked m ranks = ltb 0 (rank ranks (initial m 0)) && climbs m ranks ranks

abbrev pub unmarked : Meaning → Ranks → Bool
unmarked m [] = true
unmarked m (x ∷ rest) = not (marked m x.1) && unmarked m rest

module _ {m : Meaning} (L : Lawful m) where
  step_climbs : (ranks xs : Ranks) {s t : State} → climbs m ranks xs ≡ true → 0 < rank xs s → Step m 0 s t → rank xs s + climb m s ≤ rank ranks t
  step_climbs ranks [] h l d = absurd (omega arith)
  step_climbs ranks (x ∷ rest) {s} {t} h l d =
      let goes : State → Bool = λ t. leb (x.0 + climb m x.1) (rank ranks t) in
      let u = and_parts (next m 0 x.1 goes) (climbs m ranks rest) h in
      ⊎_elim
      (λ e.
      let k : x.1 ≡ s = same_is x.1 s e in
      let here : rank (x ∷ rest) s ≡ x.0 = cond-true (same x.1 s) x.0 (rank rest s) e in
      let high : x.0 + climb m x.1 ≤ rank ranks t = leb-true _ _ (next_step L goes u.0 (subst (λ z. Step m 0 z t) (sym k) d)) in
      subst (λ (n : ℕ). n + climb m s ≤ rank ranks t) (sym here) (subst (λ (z : State). x.0 + climb m z ≤ rank ranks t) k high))
      (λ e.
      let there : rank (x ∷ rest) s ≡ rank rest s = cond-false (same x.1 s) x.0 (rank rest s) e in
      subst (λ (n : ℕ). n + climb m s ≤ rank ranks t) (sym there)
      (step_climbs ranks rest u.1 (subst (λ (n : ℕ). 0 < n) there l) d))
      (cases_Bool (same x.1 s))

  path_climbs : (ranks : Ranks) {s t : State} → climbs m ranks ranks ≡ true → 0 < rank ranks s → Star (Step m 0) s t → rank ranks s ≤ rank ranks t
  path_climbs ranks h l stop = omega arith
  path_climbs ranks h l (step d p) =
      let k = step_climbs ranks ranks h l d in
      let r = path_climbs ranks h (omega arith) p in
      omega arith

  reached_ranked : (ranks : Ranks) {s : State} → ranked m ranks ≡ true → Star (Step m 0) (initial m 0) s → 0 < rank ranks s
  reached_ranked ranks h p =
      let u = and_parts (ltb 0 (rank ranks (initial m 0))) (climbs m ranks ranks) h in
      let l : 0 < rank ranks (initial m 0) = ltb-true _ _ u.0 in
      let k = path_climbs ranks u.1 l p in
      omega arith

  pub never_recurs : (ranks : Ranks) → ranked m ranks ≡ true → Recurs m → ⊥
  never_recurs ranks h r =
      let u = and_parts (ltb 0 (rank ranks (initial m 0))) (climbs m ranks ranks) h in
      let l = reached_ranked ranks h r.reached in
      let one : climb m r.state ≡ 1 = cond-true (marked m r.state) 1 0 r.marked in
      let k = step_climbs ranks ranks u.1 l r.round.first in
      let b = path_climbs ranks u.1 (omega arith) r.round.rest in
      omega arith

  listed_unmarked : (xs : Ranks) (s : State) → unmarked m xs ≡ true → 0 < rank xs s → marked m s ≡ true → ⊥
  listed_unmarked [] s h l e = omega arith
  listed_unmarked (x ∷ rest) s h l e =
      let u = and_parts (not (marked m x.1)) (unmarked m rest) h in
      ⊎_elim
      (λ t. false≢true (sym (not-true _ u.0) ∙ ap (marked m) (same_is x.1 s t) ∙ e))
      (λ t. listed_unmarked rest s u.1 (subst (λ (n : ℕ). 0 < n) (cond-false (same x.1 s) x.0 (rank rest s) t) l) e)
      (cases_Bool (same x.1 s))

  pub never_reaches : (ranks : Ranks) → ranked m ranks ≡ true → unmarked m ranks ≡ true → Reaches m → ⊥
  never_reaches ranks h c r = listed_unmarked ranks r.state c (reached_ranked ranks h r.reached) r.marked
