-- What is too large has nothing.
-- Assumes nothing.
use Rattle.std.proofs.Common.{◌≡◌, ℕ, Bool, true, false, ◌≢◌, sym, refl, ap, ◌∙◌, arith}
use Rattle.hierarchy.specs.Meaning.{Meaning, Lawful, Kind, absent, node, box}
use Rattle.hierarchy.specs.Answers.{place_told, look_told}
use Rattle.hierarchy.specs.declared.Look.{Look}
use Rattle.hierarchy.specs.declared.Place.TheVariants.{Absent}

module _ (m : Meaning) (law : Lawful m) (large : m.large ≡ true) where
  large_absent : (i p : ℕ) → m.place i p ≡ absent
  large_absent i p = by (m.place i p) refl where
    none : m.place i p ≢ absent → ⊥
    none ne = omega (arith, (law.within i p ne).0, (law.empty large).0)

    by : (x : Kind) → m.place i p ≡ x → x ≡ absent
    by absent e = refl
    by node e = absurd (none (λ f. let z : ◌≡◌ {A = ℕ} 0 1 = cc in omega arith))
    by (box j) e = absurd (none (λ f. let z : ◌≡◌ {A = ℕ} 0 1 = cc in omega arith))

  no_node : (i p : ℕ) → m.place i p ≡ node → ⊥
  no_node i p e = let f = large_absent i p in let z : ◌≡◌ {A = ℕ} 0 1 = cc in omega arith

  not_true_false : (t : Bool) → (t ≡ true → ⊥) → false ≡ t
  not_true_false true n = absurd (n refl)
  not_true_false false n = refl

  pub large_place : (i p : ℕ) → Absent ≡ place_told (m.place i p)
  large_place i p = sym (ap place_told (large_absent i p))

  pub large_entry : (i : ℕ) → 0 ≡ m.entry i
  large_entry i = sym (law.no_entry i (omega (arith, (law.empty large).0)))

  pub large_exits : (i p : ℕ) → false ≡ m.exits i p
  large_exits i p = not_true_false (m.exits i p) (λ e. no_node i p (law.exit_node i p e))

  large_letter : (i p : ℕ) → 0 ≡ m.letter i p
  large_letter i p = sym (law.letter_node i p (no_node i p))

  large_mark : (i p : ℕ) → false ≡ m.mark i p
  large_mark i p = not_true_false (m.mark i p) (λ e. no_node i p (law.mark_node i p e))

  pub large_edge : (i p w : ℕ) → false ≡ m.edge i p w
  large_edge i p w = not_true_false (m.edge i p w) (λ e. no_node i p (law.edge_from i p w e))

  pub large_leave : (i b e w : ℕ) → false ≡ m.leave i b e w
  large_leave i b e w = not_true_false (m.leave i b e w) (λ l. law.leave_to i b e w l (large_absent i w))

  pub large_look : (l : Look) → l.letter ≡ 0 → l.mark ≡ false → (i p : ℕ) → l ≡ look_told m i p
  large_look l e f i p =
      let look : ℕ → Bool → Look = λ a b. record { letter = a; mark = b } in
      ap (λ a. look a l.mark) (e ∙ large_letter i p) ∙ ap (look (m.letter i p)) (f ∙ large_mark i p)
