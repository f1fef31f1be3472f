-- What is known where no refusal of an edit holds.
use Rattle.std.proofs.Common.{◌≡◌, ℕ, ◌<◌, Bool, true, false, cond, ◌&&◌, ltb, List, [], ◌∷◌, length, Some, None, Option, sym, refl, ap, ◌∙◌, ⊎_elim, arith}
use Rattle.std.specs.List.{slice_get}
use Rattle.std.proofs.lemmas.Option.{slice_get_past}
use Rattle.std.proofs.lemmas.Bool.{cases_lt, and_parts, and_from, not-false, ltb-true, false≢true}
use Rattle.hierarchy.specs.declared.refusal.Refusal.{Refusal}
use Rattle.sheet.specs.declared.Spot.{Spot}
use Rattle.sheet.specs.declared.Spot.TheVariants.{Box}
use Rattle.sheet.specs.Sheet.{Sheet, at, present, node?, box?, exit?, inner, look}
use Rattle.hierarchy.specs.Refusals.{Refusals, first}
use Rattle.sheet.specs.Edits.{node_refusals, box_refusals, exit_refusals, look_refusals, edge_refusals, leave_refusals}
use Rattle.sheet.specs.Laws.{later, edge_stands, leave_stands}

pub test_below : (f : Option Spot → Bool) → f None ≡ false → (ps : List Spot) (p : ℕ) → f (slice_get ps p) ≡ true → p < length ps
test_below f z ps p h = ⊎_elim (λ l. l) (λ l. absurd (false≢true (sym z ∙ sym (ap f (slice_get_past ps p l)) ∙ h))) (cases_lt p (length ps))

-- none of a list's tests holds
abbrev pub Clear : Refusals → Type 0
Clear [] = Unit {0}
Clear (x ∷ xs) = (x.0 ≡ false) × Clear xs

clear_more : (b : Bool) (x : Refusal) (xs : Refusals) → cond b (Some x) (first xs) ≡ None → (b ≡ false) × (first xs ≡ None)
clear_more true x xs h = let z : ◌≡◌ {A = ℕ} 0 1 = cc in absurd (omega arith)
clear_more false x xs h = (refl, h)

pub clear : (xs : Refusals) → first xs ≡ None → Clear xs
clear [] h = tt
clear (x ∷ xs) h = let u = clear_more x.0 x.1 xs h in (u.0, clear xs u.1)

pub record EdgeMay (s : Sheet) (i p w : ℕ) : Type 0 where
  pub within : i < length s
  pub from : p < length (at s i).places
  pub to : w < length (at s i).places
  pub stands : edge_stands (at s i) p w ≡ true

pub edge_may : (s : Sheet) (i p w : ℕ) (v : Bool) → first (edge_refusals s i p w v) ≡ None → EdgeMay s i p w
edge_may s i p w v h =
    let t = clear (edge_refusals s i p w v) h in
    let x = and_parts (present (at s i) p) (present (at s i) w) (not-false _ t.1.0) in
    record {
      within = ltb-true _ _ (not-false _ t.0);
      from = ltb-true _ _ x.0;
      to = ltb-true _ _ x.1;
      stands = and_from (node? (slice_get (at s i).places p)) (present (at s i) w) (not-false _ t.1.1.0) x.1;
    }

pub record Room (s : Sheet) (i : ℕ) : Type 0 where
  pub within : i < length s
  pub room : length (at s i).places < 16

pub node_may : (s : Sheet) (i look : ℕ) → first (node_refusals s i look) ≡ None → Room s i
node_may s i look h =
    let t = clear (node_refusals s i look) h in
    record { within = ltb-true _ _ (not-false _ t.1.0); room = ltb-true _ _ (not-false _ t.1.1.0) }

pub box_may : (s : Sheet) (i j : ℕ) → first (box_refusals s i j) ≡ None → Room s i × (later (length s) i (Some (Box j)) ≡ true)
box_may s i j h =
    let t = clear (box_refusals s i j) h in
    let u = and_parts (ltb i (length s)) (ltb j (length s)) (not-false _ t.1.0) in
    (record { within = ltb-true _ _ u.0; room = ltb-true _ _ (not-false _ t.1.1.0) }, and_from (ltb i j) (ltb j (length s)) (not-false _ t.0) u.1)

pub record NodeMay (s : Sheet) (i p : ℕ) : Type 0 where
  pub within : i < length s
  pub place : p < length (at s i).places
  pub node : node? (slice_get (at s i).places p) ≡ true

pub exit_may : (s : Sheet) (i p : ℕ) → first (exit_refusals s i p) ≡ None → NodeMay s i p
exit_may s i p h =
    let t = clear (exit_refusals s i p) h in
    record { within = ltb-true _ _ (not-false _ t.0); place = ltb-true _ _ (not-false _ t.1.0); node = not-false _ t.1.1.0 }

pub record LeaveMay (s : Sheet) (i b e w : ℕ) : Type 0 where
  pub within : i < length s
  pub from : b < length (at s i).places
  pub to : w < length (at s i).places
  pub by : e < length (at s (inner (slice_get (at s i).places b))).places
  pub stands : leave_stands s (at s i) b e w ≡ true

pub leave_may : (s : Sheet) (i b e w : ℕ) (v : Bool) → first (leave_refusals s i b e w v) ≡ None → LeaveMay s i b e w
leave_may s i b e w v h =
    let t = clear (leave_refusals s i b e w v) h in
    let x = and_parts (present (at s i) b) (present (at s i) w) (not-false _ t.1.0) in
    let o : Option Spot = slice_get (at s i).places b in
    let y : Bool = exit? (slice_get (at s (inner o)).places e) in
    record {
      within = ltb-true _ _ (not-false _ t.0);
      from = ltb-true _ _ x.0;
      to = ltb-true _ _ x.1;
      by = test_below exit? refl (at s (inner o)).places e (not-false _ t.1.1.1.0);
      stands = and_from (box? o) (y && present (at s i) w) (not-false _ t.1.1.0) (and_from y (present (at s i) w) (not-false _ t.1.1.1.0) x.1);
    }

pub look_may : (s : Sheet) (i p l : ℕ) → first (look_refusals s i p l) ≡ None → NodeMay s i p
look_may s i p l h =
    let t = clear (look_refusals s i p l) h in
    record { within = ltb-true _ _ (not-false _ t.1.0); place = ltb-true _ _ (not-false _ t.1.1.0); node = not-false _ t.1.1.1.0 }
