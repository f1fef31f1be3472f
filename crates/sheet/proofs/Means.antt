-- A sound sheet of a chart's size means a lawful hierarchy.
use Rattle.std.proofs.Common.{◌≡◌, ℕ, zero, suc, ◌<◌, ◌≤◌, Bool, true, false, ◌&&◌, ltb, ◌≢◌, List, [], ◌∷◌, length, Some, None, Option, sym, refl, ap, ◌∙◌, subst, ⊎_elim, arith}
use mathlib.Core.Bool.{Bool-set}
use mathlib.Core.Logic.{∥∥₁_elim}
use Rattle.std.specs.List.{slice_get}
use Rattle.std.proofs.lemmas.List.{get_or_past}
use Rattle.std.proofs.lemmas.Option.{slice_get_past}
use Rattle.std.proofs.lemmas.Bool.{cases_lt, and_parts, ltb-true, false≢true}
use Rattle.hierarchy.specs.Meaning.{Lawful}
use Rattle.hierarchy.specs.Meaning as meaning
use Rattle.sheet.specs.declared.Spot.{Spot}
use Rattle.sheet.specs.declared.Spot.TheVariants.{Node, Box}
use Rattle.sheet.specs.Sheet.{Structure, Sheet, nothing, at, present, spot, node?, box?, exit?, inner, look, kind, longest, letter_of_look, mark_of_look, meaning_of}
use Rattle.sheet.specs.Laws.{Sound, later}
use Rattle.sheet.proofs.Longest.{at_longest}
use Rattle.sheet.proofs.Allows.{test_below}

-- ---- one place
-- a test that holds of nodes alone
only_nodes : (f : Option Spot → Bool) → f None ≡ false → ((j : ℕ) → f (Some (Box j)) ≡ false) → (o : Option Spot) → f o ≡ true → kind o ≡ meaning.node
only_nodes f n b None h = absurd (false≢true (sym n ∙ h))
only_nodes f n b (Some (Node l x)) h = refl
only_nodes f n b (Some (Box j)) h = absurd (false≢true (sym (b j) ∙ h))

kind_node : (o : Option Spot) → node? o ≡ true → kind o ≡ meaning.node
kind_node = only_nodes node? refl (λ _. refl)

box_kind : (o : Option Spot) → box? o ≡ true → kind o ≡ meaning.box (inner o)
box_kind None h = absurd (false≢true h)
box_kind (Some (Node l x)) h = absurd (false≢true h)
box_kind (Some (Box j)) h = refl

letter_kind : (o : Option Spot) → kind o ≢ meaning.node → letter_of_look (look o) ≡ 0
letter_kind None h = refl
letter_kind (Some (Node l x)) h = absurd (h refl)
letter_kind (Some (Box j)) h = refl

kind_later : (n i j : ℕ) (o : Option Spot) → later n i o ≡ true → kind o ≡ meaning.box j → (i < j) × (j < n)
kind_later n i j None h e = let z : ◌≡◌ {A = ℕ} 0 1 = cc in absurd (omega arith)
kind_later n i j (Some (Node l x)) h e = let z : ◌≡◌ {A = ℕ} 0 1 = cc in absurd (omega arith)
kind_later n i j (Some (Box k)) h e =
    let s : k ≡ j = cc in
    let u = and_parts (ltb i k) (ltb k n) h in
    (subst (λ (z : ℕ). i < z) s (ltb-true i k u.0), subst (λ (z : ℕ). z < n) s (ltb-true k n u.1))

some_kind : (v : Spot) → kind (Some v) ≢ meaning.absent
some_kind (Node l x) e = let z : ◌≡◌ {A = ℕ} 0 1 = cc in omega arith
some_kind (Box j) e = let z : ◌≡◌ {A = ℕ} 0 1 = cc in omega arith

-- ---- one row
kind_there : (ps : List Spot) (p : ℕ) → p < length ps → kind (slice_get ps p) ≢ meaning.absent
kind_there [] p h e = omega arith
kind_there (v ∷ ps) zero h e = some_kind v e
kind_there (v ∷ ps) (suc p) h e = kind_there ps p (omega arith) e

kind_below : (ps : List Spot) (p : ℕ) → kind (slice_get ps p) ≢ meaning.absent → p < length ps
kind_below ps p h = ⊎_elim (λ l. l) (λ l. absurd (h (ap kind (slice_get_past ps p l)))) (cases_lt p (length ps))

spot_structure : (s : Sheet) (i p : ℕ) → kind (spot s i p) ≢ meaning.absent → i < length s
spot_structure s i p h = ⊎_elim (λ l. l)
    (λ l. absurd (h (ap (λ (r : Structure). kind (slice_get r.places p)) (get_or_past s i nothing l)))) (cases_lt i (length s))

present_kind : (s : Sheet) (i p : ℕ) → present (at s i) p ≡ true → kind (spot s i p) ≢ meaning.absent
present_kind s i p h = kind_there (at s i).places p (ltb-true p (length (at s i).places) h)

pub longest_le : (s : Sheet) (n : ℕ) → ((i : ℕ) → length (at s i).places ≤ n) → longest s ≤ n
longest_le [] n h = omega arith
longest_le (r ∷ s) n h =
    let k = longest_le s n (λ i. h (suc i)) in
    let l : length r.places ≤ n = h zero in
    omega arith

some_places : (s : Sheet) → Sound s → 0 < length s → 1 ≤ longest s
some_places s o h =
    let l : 0 < length (at s 0).places = test_below node? refl (at s 0).places 0 (o.entries 0 h) in
    omega (arith, at_longest s 0)

-- ---- the laws
pub sheet_lawful : (s : Sheet) → Sound s → 0 < length s → length s ≤ 32 → ((i : ℕ) → length (at s i).places ≤ 16) → Lawful (meaning_of s)
sheet_lawful s o some few rows =
    let small : longest s ≤ 16 = longest_le s 16 rows in
    record {
      empty = λ e. absurd (false≢true e);
      sized = λ _. (some, omega arith, some_places s o some, omega arith);
      within = λ i p h. (spot_structure s i p h, let l = kind_below (at s i).places p h in omega (arith, at_longest s i));
      inner = λ i p j e. kind_later (length s) i j (spot s i p) (o.order i p) e;
      entered = λ i h. kind_node (spot s i 0) (o.entries i h);
      no_entry = λ i h. refl;
      exit_node = λ i p h. only_nodes exit? refl (λ _. refl) (spot s i p) h;
      letter_small = λ i p. omega arith;
      letter_node = λ i p h. letter_kind (spot s i p) h;
      mark_node = λ i p h. only_nodes (λ (o : Option Spot). mark_of_look (look o)) refl (λ _. refl) (spot s i p) h;
      edge_from = λ i p w h. kind_node (spot s i p) (and_parts (node? (spot s i p)) (present (at s i) w) (o.edges i p w h)).0;
      edge_to = λ i p w h. present_kind s i w (and_parts (node? (spot s i p)) (present (at s i) w) (o.edges i p w h)).1;
      leave_from = λ i b e w h.
          let x : Bool = exit? (spot s (inner (spot s i b)) e) in
          let u = and_parts (box? (spot s i b)) (x && present (at s i) w) (o.leaves i b e w h) in
          (inner (spot s i b), box_kind (spot s i b) u.0, (and_parts x (present (at s i) w) u.1).0);
      leave_to = λ i b e w h.
          let x : Bool = exit? (spot s (inner (spot s i b)) e) in
          let u = and_parts (box? (spot s i b)) (x && present (at s i) w) (o.leaves i b e w h) in
          present_kind s i w (and_parts x (present (at s i) w) u.1).1;
    }

-- soundness is a list of equations between flags, so that it can be had from its truncation
pub sound_from : (s : Sheet) → ∥ Sound s ∥₁ → Sound s
sound_from s t = record {
  entries = λ i h. ∥∥₁_elim t (Bool-set _ _) (λ o. o.entries i h);
  order = λ i p. ∥∥₁_elim t (Bool-set _ _) (λ o. o.order i p);
  edges = λ i p w h. ∥∥₁_elim t (Bool-set _ _) (λ o. o.edges i p w h);
  leaves = λ i b e w h. ∥∥₁_elim t (Bool-set _ _) (λ o. o.leaves i b e w h);
}
