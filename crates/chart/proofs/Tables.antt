-- What a chart's table stands for, read and written row by row.
use Rattle.std.proofs.Common.{◌≡◌, ℕ, zero, suc, ◌<◌, ◌≤◌, Bool, eqb, List, [], ◌∷◌, map, length, get_or, take, set, replicate, Some, None, Option, MatchOption, Bor, sym, refl, ap, ◌∙◌, subst, ⊎_elim, arith}
use mathlib.Core.Path.{fun_ext}
use lib.LanesLaws.{map-replicate}
use Rattle.std.specs.Slice.{IsItemAt}
use Rattle.std.proofs.lemmas.List.{length-map, length-take, length-take-le, get_or-map, get_or-take, get_or_past, map-set, get_or-set_same, get_or-set_other, take-replicate}
use Rattle.std.proofs.lemmas.Bool.{cases_lt, cases_eq, eq-eqb, ne_eqb, cond-true, cond-false}
use Rattle.chart.proofs.Bits.{no_bit}
use Rattle.chart.specs.declared.row.Row.{Row}
use Rattle.chart.specs.declared.row.Ends.{Ends}
use Rattle.chart.specs.declared.row.Pairs.{Pairs}
use Rattle.sheet.specs.Sheet.{Structure, nothing, at}
use Rattle.chart.specs.Layout.{Counts, structure_of, sheet_of, ends_of, no_bits, pairs_of, triples_of}
use Rattle.sheet.specs.Changes.{no_ends, no_pairs, but, but2, but3, fresh}

-- ---- sheets
pub length_sheet : (n : ℕ) (t : List Row) → n ≤ length t → length (sheet_of n t) ≡ n
unfolding sheet_of
length_sheet n t h = simp (length-map, length-take-le n t h)

pub at_sheet : (n : ℕ) (t : List Row) (i : ℕ) (d : Row) → n ≤ length t → i < n → at (sheet_of n t) i ≡ structure_of (get_or t i d)
unfolding sheet_of
at_sheet n t i d h l =
    let k : i < length (take n t) = simp (length-take-le n t h) l in
    get_or-map structure_of (take n t) i d nothing k ∙ ap structure_of (get_or-take n t i d l)

-- what 'get' lends of the rows that count
pub row_found : (n : ℕ) (t : List Row) (i : ℕ) (r : Option (Bor Row)) → n ≤ length t → IsItemAt (take n t) i r
    → MatchOption r (at (sheet_of n t) i ≡ nothing) (λ (q : Bor Row). structure_of q.now ≡ at (sheet_of n t) i)
row_found n t i None h l = get_or_past (sheet_of n t) i nothing (omega (arith, length_sheet n t h, length-take-le n t h, l.3))
row_found n t i (Some q) h l =
    let w : i < n = omega (arith, l.3.0, length-take-le n t h) in
    sym (at_sheet n t i q.now h w ∙ ap structure_of (sym (get_or-take n t i q.now w) ∙ sym l.1))

pub take_set_at : {X : Type 0} (n : ℕ) (t : List X) (i : ℕ) (r : X) → take n (set t i r) ≡ set (take n t) i r
take_set_at zero t i r = refl
take_set_at (suc n) [] i r = refl
take_set_at (suc n) (x ∷ t) zero r = refl
take_set_at (suc n) (x ∷ t) (suc i) r = ap (λ l. x ∷ l) (take_set_at n t i r)

pub sheet_set : (n : ℕ) (t : List Row) (i : ℕ) (r : Row) → sheet_of n (set t i r) ≡ set (sheet_of n t) i (structure_of r)
unfolding sheet_of
sheet_set n t i r = ap (map structure_of) (take_set_at n t i r) ∙ map-set structure_of (take n t) i r

pub sheet_replicate : (n : ℕ) (r : Row) → n ≤ 32 → structure_of r ≡ fresh → sheet_of n (replicate 32 r) ≡ replicate n fresh
unfolding sheet_of
sheet_replicate n r h e = ap (map structure_of) (take-replicate n 32 r h) ∙ map-replicate structure_of n r ∙ ap (replicate n) e

-- ---- one row
pub no_bits_ends : ends_of no_bits ≡ no_ends
no_bits_ends = fun_ext no_bit

pub no_bits_pairs : pairs_of (record { from = [] }) ≡ no_pairs
no_bits_pairs = fun_ext (λ _. no_bits_ends)

-- a list with one element written, read by a function
read_set : {X Y : Type 0} (f : X → Y) (g : List X) (x : ℕ) (l d : X) → x < length g
    → (λ k. f (get_or (set g x l) k d)) ≡ but x (f l) (λ k. f (get_or g k d))
read_set f g x l d h = fun_ext (λ k. ⊎_elim
    (λ e. ap f (ap (λ z. get_or (set g x l) z d) e ∙ get_or-set_same g x l d h) ∙ sym (cond-true (eqb k x) (f l) (f (get_or g k d)) (eq-eqb k x e)))
    (λ ne. ap f (get_or-set_other g x k l d ne) ∙ sym (cond-false (eqb k x) (f l) (f (get_or g k d)) (ne_eqb k x ne)))
    (cases_eq k x))

pub pairs_set : (g : List Ends) (x y : ℕ) (v : Bool) (l : Ends) → x < length g
    → ends_of l ≡ but y v (ends_of (get_or g x no_bits)) → pairs_of (record { from = set g x l }) ≡ but2 x y v (pairs_of (record { from = g }))
pairs_set g x y v l h e = read_set ends_of g x l no_bits h ∙ ap (λ q. but x q (pairs_of (record { from = g }))) e

pub triples_set : (g : List Pairs) (b e w : ℕ) (v : Bool) (l : Pairs) → b < length g
    → pairs_of l ≡ but2 e w v (pairs_of (get_or g b (record { from = [] }))) → triples_of (set g b l) ≡ but3 b e w v (triples_of g)
triples_set g b e w v l h q = read_set pairs_of g b l (record { from = [] }) h ∙ ap (λ z. but b z (triples_of g)) q

abbrev always : {Y : Type 0} → Y → ℕ → Y
always v = λ _. v

-- a list whose elements all read as one value, as its default does
pub all_read : {X Y : Type 0} (f : X → Y) (xs : List X) (d : X) (v : Y) → ((k : ℕ) (e : X) → k < length xs → f (get_or xs k e) ≡ v) → f d ≡ v
    → (λ k. f (get_or xs k d)) ≡ always v
all_read f xs d v h e = fun_ext (λ k. ⊎_elim (h k d) (λ l. ap f (get_or_past xs k d l) ∙ e) (cases_lt k (length xs)))

pub few_places : (r : Row) (q : Structure) → r.used ≤ 16 → structure_of r ≡ q → length q.places ≤ 16
unfolding structure_of
few_places r q h e = subst (λ (z : Structure). length z.places ≤ 16) e (simp length-take (omega arith))

abbrev blank : Row
blank = record { places = []; used = 0; edges = record { from = [] }; leaves = [] }

pub few_at : (n : ℕ) (t : List Row) → n ≤ length t → Counts n t → (j : ℕ) → length (at (sheet_of n t) j).places ≤ 16
few_at n t h k j = ⊎_elim
    (λ l. few_places (get_or t j blank) (at (sheet_of n t) j) (k j blank l) (sym (at_sheet n t j blank h l)))
    (λ l. subst (λ (z : Structure). length z.places ≤ 16) (sym (get_or_past (sheet_of n t) j nothing (simp (length_sheet n t h) l))) (omega arith))
    (cases_lt j n)
