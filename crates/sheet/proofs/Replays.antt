-- Whatever the edits and however many are refused, the sheet of a begun chart means a lawful hierarchy.
-- Assumes nothing.
use Rattle.std.proofs.Common.{◌≡◌, ℕ, ◌<◌, ◌≤◌, Bool, true, false, List, [], ◌∷◌, ◌++◌, length, set, Some, None, Option, refl, ◌∙◌, arith}
use Rattle.std.proofs.lemmas.List.{length-replicate, length-set, length_push}
use Rattle.hierarchy.specs.Meaning.{Lawful}
use Rattle.hierarchy.specs.Refusals.{first}
use Rattle.hierarchy.specs.declared.refusal.Refusal.{Refusal}
use Rattle.sheet.specs.declared.Spot.{Spot}
use Rattle.sheet.specs.declared.Spot.TheVariants.{Node, Box}
use Rattle.sheet.specs.declared.Edit.{Edit}
use Rattle.sheet.specs.declared.Edit.TheVariants as edit
use Rattle.sheet.specs.Sheet.{Structure, Sheet, at, spot, exit?, look, meaning_of}
use Rattle.sheet.specs.Changes.{with_place_lem, with_spot_lem, with_edge_lem, with_leave, changed}
use Rattle.sheet.specs.Edits.{settle, begun, node_refusals, box_refusals, exit_refusals, look_refusals, edge_refusals, leave_refusals}
use Rattle.sheet.specs.Replay.{applied, replayed}
use Rattle.sheet.specs.Laws.{Sound}
use Rattle.sheet.proofs.Keeps.{Grows, at_each, keeps, edge_grows, place_grows, node_grows, leave_grows, begun_sound, begun_each}
use Rattle.sheet.proofs.Allows.{node_may, box_may, exit_may, look_may, edge_may, leave_may}
use Rattle.sheet.proofs.Means.{sheet_lawful}

-- what every edit keeps of the sheet of a chart begun with n structures
pub record Kept (n : ℕ) (s : Sheet) : Type 0 where
  pub sound : Sound s
  pub count : length s ≡ n
  pub rows : (i : ℕ) → length (at s i).places ≤ 16

grown_kept : (n : ℕ) (s : Sheet) (i : ℕ) (r : Structure) → Kept n s → i < length s → Grows s i r → length r.places ≤ 16 → Kept n (set s i r)
grown_kept n s i r k h g l = record {
  sound = keeps s i r h g k.sound;
  count = length-set s i r ∙ k.count;
  rows = at_each s i r (λ _ q. length q.places ≤ 16) h l k.rows;
}

-- refused, an edit alters nothing
settled_kept : {X : Type 0} (n : ℕ) (refused : Option Refusal) (old new : Sheet) (x : X) → Kept n old → (refused ≡ None → Kept n new) → Kept n (settle refused old new x).sheet
settled_kept n None old new x k l = l refl
settled_kept n (Some r) old new x k l = k

place_kept : (n : ℕ) (s : Sheet) (i : ℕ) (v : Spot) → Kept n s → i < length s → length (at s i).places < 16 → Grows s i (with_place_lem v (at s i)) → Kept n (changed s i (with_place_lem v))
place_kept n s i v k h room g =
    let l : length ((at s i).places ++ v ∷ []) ≤ 16 = simp length_push (omega arith) in
    grown_kept n s i (with_place_lem v (at s i)) k h g l

spot_kept : (n : ℕ) (s : Sheet) (i p : ℕ) (v : Spot) → Kept n s → i < length s → Grows s i (with_spot_lem p v (at s i)) → Kept n (changed s i (with_spot_lem p v))
spot_kept n s i p v k h g =
    let l : length (set (at s i).places p v) ≤ 16 = simp length-set (k.rows i) in
    grown_kept n s i (with_spot_lem p v (at s i)) k h g l

node_kept : (n : ℕ) (s : Sheet) (i l : ℕ) → Kept n s → first (node_refusals s i l) ≡ None → Kept n (changed s i (with_place_lem (Node l false)))
node_kept n s i l k h =
    let m = node_may s i l h in
    place_kept n s i (Node l false) k m.within m.room (place_grows s i (Node l false) k.sound refl)

box_kept : (n : ℕ) (s : Sheet) (i j : ℕ) → Kept n s → first (box_refusals s i j) ≡ None → Kept n (changed s i (with_place_lem (Box j)))
box_kept n s i j k h =
    let m = box_may s i j h in
    place_kept n s i (Box j) k m.0.within m.0.room (place_grows s i (Box j) k.sound m.1)

exit_kept : (n : ℕ) (s : Sheet) (i p : ℕ) → Kept n s → first (exit_refusals s i p) ≡ None → Kept n (changed s i (with_spot_lem p (Node (look (spot s i p)) true)))
exit_kept n s i p k h =
    let m = exit_may s i p h in
    let l = look (spot s i p) in
    spot_kept n s i p (Node l true) k m.within (node_grows s i p l true k.sound m.place m.node (λ _. refl))

look_kept : (n : ℕ) (s : Sheet) (i p l : ℕ) → Kept n s → first (look_refusals s i p l) ≡ None → Kept n (changed s i (with_spot_lem p (Node l (exit? (spot s i p)))))
look_kept n s i p l k h =
    let m = look_may s i p l h in
    let x = exit? (spot s i p) in
    spot_kept n s i p (Node l x) k m.within (node_grows s i p l x k.sound m.place m.node (λ e. e))

edge_kept : (n : ℕ) (s : Sheet) (i p w : ℕ) (v : Bool) → Kept n s → first (edge_refusals s i p w v) ≡ None → Kept n (changed s i (with_edge_lem p w v))
edge_kept n s i p w v k h =
    let m = edge_may s i p w v h in
    grown_kept n s i (with_edge_lem p w v (at s i)) k m.within (edge_grows s i p w v k.sound (λ _. m.stands)) (k.rows i)

leave_kept : (n : ℕ) (s : Sheet) (i b e w : ℕ) (v : Bool) → Kept n s → first (leave_refusals s i b e w v) ≡ None → Kept n (changed s i (with_leave b e w v))
leave_kept n s i b e w v k h =
    let m = leave_may s i b e w v h in
    grown_kept n s i (with_leave b e w v (at s i)) k m.within (leave_grows s i b e w v k.sound m.stands) (k.rows i)

pub applied_kept : (n : ℕ) (s : Sheet) (x : Edit) → Kept n s → Kept n (applied s x).sheet
applied_kept n s (edit.Node i l) k = settled_kept n (first (node_refusals s i l)) s _ _ k (node_kept n s i l k)
applied_kept n s (edit.Box i j) k = settled_kept n (first (box_refusals s i j)) s _ _ k (box_kept n s i j k)
applied_kept n s (edit.Exit i p) k = settled_kept n (first (exit_refusals s i p)) s _ _ k (exit_kept n s i p k)
applied_kept n s (edit.Look i p l) k = settled_kept n (first (look_refusals s i p l)) s _ _ k (look_kept n s i p l k)
applied_kept n s (edit.Edge i p w) k = settled_kept n (first (edge_refusals s i p w true)) s _ _ k (edge_kept n s i p w true k)
applied_kept n s (edit.Leave i b e w) k = settled_kept n (first (leave_refusals s i b e w true)) s _ _ k (leave_kept n s i b e w true k)
applied_kept n s (edit.Unedge i p w) k = settled_kept n (first (edge_refusals s i p w false)) s _ _ k (edge_kept n s i p w false k)
applied_kept n s (edit.Unleave i b e w) k = settled_kept n (first (leave_refusals s i b e w false)) s _ _ k (leave_kept n s i b e w false k)

pub replayed_kept : (n : ℕ) (s : Sheet) (xs : List Edit) → Kept n s → Kept n (replayed s xs)
replayed_kept n s [] k = k
replayed_kept n s (x ∷ xs) k = replayed_kept n (applied s x).sheet xs (applied_kept n s x k)

pub begun_kept : (n : ℕ) → Kept n (begun n)
begun_kept n = record {
  sound = begun_sound n;
  count = length-replicate n _;
  rows = begun_each n (λ r. length r.places ≤ 16) (omega arith) (omega arith);
}

pub kept_lawful : (n : ℕ) (s : Sheet) → 0 < n → n ≤ 32 → Kept n s → Lawful (meaning_of s)
kept_lawful n s some few k =
    let c = k.count in
    sheet_lawful s k.sound (omega arith) (omega arith) k.rows

-- the sheet of every list of edits
pub replayed_lawful : (n : ℕ) (xs : List Edit) → 0 < n → n ≤ 32 → Lawful (meaning_of (replayed (begun n) xs))
replayed_lawful n xs some few = kept_lawful n (replayed (begun n) xs) some few (replayed_kept n (begun n) xs (begun_kept n))
