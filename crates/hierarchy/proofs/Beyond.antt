-- Beyond the size of a lawful hierarchy every answer is no.
use Rattle.std.proofs.Common.{◌≡◌, ℕ, ◌<◌, ◌≤◌, true, false, ◌≢◌, ◌⊎◌, ⊎_elim, arith}
use Rattle.std.proofs.lemmas.Bool.{false_from_ne_true}
use Rattle.hierarchy.specs.Meaning.{Meaning, Kind, absent, node, box, Lawful}

pub node_present : (k : Kind) → k ≡ node → k ≢ absent
node_present k e h = let z : ◌≡◌ {A = ℕ} 0 1 = cc in omega arith

pub box_present : (k : Kind) (j : ℕ) → k ≡ box j → k ≢ absent
box_present k j e h = let z : ◌≡◌ {A = ℕ} 0 1 = cc in omega arith

-- what is there stands within the size
pub record EdgeWithin (m : Meaning) (i p w : ℕ) : Type 0 where
  pub structure : i < m.structures
  pub from : p < m.places
  pub to : w < m.places

pub edge_within : {m : Meaning} → Lawful m → (i p w : ℕ) → m.edge i p w ≡ true → EdgeWithin m i p w
edge_within {m} l i p w e =
    let f = l.within i p (node_present (m.place i p) (l.edge_from i p w e)) in
    record { structure = f.0; from = f.1; to = (l.within i w (l.edge_to i p w e)).1 }

pub record LeaveWithin (m : Meaning) (i b e w : ℕ) : Type 0 where
  pub structure : i < m.structures
  pub from : b < m.places
  pub by : e < m.places
  pub to : w < m.places

pub leave_within : {m : Meaning} → Lawful m → (i b e w : ℕ) → m.leave i b e w ≡ true → LeaveWithin m i b e w
leave_within {m} l i b e w h =
    let x = l.leave_from i b e w h in
    let f = l.within i b (box_present (m.place i b) x.0 x.1) in
    let g = l.within x.0 e (node_present (m.place x.0 e) (l.exit_node x.0 e x.2)) in
    record { structure = f.0; from = f.1; by = g.1; to = (l.within i w (l.leave_to i b e w h)).1 }

pub no_edge : {m : Meaning} → Lawful m → (i p w : ℕ) → (m.structures ≤ i) ⊎ ((m.places ≤ p) ⊎ (m.places ≤ w)) → m.edge i p w ≡ false
no_edge {m} l i p w h = false_from_ne_true (m.edge i p w) (λ e. let k = edge_within l i p w e in
    ⊎_elim (λ a. omega (arith, k.structure)) (λ a. ⊎_elim (λ b. omega (arith, k.from)) (λ b. omega (arith, k.to)) a) h)

pub no_leave : {m : Meaning} → Lawful m → (i b e w : ℕ) → (m.structures ≤ i) ⊎ ((m.places ≤ b) ⊎ ((m.places ≤ e) ⊎ (m.places ≤ w))) → m.leave i b e w ≡ false
no_leave {m} l i b e w h = false_from_ne_true (m.leave i b e w) (λ t. let k = leave_within l i b e w t in
    ⊎_elim (λ a. omega (arith, k.structure))
    (λ a. ⊎_elim (λ c. omega (arith, k.from)) (λ c. ⊎_elim (λ d. omega (arith, k.by)) (λ d. omega (arith, k.to)) c) a) h)
