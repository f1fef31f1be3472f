-- Reachable states are shallow, their numbers are small, and so they are finitely many: a list that has them all.
-- Assumes nothing.
use Rattle.std.proofs.Common.{◌≡◌, ℕ, zero, suc, ◌+◌, ◌<◌, ◌≤◌, List, [], ◌∷◌, ◌++◌, map, ap, arith}
use mathlib.Core.List.Memᴰ
use mathlib.Core.List.{Memᴰ}
use native.Mathlib.Decide.{ℕ_discrete}
use Rattle.hierarchy.specs.Meaning.{Meaning, node, box, Lawful}
use Rattle.hierarchy.specs.Flat.{State, at, within, Reach}
use Rattle.theory.specs.Hops.{HopReach, a_node, in_box}
use Rattle.theory.specs.OneSearch.{boxes, Shallow}
use Rattle.theory.proofs.Reaching.{reach→hops, box_there, box_reach}
use Rattle.hierarchy.proofs.Beyond.{node_present, box_present}

-- ---- the states of at most d boxes with numbers below n
numbers : ℕ → List ℕ
numbers zero = []
numbers (suc n) = n ∷ numbers n

number_listed : (n k : ℕ) → k < n → Memᴰ k (numbers n)
unfolding numbers
number_listed zero k h = absurd (omega arith)
number_listed (suc n) k h = go (ℕ_discrete k n) (number_listed n k)
  where
    go : Dec (k ≡ n) → (k < n → Memᴰ k (numbers n)) → Memᴰ k (n ∷ numbers n)
    go (yes e) r = Memᴰ.head e
    go (no x) r = Memᴰ.tail (r (omega arith))

all_within : List ℕ → List State → List State
all_within [] xs = []
all_within (b ∷ bs) xs = map (within b) xs ++ all_within bs xs

within_listed : {b : ℕ} {bs : List ℕ} {s : State} {xs : List State} → Memᴰ b bs → Memᴰ s xs → Memᴰ (within b s) (all_within bs xs)
unfolding all_within
within_listed {b} {s = s} {xs = xs} (Memᴰ.head {x = c} {xs = bs} e) m = Memᴰ.append_left (all_within bs xs) (Memᴰ.cast (ap (λ k. within k s) e) (Memᴰ.map (within c) m))
within_listed {xs = xs} (Memᴰ.tail {x = c} k) m = Memᴰ.append_right (map (within c) xs) (within_listed k m)

pub shallow_states : ℕ → ℕ → List State
shallow_states n zero = map at (numbers n)
shallow_states n (suc d) = map at (numbers n) ++ all_within (numbers n) (shallow_states n d)

module _ {m : Meaning} (L : Lawful m) where
  pub node_number : {i p : ℕ} → m.place i p ≡ node → (i < m.structures) × (p < m.places)
  node_number {i} {p} e = L.within i p (node_present _ e)

  pub box_number : {i p j : ℕ} → m.place i p ≡ box j → (i < m.structures) × (p < m.places)
  box_number {i} {p} e = L.within i p (box_present _ _ e)

  pub reach_shallow : (s : State) (i : ℕ) → i < m.structures → Reach m i s → i + boxes s < m.structures
  reach_shallow (at n) i h p = omega (arith, h)
  reach_shallow (within b s) i h p =
      let r = reach→hops L h p in
      let c = box_there L r in
      let o = L.inner i b c.0 c.1 in
      omega (arith, o.0, reach_shallow s c.0 o.1 (box_reach L r c.1))

  pub reach_listed : (d : ℕ) {i : ℕ} {s : State} → m.structures ≤ i + suc d → HopReach m i (m.entry i) s → Memᴰ s (shallow_states m.places d)
  unfolding shallow_states
  reach_listed zero h (a_node n p) = Memᴰ.map at (number_listed _ _ (node_number n).1)
  reach_listed zero {i} h (in_box {b = b} {j = j} p c r) = absurd (omega (arith, (L.inner i b j c).0, (L.inner i b j c).1))
  reach_listed (suc d) h (a_node n p) = Memᴰ.append_left _ (Memᴰ.map at (number_listed _ _ (node_number n).1))
  reach_listed (suc d) {i} h (in_box {b = b} {j = j} p c r) =
      let k : m.structures ≤ j + suc d = omega (arith, (L.inner i b j c).0) in
      Memᴰ.append_right (map at (numbers m.places)) (within_listed (number_listed _ _ (box_number c).1) (reach_listed d k (reach→hops L (L.inner i b j c).1 r)))

pub shallow : Shallow
shallow m L fits s p = omega (arith, reach_shallow L s 0 (omega (arith, (L.sized fits).0)) p)
