-- How long the lines of a report are: the states that a run goes through have few boxes and small numbers.
-- Assumes nothing.
use Rattle.std.proofs.Common.{◌≡◌, ℕ, zero, suc, ◌+◌, ◌*◌, ◌<◌, ◌≤◌, Bool, true, false, List, ◌∷◌, ◌++◌, length, codes, decimal, arith}
use Rattle.std.proofs.lemmas.List.{length-append}
use Rattle.std.proofs.lemmas.Fmt.{length-decimal-le}
use Rattle.hierarchy.specs.Meaning.{Meaning, Lawful}
use Rattle.hierarchy.specs.Flat.{State, at, within, Reach}
use Rattle.hierarchy.specs.Runs.{Run}
use Rattle.theory.specs.Hops.{HopReach, a_node}
use Rattle.theory.specs.OneSearch.{boxes}
use Rattle.theory.proofs.Reaching.{reach→hops, box_there, box_reach}
use Rattle.theory.proofs.Depth.{node_number, box_number}
use Rattle.theory.proofs.Running.{run_reach}
use Rattle.walk.specs.Shown.{mark_of}
use Rattle.report.specs.Text.{numbers_text, star_text, line_feed, state_line, run_lines, size_line, yes_no, answer_line, head_text}
use Rattle.report.specs.Report.{FewBoxes}

-- each number of a state is below p
abbrev Small : ℕ → State → Type 0
Small p (at n) = n < p
Small p (within b s) = (b < p) × Small p s

module _ {m : Meaning} (L : Lawful m) where
  node_small : {i n : ℕ} → HopReach m i (m.entry i) (at n) → n < m.places
  node_small (a_node e h) = (node_number L e).1

  reach_small : (s : State) (i : ℕ) → i < m.structures → Reach m i s → Small m.places s
  reach_small (at n) i h p = node_small (reach→hops L h p)
  reach_small (within b s) i h p =
      let r = reach→hops L h p in
      let c = box_there L r in
      ((box_number L c.1).1, reach_small s c.0 (L.inner i b c.0 c.1).1 (box_reach L r c.1))

number_length : (n : ℕ) → n ≤ 1024 → length (decimal n) ≤ 4
number_length n h = length-decimal-le 4 n (omega arith) (omega (arith, h)) (omega (arith, h))

numbers_length : (p : ℕ) → p ≤ 1024 → (s : State) → Small p s → length (numbers_text s) ≤ 5 * boxes s + 4
numbers_length p q (at n) h = omega (arith, number_length n (omega (arith, h, q)))
numbers_length p q (within b s) h =
    omega (arith, number_length b (omega (arith, h.0, q)), numbers_length p q s h.1, length-append (decimal b) (46 ∷ numbers_text s))

star_length : (b : Bool) → length (star_text b ++ line_feed) ≤ 2
star_length true = omega arith
star_length false = omega arith

line_length : (m : Meaning) (p : ℕ) → p ≤ 1024 → (s : State) → Small p s → boxes s < 32 → length (state_line m s) ≤ 161
line_length m p q s h d =
    omega (arith, numbers_length p q s h, d, star_length (mark_of m s), length-append (numbers_text s) (star_text (mark_of m s) ++ line_feed))

lines_length : (m : Meaning) (s : ℕ → State) → ((k : ℕ) → length (state_line m (s k)) ≤ 161) → (n : ℕ) → length (run_lines m s n) ≤ n * 161
unfolding run_lines
lines_length m s h zero = omega arith
lines_length m s h (suc n) = omega (arith, h n, lines_length m s h n, length-append (run_lines m s n) (state_line m (s n)))

-- the first six states of a run
pub six_lines : (m : Meaning) → Lawful m → m.large ≡ false → FewBoxes m → (r : Run m) → length (run_lines m r.state 6) ≤ 966
six_lines m L fits few r =
    let z = L.sized fits in
    let top : 0 < m.structures = omega (arith, z.0) in
    lines_length m r.state (λ k. line_length m m.places z.3 (r.state k) (reach_small L (r.state k) 0 top (run_reach r k)) (few (r.state k) (run_reach r k))) 6

-- ---- the head
answer_length : (name : List ℕ) (b : Bool) → length (answer_line name b) ≤ length name + 4
answer_length name true = omega (arith, length-append name (yes_no true ++ line_feed))
answer_length name false = omega (arith, length-append name (yes_no false ++ line_feed))

size_length : (s p : ℕ) → s ≤ 1024 → p ≤ 1024 → length (size_line s p) ≤ 15
size_length s p h k =
    omega (arith, number_length s h, number_length p k, length-append (codes "size ") (decimal s ++ (32 ∷ (decimal p ++ line_feed))), length-append (decimal s) (32 ∷ (decimal p ++ line_feed)), length-append (decimal p) line_feed)

pub head_length : (s p : ℕ) (reach recur : Bool) → s ≤ 1024 → p ≤ 1024 → length (head_text s p reach recur) ≤ 35
head_length s p reach recur h k =
    let a = answer_length (codes "reach ") reach in
    let b = answer_length (codes "recur ") recur in
    omega (arith, size_length s p h k, a, b, length-append (size_line s p) (answer_line (codes "reach ") reach ++ answer_line (codes "recur ") recur), length-append (answer_line (codes "reach ") reach) (answer_line (codes "recur ") recur))
