-- Each state of a run ends in a node of its last structure, and stands in boxes.
-- Assumes nothing.
use Rattle.std.proofs.Common.{◌≡◌, ℕ, zero, suc, ◌<◌, sym, subst}
use Rattle.hierarchy.specs.Meaning.{Meaning, Lawful, node}
use Rattle.hierarchy.specs.Flat.{State, last_structure, last_node, Enter, to_node, to_box, Step, by_edge, by_leave, inside}
use Rattle.hierarchy.specs.Runs.{Run}

module _ (m : Meaning) (law : Lawful m) where
  abbrev EndsInNode : ℕ → State → Type 0
  EndsInNode i s = m.place (last_structure m i s) (last_node s) ≡ node

  enter_ends_in_node : {i w : ℕ} {t : State} → Enter m i w t → EndsInNode i t
  enter_ends_in_node (to_node e) = e
  enter_ends_in_node {i} {w} (to_box {j} e) = rw e (law.entered j (law.inner i w j e).1)

  step_ends_in_node : {i : ℕ} {s t : State} → Step m i s t → EndsInNode i t
  step_ends_in_node (by_edge h enters) = enter_ends_in_node enters
  step_ends_in_node (by_leave h enters) = enter_ends_in_node enters
  step_ends_in_node (inside {i} {b} {j} {s} {t} e st) = rw e (step_ends_in_node st)

  pub run_ends_in_node : 0 < m.structures → (r : Run m) (n : ℕ) → m.place (last_structure m 0 (r.state n)) (last_node (r.state n)) ≡ node
  run_ends_in_node some r zero = subst (EndsInNode 0) (sym r.begins) (law.entered 0 some)
  run_ends_in_node some r (suc n) = step_ends_in_node (r.moves n)
