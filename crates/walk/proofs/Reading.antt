-- Reading trees from memory, edge by edge.
-- Assumes nothing.
use Rattle.std.proofs.Common.{◌≡◌, ℕ, zero, suc, ◌-◌, ◌<◌, ap, ◌∙◌, arith}
use Rattle.hierarchy.specs.Meaning.{Meaning}
use Rattle.guide.specs.declared.Entry.{Entry}
use Rattle.guide.specs.Trees.{Guide, entry_at, up}
use Rattle.walk.specs.declared.frame.Frame.{Frame}
use Rattle.walk.specs.Levels.{goal_of_lem, pass_level, inner}
use Rattle.walk.specs.Memory.{spot_told}
use Rattle.walk.specs.declared.read.Spot.{Spot}

-- what a level with edges left pushes into a box
pub inner_at : (m : Meaning) (g : Guide) (i : ℕ) (f : Frame) (j : ℕ) (goal s : Spot) (e : Entry) (q : Frame) (n : ℕ) →
    0 < n → spot_told goal ≡ goal_of_lem f → spot_told s ≡ up g.tree i (spot_told goal) (n - 1) → e ≡ entry_at g.tree i (spot_told s) →
    q ≡ pass_level m g j e → q ≡ inner m g i f j n
inner_at m g i f j goal s e q zero p l u c d = absurd (omega arith)
inner_at m g i f j goal s e q (suc n) p l u c d =
    let z : suc n - 1 ≡ n = omega arith in
    let w : spot_told s ≡ up g.tree i (goal_of_lem f) n = u ∙ (λ x. up g.tree i (l x) (z x)) in
    d ∙ ap (pass_level m g j) (c ∙ ap (entry_at g.tree i) w)
