use Rattle.std.proofs.Common.{◌≡◌, ◌∷◌, ◌++◌, take, vec_items}
use Rattle.chartfile.proofs.store.push.Given as goal

abbrev pub invariant-loop-field : goal.invariant-loop-field
invariant-loop-field l = vec_items l.out ≡ vec_items l.fn.out ++ l.kind ∷ take l.field-index l.fields
