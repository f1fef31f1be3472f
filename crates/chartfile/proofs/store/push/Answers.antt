use Rattle.std.proofs.Common.{suc, ◌∷◌, refl, ltb, arith}
use Rattle.std.proofs.lemmas.Bool.{le-ltb}
use Rattle.std.proofs.lemmas.List.Recursion.{and_fails_at}
use Rattle.std.proofs.lemmas.Result.{err_from_is_err_and}
use Rattle.chartfile.specs.Stored.{fit}
use Rattle.chartfile.proofs.store.push.Goals as goal

pub returns-in_err-try_from : goal.returns-in_err-try_from
returns-in_err-try_from c =
    let p = err_from_is_err_and c.from_residual-in_err-try_from.result c.from_residual-in_err-try_from.ensures.1 in
    rw (p.1, p.2)
    (and_fails_at fit (λ x. ltb x 256) refl (λ _ _. refl) (c.args.kind ∷ c.args.fields.now) (suc c.loop-field.field-index) 0
    (omega arith) (le-ltb _ 256 (omega (arith, c.in_err-try_from.ensures))))
