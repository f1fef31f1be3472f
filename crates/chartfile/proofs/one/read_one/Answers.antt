use Rattle.std.proofs.Common.{is_ok, sym, refl, ap, ◌∙◌, ap₂, arith}
use Rattle.std.proofs.lemmas.Result.{err_from_is_err_and}
use Rattle.chartfile.specs.Files.{drawing, unreadable, misplaced, by_call}
use Rattle.chartfile.proofs.one.read_one.Goals as goal

pub returns-in_err-record-clause-read : goal.returns-in_err-record-clause-read
returns-in_err-record-clause-read c =
    let p = err_from_is_err_and c.from_residual.result c.from_residual.ensures.1 in
    rw (p.1, p.2) (record { refused = unreadable c.in_err-record.ensures; unchanged = refl })

pub returns-then-is_begin-first-clause-read : goal.returns-then-is_begin-first-clause-read
returns-then-is_begin-first-clause-read c = record {
  refused = misplaced c.in_ok-record.record c.in_ok-record.rest.now c.in_ok-record.ensures (λ e. grind arith);
  unchanged = refl;
}

pub returns-in_err-perform-clause-read : goal.returns-in_err-perform-clause-read
returns-in_err-perform-clause-read c =
    let p = err_from_is_err_and c.from_residual-in_err-perform.result c.from_residual-in_err-perform.ensures.1 in
    let kept = c.perform.ensures.unchanged (ap is_ok c.in_err-perform.was) in
    rw (p.1, p.2) (record {
      refused = by_call c.in_ok-record.record c.in_ok-record.rest.now c.in_ok-record.ensures (grind arith) (sym c.perform.ensures.answer ∙ c.in_err-perform.was);
      unchanged = ap₂ drawing kept.0 kept.1;
    })
