-- What the searches find is the verdict, by the theorems about hops.
use Rattle.std.proofs.Common.{◌≡◌, length, Some, Err, rules}
use Rattle.hierarchy.specs.declared.refusal.Refusal.TheVariants.{TooLittleMemory}
use Rattle.judge.specs.Verdicts.{judge_refusal}
use Rattle.hierarchy.proofs.Told.{fits_is}
use Rattle.judge.proofs.Judging.{not_refused, reach_told, recur_told}
use Rattle.judge.proofs.Piles.{judged_as_pile}
use Rattle.judge.proofs.judge.Goals as goal

pub returns-in_err-structures-clause-piles : goal.returns-in_err-structures-clause-piles
returns-in_err-structures-clause-piles g c =
    let m = g.B.Hierarchy.meaning c.args.h.now in
    judged_as_pile m _ _ (search rules) (search rules)

pub returns-then-guide-structures-clause-piles : goal.returns-then-guide-structures-clause-piles
returns-then-guide-structures-clause-piles g c =
    let m = g.B.Hierarchy.meaning c.args.h.now in
    let refused : Some TooLittleMemory ≡ judge_refusal m (length c.args.guide.now) = search rules in
    judged_as_pile m _ (Err TooLittleMemory) refused tt

pub returns-clause-reach : goal.returns-clause-reach
returns-clause-reach g c =
    let m = g.B.Hierarchy.meaning c.args.h.now in
    let L = g.B.Hierarchy.lawful c.args.h.now in
    let f = fits_is m c.in_ok-structures.field-0.structures c.in_ok-structures.field-0.places (search rules) in
    reach_told m L f.0 _ c.marked_any-reach.ensures

pub returns-clause-recur : goal.returns-clause-recur
returns-clause-recur g c =
    let m = g.B.Hierarchy.meaning c.args.h.now in
    let L = g.B.Hierarchy.lawful c.args.h.now in
    let f = fits_is m c.in_ok-structures.field-0.structures c.in_ok-structures.field-0.places (search rules) in
    let recur = recur_told m L f.0 _ _ c.find_ring-recur.ensures in
    recur

pub returns-clause-piles : goal.returns-clause-piles
returns-clause-piles g c =
    let m = g.B.Hierarchy.meaning c.args.h.now in
    let L = g.B.Hierarchy.lawful c.args.h.now in
    let f = fits_is m c.in_ok-structures.field-0.structures c.in_ok-structures.field-0.places (search rules) in
    let refused = not_refused m _ _ _ f.0 f.1 f.2 c.if-guide-structures.false in
    let recur = recur_told m L f.0 _ _ c.find_ring-recur.ensures in
    judged_as_pile m _ _ refused recur
