-- Below the levels the sizes that count are the first of the array; beyond them there are none.
use Rattle.std.proofs.Common.{take, sym, arith}
use Rattle.std.proofs.lemmas.List.{get_or-take, get_or_past, length-take-le}
use Rattle.wheel.specs.Made.{sizes_of}
use Rattle.wheel.proofs.Bounds.{size_small}
use Rattle.wheel.proofs.Wheel.level_size.Goals as goal

pub returns-then-k-self-clause-size : goal.returns-then-k-self-clause-size
unfolding sizes_of
returns-then-k-self-clause-size c =
    let w = c.args.self.now in
    sym (get_or-take w.levels w.sizes c.args.k 0 c.if-k-self.true)

pub returns-then-k-self-clause-small : goal.returns-then-k-self-clause-small
returns-then-k-self-clause-small c = omega (arith, returns-then-k-self-clause-size c, size_small c.args.self.now c.args.k)

pub returns-else-k-self-clause-size : goal.returns-else-k-self-clause-size
unfolding sizes_of
returns-else-k-self-clause-size c =
    let w = c.args.self.now in
    let all = length-take-le w.levels w.sizes (omega (arith, w.few, w.room)) in
    sym (get_or_past (take w.levels w.sizes) c.args.k 0 (omega (arith, c.if-k-self.false, all)))
