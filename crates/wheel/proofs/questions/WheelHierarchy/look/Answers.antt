-- The letter, by the tests that the code makes.
use Rattle.std.proofs.Common.{◌≡◌, true, false, ◌&&◌, eqb}
use Rattle.wheel.specs.Meaning.{is_item_lem, is_end_lem, is_last}
use Rattle.wheel.specs.Made.{sizes_of}
use Rattle.wheel.proofs.Rims.{letter_marked, letter_item, letter_other}
use Rattle.wheel.proofs.questions.WheelHierarchy.look.Goals as goal

pub returns-then-mark : goal.returns-then-mark
returns-then-mark c =
    let sizes = sizes_of c.args.self.now in
    let marked : (eqb c.args.i 0 && is_end_lem sizes c.args.i c.args.p) ≡ true = cc in
    let letter = letter_marked sizes c.args.i c.args.p marked in
    cc

pub returns-then-is_item-is_last : goal.returns-then-is_item-is_last
returns-then-is_item-is_last c =
    let sizes = sizes_of c.args.self.now in
    let marked : (eqb c.args.i 0 && is_end_lem sizes c.args.i c.args.p) ≡ false = cc in
    let item : (is_item_lem sizes c.args.i c.args.p && is_last sizes c.args.i) ≡ true = cc in
    let letter = letter_item sizes c.args.i c.args.p marked item in
    cc

pub returns-else-is_item-is_last : goal.returns-else-is_item-is_last
returns-else-is_item-is_last c =
    let sizes = sizes_of c.args.self.now in
    let marked : (eqb c.args.i 0 && is_end_lem sizes c.args.i c.args.p) ≡ false = cc in
    let item : (is_item_lem sizes c.args.i c.args.p && is_last sizes c.args.i) ≡ false = cc in
    let letter = letter_other sizes c.args.i c.args.p marked item in
    cc
