-- An entry or an item leads to the next place, an end of structure 0 back.
use Rattle.std.proofs.Common.{◌≡◌, true, false, ◌&&◌, ◌||◌, eqb, ap, ◌∙◌, arith}
use Rattle.wheel.specs.Meaning.{is_entry_lem, is_item_lem}
use Rattle.wheel.specs.Made.{sizes_of}
use Rattle.wheel.proofs.Bounds.{next_small}
use Rattle.wheel.proofs.Rims.{leads_next, leads_back}
use Rattle.wheel.proofs.Wheel.leads.Goals as goal

pub overflow_add-result : goal.overflow_add-result
overflow_add-result c =
    let w = c.args.self.now in
    let on : (is_entry_lem (sizes_of w) c.args.i c.args.p || is_item_lem (sizes_of w) c.args.i c.args.p) ≡ true = cc in
    omega (arith, next_small w c.args.i c.args.p on)

pub returns-then-is_entry-is_item : goal.returns-then-is_entry-is_item
returns-then-is_entry-is_item c =
    let sizes = sizes_of c.args.self.now in
    let on : (is_entry_lem sizes c.args.i c.args.p || is_item_lem sizes c.args.i c.args.p) ≡ true = cc in
    leads_next sizes c.args.i c.args.p c.args.w on

pub returns : goal.returns
returns c =
    let sizes = sizes_of c.args.self.now in
    let off : (is_entry_lem sizes c.args.i c.args.p || is_item_lem sizes c.args.i c.args.p) ≡ false = cc in
    ap (λ t. t && eqb c.args.w 0) c.is_outer_end.ensures ∙ leads_back sizes c.args.i c.args.p c.args.w off
