-- The most of the sizes, or 0 if there are none, is the largest.
use Rattle.std.proofs.Common.{◌∙◌}
use Rattle.std.proofs.lemmas.Iterator.{YieldsList-from_slice}
use Rattle.std.proofs.lemmas.Iterator.Consumers.{YieldsList-from_copied, max_from_yields_List}
use Rattle.wheel.specs.Made.{sizes_of}
use Rattle.wheel.proofs.Sizes.{most_is}
use Rattle.wheel.proofs.Wheel.largest.Goals as goal

pub returns : goal.returns
returns c =
    let sizes = sizes_of c.args.self.now in
    let most = max_from_yields_List _ _ c.max.ensures.ran (YieldsList-from_copied (YieldsList-from_slice sizes cc)) in
    c.unwrap_or.ensures ∙ most_is sizes c.max.result most
