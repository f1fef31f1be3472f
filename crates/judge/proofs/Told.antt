-- What an answer says of the meaning.
-- Assumes nothing.
use Rattle.std.proofs.Common.{◌≡◌, ℕ, ◌<◌, true}
use Rattle.hierarchy.specs.Meaning.{Meaning, Lawful}
use Rattle.judge.specs.declared.spread.Leads.{Leads}
use Rattle.judge.specs.declared.spread.Leads.TheVariants.{Edges, Leaves}
use Rattle.judge.specs.Spread.{leads}

-- hops lead to places of the structure
pub leads_inside : (m : Meaning) (L : Lawful m) (i : ℕ) (h : Leads) (w : ℕ) → leads m i h w ≡ true → w < m.places
leads_inside m L i (Edges v) w t = (L.within _ w (L.edge_to _ _ w t)).1
leads_inside m L i (Leaves v e) w t = (L.within _ w (L.leave_to _ _ _ w t)).1
