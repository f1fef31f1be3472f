use Rattle.std.proofs.Common.{◌≡◌, ℕ, Bool, false, [], ◌∷◌, replicate, ap, ap₂, ◌∙◌, arith, rules}
use Rattle.std.proofs.lemmas.List.{get_or-replicate}
use Rattle.sheet.specs.declared.Spot.TheVariants.{Node}
use Rattle.chart.specs.Layout.{ends_of, no_bits, pairs_of, triples_of, structure_of}
use Rattle.sheet.specs.Changes.{no_ends, no_pairs}
use Rattle.chart.proofs.Tables.{all_read, no_bits_ends, no_bits_pairs}
use Rattle.chart.proofs.row.Row.first.Goals as goal

pub returns-clause-is : goal.returns-clause-is
unfolding structure_of
returns-clause-is c =
    let none = c.default-none.result in
    let e : pairs_of none ≡ no_pairs
    = all_read ends_of none.from no_bits no_ends (λ k d h. search (rules, c.default-none.ensures.at k d (omega (arith, c.default-none.ensures.long)))) no_bits_ends in
    let l : triples_of (replicate 16 none) ≡ (λ _. no_pairs)
    = all_read pairs_of (replicate 16 none) (record { from = [] }) no_pairs (λ k d h. ap pairs_of (get_or-replicate 16 k none d h) ∙ e) no_bits_pairs in
    ap₂ (λ (e : ℕ → ℕ → Bool) (t : ℕ → ℕ → ℕ → Bool). record { places = Node 0 false ∷ []; edge = e; leave = t }) e l
