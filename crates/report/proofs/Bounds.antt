-- A chart, and a layer of one monitor over it, are never too large, and their reachable states have few boxes.
-- Assumes nothing.
use Rattle.std.proofs.Common.{◌≡◌, ◌*◌, ◌≤◌, false, ◌||◌, [], ◌∷◌, length, refl, ◌∙◌, mul-le-mul, arith}
use Rattle.std.proofs.lemmas.Bool.{le-ltb}
use Rattle.sheet.specs.Sheet.{meaning_of, longest}
use Rattle.sheet.proofs.Means.{longest_le}
use Rattle.chart.specs.declared.chart.Chart.{Chart}
use Rattle.chart.specs.Charts.{sheet}
use Rattle.chart.specs.Lawful.{chart_lawful}
use Rattle.monitor.specs.declared.Monitor.{Monitor}
use Rattle.monitor.specs.Product.{product, width, overflows}
use Rattle.monitor.specs.Tables.{automaton_of, monitor_proper}
use Rattle.layer.proofs.Numbers.{width_few}
use Rattle.theory.proofs.Depth.{shallow}
use Rattle.piles.proofs.Piles.{product_large}
use Rattle.piles.proofs.Depth.{pile_depth}
use Rattle.report.specs.Report.{FewBoxes}

structures_few : (c : Chart) → length (sheet c) ≤ 32
structures_few c = omega (arith, c.structures, c.few)

places_few : (c : Chart) → longest (sheet c) ≤ 16
places_few c = longest_le (sheet c) 16 c.places

pub chart_boxes : (c : Chart) → FewBoxes (meaning_of (sheet c))
chart_boxes c s r = omega (arith, shallow (meaning_of (sheet c)) (chart_lawful c) refl s r, structures_few c)

pub layer_fits : (c : Chart) (k : Monitor) → (product (meaning_of (sheet c)) (automaton_of k)).large ≡ false
unfolding overflows
layer_fits c k =
    let s : length (sheet c) * width (automaton_of k) ≤ 32 * 8 = mul-le-mul (structures_few c) (width_few k) in
    let p : longest (sheet c) * width (automaton_of k) ≤ 16 * 8 = mul-le-mul (places_few c) (width_few k) in
    let q = le-ltb 1024 (length (sheet c) * width (automaton_of k)) (omega (arith, s)) in
    let o = le-ltb 1024 (longest (sheet c) * width (automaton_of k)) (omega (arith, p)) in
    product_large (meaning_of (sheet c)) (automaton_of k) ∙ (λ x. q x || o x)

pub layer_boxes : (c : Chart) (k : Monitor) → FewBoxes (product (meaning_of (sheet c)) (automaton_of k))
layer_boxes c k s r =
    omega (arith, pile_depth (meaning_of (sheet c)) (chart_lawful c) (automaton_of k ∷ []) (monitor_proper k, tt) (layer_fits c k) s r, structures_few c)
