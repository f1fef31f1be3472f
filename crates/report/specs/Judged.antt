-- What is judged: a chart, bare or with one monitor laid over it.
-- Assumes nothing.
use Rattle.std.specs.Prelude.{Bool, true, false, Some, None, Option}
use Rattle.std.specs.Borrow.{Bor}
use Rattle.hierarchy.specs.Meaning.{Meaning}
use Rattle.sheet.specs.Sheet.{meaning_of}
use Rattle.chart.specs.declared.chart.Chart.{Chart}
use Rattle.chart.specs.Charts.{sheet}
use Rattle.monitor.specs.declared.Monitor.{Monitor}
use Rattle.monitor.specs.Product.{product}
use Rattle.monitor.specs.Tables.{automaton_of}
use Rattle.chartfile.specs.Records.{Drawing}

abbrev pub judged : Chart → Option (Bor Monitor) → Meaning
judged c None = meaning_of (sheet c)
judged c (Some k) = product (meaning_of (sheet c)) (automaton_of k.now)

-- the same of a drawing: its automaton is laid over if it is watched
abbrev pub judged_as : Drawing → Bool → Meaning
judged_as d false = meaning_of d.sheet
judged_as d true = product (meaning_of d.sheet) d.automaton
