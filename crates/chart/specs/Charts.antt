-- The sheet of a chart.
-- Assumes nothing.
use Rattle.chart.specs.declared.chart.Chart.{Chart}
use Rattle.sheet.specs.Sheet.{Sheet}
use Rattle.chart.specs.Layout.{sheet_of}

abbrev pub sheet : Chart → Sheet
sheet c = sheet_of c.count c.table
