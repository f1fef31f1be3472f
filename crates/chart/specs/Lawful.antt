-- Every chart means a lawful hierarchy: the term that a chart gives for the laws of the interface.
-- Assumes nothing.
use Rattle.std.proofs.Common.{arith}
use Rattle.hierarchy.specs.Meaning.{Lawful}
use Rattle.chart.specs.declared.chart.Chart.{Chart}
use Rattle.sheet.specs.Sheet.{meaning_of}
use Rattle.chart.specs.Charts.{sheet}
use Rattle.sheet.proofs.Means.{sheet_lawful, sound_from}

pub chart_lawful : (c : Chart) → Lawful (meaning_of (sheet c))
chart_lawful c =
    sheet_lawful (sheet c) (sound_from (sheet c) c.sound) (omega (arith, c.structures)) (omega (arith, c.structures)) c.places
