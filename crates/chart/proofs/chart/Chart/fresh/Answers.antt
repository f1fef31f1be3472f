use Rattle.std.proofs.Common.{◌≤◌, replicate, sym, refl, ap, ◌∙◌, subst, arith}
use Rattle.std.proofs.lemmas.List.{get_or-replicate}
use Rattle.sheet.specs.Sheet.{longest}
use Rattle.sheet.specs.Laws.{Sound}
use Rattle.sheet.proofs.Longest.{longest_begun}
use Rattle.sheet.proofs.Keeps.{begun_sound}
use Rattle.chart.specs.declared.row.Row.{Row}
use Rattle.chart.specs.Layout.{Counts}
use Rattle.chart.proofs.Tables.{sheet_replicate, length_sheet, few_at}
use Rattle.chart.proofs.chart.Chart.fresh.Goals as goal

pub invariant_of-result : goal.invariant_of-result
invariant_of-result c =
    let n = c.args.structures in
    let t = replicate 32 c.first.result in
    let e = sheet_replicate n c.first.result c.requires.1 c.first.ensures.is in
    let k : Counts n t
    = λ k r h. subst (λ (z : Row). z.used ≤ 16) (sym (get_or-replicate 32 k c.first.result r (omega arith))) (omega (arith, c.first.ensures.used)) in record {
      rows = refl;
      some = c.requires.0;
      few = c.requires.1;
      counts = k;
      structures = length_sheet n t c.requires.1;
      places = few_at n t c.requires.1 k;
      longest = sym (ap longest e ∙ longest_begun n c.requires.0);
      sound = ∣ subst Sound (sym e) (begun_sound n) ∣₁;
    }

pub returns : goal.returns
returns c = sheet_replicate c.args.structures c.first.result c.requires.1 c.first.ensures.is
