use Rattle.std.proofs.Common.{◌≡◌, ◌<◌, ◌≤◌, max, List, length, get_or, set, sym, ap, ◌∙◌, subst, ⊎_elim, arith, rules}
use Rattle.std.proofs.lemmas.List.{length-set, get_or-set_same, get_or-set_other}
use Rattle.std.proofs.lemmas.Bool.{cases_eq}
use Rattle.sheet.specs.Sheet.{Sheet, longest}
use Rattle.sheet.specs.Laws.{Sound}
use Rattle.sheet.proofs.Longest.{longest_set}
use Rattle.chart.specs.declared.row.Row.{Row}
use Rattle.chart.specs.Layout.{sheet_of, structure_of, Counts}
use Rattle.chart.proofs.Tables.{sheet_set, length_sheet, few_at}
use Rattle.chart.proofs.chart.Chart.write.Goals as goal

pub offset_bounds-table-i : goal.offset_bounds-table-i
offset_bounds-table-i c = let h : c.args.i < 32 = omega (arith, c.requires.within, c.args.self.now.structures) in search rules

pub bounds-table-i : goal.bounds-table-i
bounds-table-i c = omega (arith, c.requires.within, c.args.self.now.structures)

pub invariant_of-self : goal.invariant_of-self
invariant_of-self c =
    let t = c.args.self.now.table in
    let n = c.args.self.now.count in
    let i = c.args.i in
    let row = c.args.row in
    let l : i < n = omega (arith, c.requires.within, c.args.self.now.structures) in
    let t' : List Row = set t i row in
    let rows : length t' ≡ 32 = simp length-set c.args.self.now.rows in
    let k : Counts n t' = λ k r h. ⊎_elim
    (λ e. subst (λ (z : Row). z.used ≤ 16) (sym (ap (λ z. get_or (set t i row) z r) e ∙ get_or-set_same t i row r (omega arith))) c.requires.few)
    (λ ne. subst (λ (z : Row). z.used ≤ 16) (sym (get_or-set_other t i k row r ne)) (c.args.self.now.counts k r h))
    (cases_eq k i) in
    let e : longest (sheet_of n t') ≡ max (longest (sheet_of n t)) (length (structure_of row).places)
    = ap longest (sheet_set n t i row) ∙ longest_set (sheet_of n t) i (structure_of row) c.requires.within c.requires.more in record {
      rows = rows;
      some = c.args.self.now.some;
      few = c.args.self.now.few;
      counts = k;
      structures = length_sheet n t' (omega arith);
      places = few_at n t' (omega arith) k;
      longest = omega (arith, e, c.max.ensures, c.size.ensures.size, c.args.self.now.longest);
      sound = subst (λ (s : Sheet). ∥ Sound s ∥₁) (sym (sheet_set n t i row)) c.requires.sound;
    }

pub returns : goal.returns
returns c = sheet_set c.args.self.now.count c.args.self.now.table c.args.i c.args.row
