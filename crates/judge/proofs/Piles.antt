-- A verdict on a pile is one on the good runs of its bottom, and its refusals are the size formulas worked from there.
use Rattle.std.proofs.lemmas.Grind.{common_steps}
use Rattle.std.proofs.Common.{◌≡◌, ℕ, ◌+◌, ◌*◌, Bool, false, cond, ltb, List, is_some, Some, None, Ok, Err, Option, Result, sym, ap, ◌∙◌, subst, ap₂, arith}
use Rattle.std.specs.Result.{result_err}
use Rattle.hierarchy.specs.Meaning.{Meaning, Lawful}
use Rattle.hierarchy.specs.Flat.{Recurs}
use Rattle.hierarchy.specs.declared.refusal.Refusal.{Refusal}
use Rattle.hierarchy.specs.declared.refusal.Refusal.TheVariants.{TooLarge, TooLittleMemory}
use Rattle.monitor.specs.Automata.{Automaton, AllProper}
use Rattle.monitor.specs.Product.{laid}
use Rattle.monitor.specs.Piles.{GoodRun}
use Rattle.piles.proofs.Piles.{pile_good, pile_large, pile_sizes}
use Rattle.judge.specs.declared.Verdict.{Verdict}
use Rattle.judge.specs.Known.{Decides}
use Rattle.judge.specs.Verdicts.{OnVerdict, judge_refusal, guide_need}
use Rattle.judge.specs.Piles.{pile_need, pile_refusal, JudgedAsPile}

abbrev refusal_by : Bool → ℕ → ℕ → Option Refusal
refusal_by large n need = cond large (Some TooLarge) (cond (ltb n need) (Some TooLittleMemory) None)

refusal_same : (large : Bool) (n need need' : ℕ) → (large ≡ false → need ≡ need') → refusal_by large n need ≡ refusal_by large n need'
refusal_same large n need need' h1 = grind (arith, common_steps)

-- a judgment that is not refused is of what is not too large
fits_unrefused : (large : Bool) (n need : ℕ) → refusal_by large n need ≡ None → large ≡ false
fits_unrefused large n need h1 = grind (arith, common_steps)

pub pile_refused : (b : Meaning) → Lawful b → (automata : List Automaton) → AllProper automata → (n : ℕ)
    → judge_refusal (laid automata b) n ≡ pile_refusal b automata n
pile_refused b l automata p n =
    let m = laid automata b in
    refusal_same m.large n (guide_need m) (pile_need b automata)
    (λ e. let s = pile_sizes b automata e in ap₂ (λ x y. (x + 1) * y) s.0 s.1)
    ∙ ap (λ (large : Bool). refusal_by large n (pile_need b automata)) (pile_large b l automata p)

module _ (b : Meaning) (l : Lawful b) (automata : List Automaton) (p : AllProper automata) (n : ℕ) where
  recurs_by_runs : (r : Result Verdict Refusal) → result_err r ≡ judge_refusal (laid automata b) n
      → OnVerdict (λ v. Decides (is_some v.recur) (Recurs (laid automata b))) r
      → OnVerdict (λ v. Decides (is_some v.recur) (GoodRun b automata)) r
  recurs_by_runs (Err e) h d = tt
  recurs_by_runs (Ok v) h d =
      let m = laid automata b in
      let f : m.large ≡ false = fits_unrefused m.large n (guide_need m) (sym h) in
      let g = pile_good b l automata p f in
      record { sure = λ e. g.0 (d.sure e); never = λ e x. d.never e (g.1 x) }

pub judged_as_pile : (m : Meaning) (n : ℕ) (r : Result Verdict Refusal) → result_err r ≡ judge_refusal m n
    → OnVerdict (λ v. Decides (is_some v.recur) (Recurs m)) r → JudgedAsPile m n r
judged_as_pile m n r h d b automata l p e =
    let h' : result_err r ≡ judge_refusal (laid automata b) n = subst (λ (k : Meaning). result_err r ≡ judge_refusal k n) e h in
    let d' : OnVerdict (λ v. Decides (is_some v.recur) (Recurs (laid automata b))) r
    = subst (λ (k : Meaning). OnVerdict (λ v. Decides (is_some v.recur) (Recurs k)) r) e d in
    record { refused = h' ∙ pile_refused b l automata p n; recur = recurs_by_runs b l automata p n r h' d' }
