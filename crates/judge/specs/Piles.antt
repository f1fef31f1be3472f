-- A judgment of a pile, worked from the hierarchy at its bottom and the automata laid over it.
-- Assumes nothing.
use Rattle.std.specs.Prelude.{◌≡◌, ℕ, ◌+◌, ◌*◌, cond, List, is_some, Some, None, Option, Result, nat_lt}
use Rattle.std.specs.Result.{result_err}
use Rattle.hierarchy.specs.Meaning.{Meaning, Lawful}
use Rattle.hierarchy.specs.declared.refusal.Refusal.{Refusal}
use Rattle.hierarchy.specs.declared.refusal.Refusal.TheVariants.{TooLarge, TooLittleMemory}
use Rattle.monitor.specs.Automata.{Automaton, AllProper}
use Rattle.monitor.specs.Product.{laid}
use Rattle.monitor.specs.Piles.{GoodRun, widths, pile_too_large}
use Rattle.judge.specs.declared.Verdict.{Verdict}
use Rattle.judge.specs.Known.{Decides}
use Rattle.judge.specs.Verdicts.{OnVerdict}

-- the guide records that a pile needs: (S + 1) × P, with both sizes multiplied by the widths of the automata
abbrev pub pile_need : Meaning → List Automaton → ℕ
pile_need bottom automata = (bottom.structures * widths automata + 1) * (bottom.places * widths automata)

-- why a judgment of the pile with n guide records is refused, by the size formulas worked from the bottom's size
abbrev pub pile_refusal : Meaning → List Automaton → ℕ → Option Refusal
pile_refusal bottom automata n =
    cond (pile_too_large bottom automata) (Some TooLarge) (cond (nat_lt n (pile_need bottom automata)) (Some TooLittleMemory) None)

-- the judgment is refused exactly by the formulas; else it says "recurs" exactly if the bottom has a good run
pub record JudgedPile (bottom : Meaning) (automata : List Automaton) (n : ℕ) (r : Result Verdict Refusal) : Type 0 where
  pub refused : result_err r ≡ pile_refusal bottom automata n
  pub recur : OnVerdict (λ v. Decides (is_some v.recur) (GoodRun bottom automata)) r

-- so for every bottom and every list of automata of which m is the pile
abbrev pub JudgedAsPile : Meaning → ℕ → Result Verdict Refusal → Type 0
JudgedAsPile m n r =
    (bottom : Meaning) (automata : List Automaton) → Lawful bottom → AllProper automata → m ≡ laid automata bottom → JudgedPile bottom automata n r
