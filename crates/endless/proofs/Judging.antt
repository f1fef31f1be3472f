-- From what the judge and the walk promise to what is promised of both in one call.
use Rattle.std.proofs.Common.{◌≡◌, ℕ, ◌+◌, ◌*◌, Bool, true, false, cond, ltb, List, is_some, Some, None, Ok, Err, Option, Result, sym, refl, ap, ◌∙◌, subst, ap₂}
use Rattle.std.specs.Result.{result_err}
use Rattle.hierarchy.specs.Meaning.{Meaning, Lawful}
use Rattle.hierarchy.specs.Flat.{Recurs}
use Rattle.hierarchy.specs.declared.refusal.Refusal.{Refusal}
use Rattle.hierarchy.specs.declared.refusal.Refusal.TheVariants.{TooLarge, TooLittleMemory}
use Rattle.monitor.specs.Automata.{Automaton, AllProper}
use Rattle.monitor.specs.Product.{laid}
use Rattle.monitor.specs.Piles.{GoodRun, widths}
use Rattle.piles.proofs.Piles.{pile_good, pile_large, pile_sizes}
use Rattle.guide.specs.declared.GuideRecord.{GuideRecord}
use Rattle.guide.specs.Trees.{Good}
use Rattle.judge.specs.Known.{Decides}
use Rattle.judge.specs.Piles.{pile_need}
use Rattle.judge.specs.Verdicts.{guide_need}
use Rattle.walk.specs.declared.frame.Frame.{Frame}
use Rattle.walk.specs.declared.steps.Walk.{Walk}
use Rattle.walk.specs.Walks.{walk, ShowsRun}
use Rattle.walk.specs.Steps.{lacking, guide_for, guide_home, levels, ring_home, state_shown}
use Rattle.walk.specs.Journeys.{state_after}
use Rattle.walk.proofs.Answered.{not_large}
use Rattle.endless.specs.declared.Judgment.{Judgment}
use Rattle.endless.specs.Judgments.{OnJudgment, pile_lacking, JudgedPiles, WalksOn}

-- ---- refusals
abbrev lacking_by : Bool → ℕ → ℕ → ℕ → ℕ → Option Refusal
lacking_by large records need frames structures =
    cond large (Some TooLarge) (cond (ltb records need) (Some TooLittleMemory) (cond (ltb frames structures) (Some TooLittleMemory) None))

lacking_same : (large : Bool) (records need need' frames structures structures' : ℕ) → (large ≡ false → (need ≡ need') × (structures ≡ structures'))
    → lacking_by large records need frames structures ≡ lacking_by large records need' frames structures'
lacking_same true records need need' frames structures structures' e = refl
lacking_same false records need need' frames structures structures' e =
    ap₂ (λ n s. lacking_by false records n frames s) (e refl).0 (e refl).1

pub pile_lacks : (b : Meaning) → Lawful b → (automata : List Automaton) → AllProper automata → (records frames : ℕ)
    → lacking (laid automata b) records frames ≡ pile_lacking b automata records frames
pile_lacks b l automata p records frames =
    let m = laid automata b in
    lacking_same m.large records (guide_need m) (pile_need b automata) frames m.structures (b.structures * widths automata)
    (λ e. let s = pile_sizes b automata e in (ap₂ (λ x y. (x + 1) * y) s.0 s.1, s.0))
    ∙ ap (λ (large : Bool). lacking_by large records (pile_need b automata) frames (b.structures * widths automata)) (pile_large b l automata p)

-- ---- verdicts
pub judged_piles : (m : Meaning) (records frames : ℕ) (r : Result Judgment Refusal) → result_err r ≡ lacking m records frames
    → OnJudgment (λ j. Decides (is_some j.walk) (Recurs m)) r → JudgedPiles m records frames r
judged_piles m records frames r h d b automata l p e =
    let h' : result_err r ≡ lacking (laid automata b) records frames = subst (λ (k : Meaning). result_err r ≡ lacking k records frames) e h in
    let d' : OnJudgment (λ j. Decides (is_some j.walk) (Recurs (laid automata b))) r
    = subst (λ (k : Meaning). OnJudgment (λ j. Decides (is_some j.walk) (Recurs k)) r) e d in
    record { refused = h' ∙ pile_lacks b l automata p records frames; recur = by_runs r h' d' }
  where
    by_runs : (r : Result Judgment Refusal) → result_err r ≡ lacking (laid automata b) records frames
        → OnJudgment (λ j. Decides (is_some j.walk) (Recurs (laid automata b))) r → OnJudgment (λ j. Decides (is_some j.walk) (GoodRun b automata)) r
    by_runs (Err e) h d = tt
    by_runs (Ok v) h d =
        let g = pile_good b l automata p (not_large (laid automata b) records frames (sym h)) in
        record { sure = λ e. g.0 (d.sure e); never = λ e x. d.never e (g.1 x) }

-- ---- walks
pub walks_on : (m : Meaning) (guide : List GuideRecord) (frames : List Frame) (home n : ℕ) (w : Walk)
    → Good m (guide_home m guide home) → ShowsRun m (guide_home m guide home)
    → ring_home w ≡ home → state_shown m w frames ≡ state_after m guide home n
    → levels m (guide_for m guide w) w frames ≡ walk m (guide_for m guide w) n → WalksOn m guide frames n w
walks_on m guide frames home n w good shows at here stands = record {
  run = shows.run;
  often = shows.often;
  along = record {
    here = here ∙ sym (shows.shows n);
    ahead = λ k. ap (λ h. state_after m guide h k) at ∙ sym (shows.shows k);
    good = subst (λ (h : ℕ). Good m (guide_home m guide h)) (sym at) good;
    stands = stands;
  };
}
