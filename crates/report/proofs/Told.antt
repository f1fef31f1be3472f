-- From what is written to the report that it is: the head alone, or the head and the lines of an endless run.
-- Assumes nothing.
use Rattle.std.proofs.Common.{◌≡◌, ℕ, zero, suc, ◌≤◌, Bool, true, false, List, [], ◌++◌, length, is_some, Some, None, Option, sym, refl, ap, ◌∙◌, subst, arith}
use borrow.Author.Tests.{both_ways}
use Rattle.std.proofs.lemmas.List.{length-append}
use Rattle.hierarchy.specs.Meaning.{Meaning, Lawful}
use Rattle.hierarchy.specs.Flat.{State, Reaches, Recurs}
use Rattle.guide.specs.declared.GuideRecord.{GuideRecord}
use Rattle.judge.specs.Known.{Decides}
use Rattle.judge.specs.Verdicts.{home_of, Guides}
use Rattle.judge.specs.declared.FoundMark.{FoundMark}
use Rattle.judge.specs.declared.Verdict.{Verdict}
use Rattle.walk.specs.Steps.{guide_home}
use Rattle.walk.specs.Walks.{ShowsRun}
use Rattle.walk.proofs.Endless.{walk_shows_run}
use Rattle.report.specs.Text.{state_line, head_text, walk_state, run_lines}
use Rattle.report.specs.Writing.{Room}
use Rattle.report.specs.Report.{Report, FewBoxes}
use Rattle.report.proofs.Lengths.{head_length, six_lines}

same_lines : (m : Meaning) (s t : ℕ → State) → ((k : ℕ) → s k ≡ t k) → (n : ℕ) → run_lines m s n ≡ run_lines m t n
unfolding run_lines
same_lines m s t h zero = refl
same_lines m s t h (suc n) = ap (λ x. x ++ state_line m (s n)) (same_lines m s t h n) ∙ ap (λ (x : State). run_lines m t n ++ state_line m x) (h n)

-- the text was empty, and the size is that of the hierarchy
module _ (m : Meaning) (L : Lawful m) (fits : m.large ≡ false) (few : FewBoxes m) (s p : ℕ) (es : s ≡ m.structures) (ep : p ≡ m.places) {a : List ℕ} (none : a ≡ []) where
  head_fits : (reach recur : Bool) → length (head_text s p reach recur) ≤ 35
  head_fits reach recur = let z = L.sized fits in head_length s p reach recur (omega (arith, es, z.1)) (omega (arith, ep, z.3))

  pub head_room : (reach recur : Bool) → Room 2048 a (head_text s p reach recur)
  head_room reach recur = record { fits = omega (arith, head_fits reach recur, ap length none) }

  -- the head of a right verdict was written
  module _ (v : Verdict) (reach : Decides v.reach (Reaches m)) (recur : Decides (is_some v.recur) (Recurs m)) {b : List ℕ} (r : Bool) (e : r ≡ is_some v.recur) (w : b ≡ a ++ head_text s p v.reach r) where
    head_told : (x : Bool) → is_some v.recur ≡ x → b ≡ head_text m.structures m.places v.reach x
    head_told x f = w ∙ ap (λ t. t ++ head_text s p v.reach r) none ∙ (λ i. head_text (es i) (ep i) v.reach ((e ∙ f) i))

    pub head_only : v.recur ≡ None → {c : List ℕ} → c ≡ b → Report m c
    head_only is f =
        let no = ap (λ (o : Option FoundMark). is_some o) is in
        record {
          reach = v.reach;
          recur = false;
          reach_decided = reach;
          recur_decided = subst (λ x. Decides x (Recurs m)) no recur;
          endless = λ y. absurd (both_ways false refl y);
          stops = λ y. f ∙ head_told false no;
          walks = λ y. absurd (both_ways false refl y);
        }

    -- and then the states of the walk that its mark starts
    module _ (xs : List GuideRecord) (guides : Guides m xs v.recur) (found : FoundMark) (is : v.recur ≡ Some found) where
      shows : ShowsRun m (guide_home m xs (home_of found))
      shows = walk_shows_run m L fits (guide_home m xs (home_of found)) (subst (λ (o : Option FoundMark). Guides m xs o) is guides)

      lines : List ℕ
      lines = run_lines m (walk_state m xs (home_of found)) 6

      same : run_lines m shows.run.state 6 ≡ lines
      unfolding lines
      same = same_lines m shows.run.state (walk_state m xs (home_of found)) shows.shows 6

      pub states_room : Room 2048 b (run_lines m (walk_state m xs (home_of found)) 6)
      unfolding lines
      states_room =
          record { fits = omega (arith, head_fits v.reach r, six_lines m L fits few shows.run, ap length same, ap length none, ap length w, length-append a (head_text s p v.reach r)) }

      pub with_states : {c : List ℕ} → c ≡ b ++ run_lines m (walk_state m xs (home_of found)) 6 → Report m c
      unfolding lines
      with_states f =
          let yes = ap (λ (o : Option FoundMark). is_some o) is in
          record {
            reach = v.reach;
            recur = true;
            reach_decided = reach;
            recur_decided = subst (λ x. Decides x (Recurs m)) yes recur;
            endless = λ y. record { run = shows.run; often = shows.often };
            stops = λ y. absurd (both_ways true y refl);
            walks = λ y. f ∙ ap (λ t. t ++ lines) (head_told true yes) ∙ ap (λ t. head_text m.structures m.places v.reach true ++ t) (sym same);
          }
