-- A marked state that is reached again makes an endless run marked without end, by going round;
-- and such a run comes back to a marked state, since reachable states are finitely many. Assumes nothing.
use Rattle.std.proofs.Common.{◌≡◌, ℕ, zero, suc, ◌<◌, ◌≤◌, false, List, length, get_or, sym, refl, ap, ◌∙◌, subst, arith}
use native.Mathlib.Decide.{ℕ_discrete}
use Rattle.hierarchy.specs.Meaning.{Meaning, Lawful}
use Rattle.hierarchy.specs.Flat.{State, at, Marked, Step, Star, stop, step, Plus, initial, Reach, Recurs}
use Rattle.hierarchy.specs.Runs.{Run, Endless}
use Rattle.theory.specs.OneSearch.{Running}
use Rattle.theory.proofs.Paths.{snoc}
use Rattle.theory.proofs.Reaching.{reach→hops}
use Rattle.theory.proofs.Numbers.{Twice, pigeonhole, member_at}
use Rattle.theory.proofs.Depth.{shallow_states, reach_listed}

-- ---- along a run
pub run_reach : {m : Meaning} (r : Run m) (n : ℕ) → Reach m 0 (r.state n)
run_reach {m} r zero = subst (Reach m 0) (sym r.begins) stop
run_reach r (suc n) = snoc (run_reach r n) (r.moves n)

pub run_between : {m : Meaning} (r : Run m) (n k : ℕ) → n < k → Plus (Step m 0) (r.state n) (r.state k)
run_between r n zero h = absurd (omega arith)
run_between {m} r n (suc k) h = go (ℕ_discrete n k) (run_between r n k)
  where
    go : Dec (n ≡ k) → (n < k → Plus (Step m 0) (r.state n) (r.state k)) → Plus (Step m 0) (r.state n) (r.state (suc k))
    go (yes e) f = record { next = r.state (suc k); first = subst (λ j. Step m 0 (r.state j) (r.state (suc k))) (sym e) (r.moves k); rest = stop }
    go (no x) f = let p = f (omega arith) in record { next = p.next; first = p.first; rest = snoc p.rest (r.moves k) }

-- ---- an endless run comes back to a marked state
pub endless→recurs : {m : Meaning} → Lawful m → m.large ≡ false → Endless m → Recurs m
endless→recurs {m} L fits g = close (pigeonhole (length listed) number (λ n h. (spot n).1))
  where
    state : ℕ → State
    state = g.run.state

    time : ℕ → ℕ
    time zero = (g.often 0).0
    time (suc n) = (g.often (suc (time n))).0

    marked : (n : ℕ) → Marked m 0 (state (time n))
    marked zero = (g.often 0).2
    marked (suc n) = (g.often (suc (time n))).2

    time_grows : (i j : ℕ) → i < j → time i < time j
    time_grows i zero h = absurd (omega arith)
    time_grows i (suc j) h = go (ℕ_discrete i j) (time_grows i j)
      where
        go : Dec (i ≡ j) → (i < j → time i < time j) → time i < (g.often (suc (time j))).0
        go (yes e) r = let q = ap time e in omega (arith, (g.often (suc (time j))).1)
        go (no x) r = omega (arith, (g.often (suc (time j))).1, r (omega arith))

    listed : List State
    listed = shallow_states m.places m.structures

    spot : (n : ℕ) → (k : ℕ) × (k < length listed) × (get_or listed k (at 0) ≡ state (time n))
    spot n = member_at (at 0) (reach_listed L m.structures (omega arith) (reach→hops L (omega (arith, (L.sized fits).0)) (run_reach g.run (time n))))

    number : ℕ → ℕ
    number n = (spot n).0

    close : Twice number (length listed) → Recurs m
    close t =
        let a = t.i in
        let b = t.j in
        let e : state (time a) ≡ state (time b) = sym (spot a).2 ∙ ap (λ k. get_or listed k (at 0)) t.same ∙ (spot b).2 in
        record {
          state = state (time a);
          reached = run_reach g.run (time a);
          marked = marked a;
          round = subst (Plus (Step m 0) (state (time a))) (sym e) (run_between g.run (time a) (time b) (time_grows a b t.less));
        }

-- ---- round and round: the path still to go to the marked state is kept, and renewed there
module _ {m : Meaning} (r : Recurs m) where
  ToGo : Type 0
  ToGo = (s : State) × Star (Step m 0) s r.state

  go_on : {s : State} → Star (Step m 0) s r.state → ToGo
  unfolding ToGo
  go_on stop = (r.round.next, r.round.rest)
  go_on (step {b = b} d p) = (b, p)

  going : ℕ → ToGo
  unfolding ToGo
  going zero = (initial m 0, r.reached)
  going (suc n) = go_on (going n).1

  pub recurs→endless : Endless m
  unfolding ToGo go_on going
  recurs→endless = record { run = round_run; often = λ n. arrive (going n).1 n refl }
    where
      move : {s : State} (p : Star (Step m 0) s r.state) → Step m 0 s (go_on p).0
      move stop = r.round.first
      move (step d p) = d

      round_run : Run m
      round_run = record { state = λ n. (going n).0; begins = refl; moves = λ n. move (going n).1 }

      arrive : {s : State} (p : Star (Step m 0) s r.state) (n : ℕ) → going n ≡ (s, p) → (k : ℕ) × (n ≤ k) × Marked m 0 (going k).0
      arrive stop n e = (n, omega arith, subst (Marked m 0) (sym (ap (λ x. x.0) e)) r.marked)
      arrive (step d p) n e =
          let t = arrive p (suc n) (ap (λ x. go_on x.1) e) in
          (t.0, omega arith, t.2)

pub running : Running
running m L fits = (recurs→endless, endless→recurs L fits)
