-- The dot and the pair are lawful, reach a mark, and recur exactly if they turn or return.
-- Assumes nothing.
use Rattle.std.proofs.Common.{◌≡◌, ℕ, zero, suc, ◌<◌, Bool, true, false, cond, ◌&&◌, eqb, ◌≢◌, ◌⊎◌, sym, refl, subst, inl, inr, arith}
use Rattle.std.proofs.lemmas.Bool.Decides.{nat_tests}
use Rattle.hierarchy.specs.Meaning.{Kind, absent, node, box, Lawful}
use Rattle.hierarchy.specs.Flat.{at, within, to_node, to_box, by_edge, inside, stop, step, Reaches, Recurs}
use Rattle.theory.specs.Hops.{Pass, PassMarked, over, through, HopMarked, over!, through!, Hops, top, MarkedRound}
use Rattle.theory.specs.Witnesses.{dot, pair, Tells}
use Rattle.theory.proofs.Recurring.{marked_round→recurs, recurs→marked_round}

-- ---- the dot
dot_is : (x : Bool) → cond x node absent ≢ absent → x ≡ true
dot_is true h = refl
dot_is false h = absurd (h refl)

dot_no_box : (x : Bool) {j : ℕ} → cond x node absent ≡ box j → ⊥
dot_no_box true e = let z : ◌≡◌ {A = ℕ} 0 1 = cc in omega arith
dot_no_box false e = let z : ◌≡◌ {A = ℕ} 0 1 = cc in omega arith

dot_lawful : (turns : Bool) → Lawful (dot turns)
dot_lawful turns = record {
  empty = λ e. grind arith;
  sized = λ e. (omega arith, omega arith, omega arith, omega arith);
  within = λ i p h. let e = dot_is (eqb i 0 && eqb p 0) h in (grind (arith, nat_tests), grind (arith, nat_tests));
  inner = λ i p j e. absurd (dot_no_box (eqb i 0 && eqb p 0) e);
  entered = λ i h. grind (arith, nat_tests);
  no_entry = λ i h. refl;
  exit_node = λ i p e. grind arith;
  letter_small = λ i p. omega arith;
  letter_node = λ i p h. refl;
  mark_node = λ i p e. grind (arith, nat_tests);
  edge_from = λ i p w e. grind (arith, nat_tests);
  edge_to = λ i p w e. grind (arith, nat_tests);
  leave_from = λ i b e w h. grind arith;
  leave_to = λ i b e w h. grind arith;
}

dot_reaches : (turns : Bool) → Reaches (dot turns)
dot_reaches turns = record { state = at 0; reached = stop; marked = refl }

dot_turns : (turns : Bool) {i u w : ℕ} → HopMarked (dot turns) i u w → turns ≡ true
dot_turns turns (over! k e) = grind (arith, nat_tests)
dot_turns turns {i} {u} (through! b p l) = absurd (dot_no_box (eqb i 0 && eqb u 0) b)

dot_round : MarkedRound (dot true)
dot_round = record { structure = 0; reached = top; from = 0; to = 0; come = stop; go = over! refl refl; back = stop }

dot_recurs→turns : (turns : Bool) → Recurs (dot turns) → turns ≡ true
dot_recurs→turns turns r = dot_turns turns (recurs→marked_round (dot_lawful turns) refl r).go

dot_turns→recurs : (turns : Bool) → turns ≡ true → Recurs (dot turns)
dot_turns→recurs turns e = subst (λ t. Recurs (dot t)) (sym e) (marked_round→recurs (dot_lawful true) refl dot_round)

pub dot_tells : (turns : Bool) → Tells (dot turns) turns
dot_tells turns = record {
  lawful = dot_lawful turns;
  fits = refl;
  reaches = dot_reaches turns;
  recurs = (dot_recurs→turns turns, dot_turns→recurs turns);
}

-- ---- the pair
data PairPlace (i p : ℕ) (k : Kind) : Type 0 where
  outer_entry : i ≡ 0 → p ≡ 0 → k ≡ node → PairPlace i p k
  outer_box : i ≡ 0 → 0 < p → p < 3 → k ≡ box 1 → PairPlace i p k
  inner_node : i ≡ 1 → p < 2 → k ≡ node → PairPlace i p k
  nothing : k ≡ absent → PairPlace i p k

pair_place : (i p : ℕ) → PairPlace i p ((pair true).place i p)
pair_place zero zero = outer_entry refl refl refl
pair_place zero (suc zero) = outer_box refl (omega arith) (omega arith) refl
pair_place zero (suc (suc zero)) = outer_box refl (omega arith) (omega arith) refl
pair_place zero (suc (suc (suc p))) = nothing (grind (arith, nat_tests))
pair_place (suc zero) zero = inner_node refl (omega arith) refl
pair_place (suc zero) (suc zero) = inner_node refl (omega arith) refl
pair_place (suc zero) (suc (suc p)) = nothing (grind (arith, nat_tests))
pair_place (suc (suc i)) p = nothing (grind (arith, nat_tests))

pair_within : {i p : ℕ} {k : Kind} → PairPlace i p k → k ≢ absent → (i < 2) × (p < 3)
pair_within (outer_entry a b e) h = (omega arith, omega arith)
pair_within (outer_box a b c e) h = (omega arith, omega arith)
pair_within (inner_node a b e) h = (omega arith, omega arith)
pair_within (nothing e) h = absurd (h e)

pair_box : {i p : ℕ} {k : Kind} {j : ℕ} → PairPlace i p k → k ≡ box j → (i ≡ 0) × (1 ≡ j)
pair_box (outer_entry a b e) h = absurd (let z : ◌≡◌ {A = ℕ} 0 1 = cc in omega arith)
pair_box (outer_box a b c e) h = (a, cc)
pair_box (inner_node a b e) h = absurd (let z : ◌≡◌ {A = ℕ} 0 1 = cc in omega arith)
pair_box (nothing e) h = absurd (let z : ◌≡◌ {A = ℕ} 0 1 = cc in omega arith)

pair_lawful : (returns : Bool) → Lawful (pair returns)
pair_lawful returns = record {
  empty = λ e. grind arith;
  sized = λ e. (omega arith, omega arith, omega arith, omega arith);
  within = λ i p h. pair_within (pair_place i p) h;
  inner = λ i p j e. let b = pair_box (pair_place i p) e in (omega (arith, b), omega (arith, b));
  entered = λ i h. grind (arith, nat_tests);
  no_entry = λ i h. refl;
  exit_node = λ i p e. grind (arith, nat_tests);
  letter_small = λ i p. omega arith;
  letter_node = λ i p h. refl;
  mark_node = λ i p e. grind (arith, nat_tests);
  edge_from = λ i p w e. grind (arith, nat_tests);
  edge_to = λ i p w e. grind (arith, nat_tests);
  leave_from = λ i b e w h. (1, grind (arith, nat_tests), grind (arith, nat_tests));
  leave_to = λ i b e w h. grind (arith, nat_tests);
}

pair_reaches : (returns : Bool) → Reaches (pair returns)
pair_reaches returns = record {
  state = within 1 (at 1);
  reached = step (by_edge {w = 1} refl (to_box refl)) (step (inside refl (by_edge refl (to_node refl))) stop);
  marked = refl;
}

-- no way leads from box 2 to box 1 unless the pair returns
pair_back : (returns : Bool) {u w : ℕ} → u ≡ 2 → w ≡ 1 → Hops (pair returns) 0 u w → returns ≡ true
pair_back returns a b stop = absurd (omega arith)
pair_back returns a b (step (over e) p) = absurd (grind (arith, nat_tests))
pair_back returns a b (step (through c q l) p) = grind (arith, nat_tests)

pair_leaves : (returns : Bool) (i b e w : ℕ) → (pair returns).leave i b e w ≡ true → (i ≡ 0) × (((b ≡ 1) × (w ≡ 2)) ⊎ (returns ≡ true))
pair_leaves true i b e w l = (grind (arith, nat_tests), inr refl)
pair_leaves false i b e w l = (grind (arith, nat_tests), inl (grind (arith, nat_tests), grind (arith, nat_tests)))

pair_returns : (returns : Bool) {i u w : ℕ} → HopMarked (pair returns) i u w → Hops (pair returns) i w u → returns ≡ true
pair_returns returns (over! k e) p = absurd (grind (arith, nat_tests))
pair_returns returns {i} {u} {w} (through! {e = e} c q l) p =
    let o = pair_leaves returns i u e w l in
    by_box o.1 (subst (λ k. Hops (pair returns) k w u) o.0 p)
  where
    by_box : ((u ≡ 1) × (w ≡ 2)) ⊎ (returns ≡ true) → Hops (pair returns) 0 w u → returns ≡ true
    by_box (inl x) p = pair_back returns x.1 x.0 p
    by_box (inr e) p = e

pair_round : MarkedRound (pair true)
pair_round = record {
  structure = 0;
  reached = top;
  from = 1;
  to = 2;
  come = step (over refl) stop;
  go = through! {j = 1} {e = 1} refl marked_pass refl;
  back = step (through {j = 1} {e = 1} refl pass refl) stop;
}
  where
    pass : Pass (pair true) 1 1
    pass = record { exits = refl; path = step (by_edge refl (to_node refl)) stop }

    marked_pass : PassMarked (pair true) 1 1
    marked_pass = record { exits = refl; path = record { met = at 1; before = pass.path; there = refl; after = stop } }

pair_recurs→returns : (returns : Bool) → Recurs (pair returns) → returns ≡ true
pair_recurs→returns returns r =
    let c = recurs→marked_round (pair_lawful returns) refl r in
    pair_returns returns c.go c.back

pair_returns→recurs : (returns : Bool) → returns ≡ true → Recurs (pair returns)
pair_returns→recurs returns e = subst (λ t. Recurs (pair t)) (sym e) (marked_round→recurs (pair_lawful true) refl pair_round)

pub pair_tells : (returns : Bool) → Tells (pair returns) returns
pair_tells returns = record {
  lawful = pair_lawful returns;
  fits = refl;
  reaches = pair_reaches returns;
  recurs = (pair_recurs→returns returns, pair_returns→recurs returns);
}
