-- Two readers over the pair recur exactly as they should, by the good runs of the pair.
-- Assumes nothing.
use Rattle.std.proofs.Common.{◌≡◌, ℕ, Bool, true, false, sym, refl, subst, arith}
use Rattle.std.proofs.lemmas.Bool.{eqb-true}
use Rattle.monitor.specs.Automata.{Proper, AllProper, Accepts}
use Rattle.monitor.specs.Product.{laid}
use Rattle.monitor.specs.Piles.{GoodRun}
use Rattle.theory.specs.Witnesses.{pair, Tells}
use Rattle.theory.proofs.Witnesses.{pair_tells}
use Rattle.theory.proofs.Running.{running}
use Rattle.piles.specs.Witnesses.{reader, readers, PileTells, PilesTell}
use Rattle.piles.proofs.Piles.{pile_lawful, pile_large, pile_good}

reader_proper : (letter : ℕ) (wins : Bool) → Proper (reader letter wins)
reader_proper letter wins = record { some = omega arith; few = omega arith }

readers_proper : (letter : ℕ) (wins : Bool) → AllProper (readers letter wins)
readers_proper letter wins = (reader_proper letter wins, (reader_proper 0 true, tt))

reader_accepts : Accepts (reader 0 true) (λ n. 0)
reader_accepts = record {
  state = λ n. 0;
  below = λ n. omega arith;
  begins = refl;
  moves = λ n. refl;
  often = λ n. (n, omega arith, refl);
}

module _ (turns wins : Bool) (letter : ℕ) where
  bottom : Tells (pair turns) turns
  bottom = pair_tells turns

  good_tells : GoodRun (pair turns) (readers letter wins) → (turns ≡ true) × (wins ≡ true) × (letter ≡ 0)
  good_tells g = (
    bottom.recurs.0 ((running (pair turns) bottom.lawful refl).1 (record { run = g.run; often = g.often })),
    (g.accepted.0.often 0).2,
    sym (eqb-true 0 letter (g.accepted.0.moves 0)),
  )

  tells_good : (turns ≡ true) × (wins ≡ true) × (letter ≡ 0) → GoodRun (pair turns) (readers letter wins)
  tells_good h =
      let e = (running (pair turns) bottom.lawful refl).0 (bottom.recurs.1 h.0) in
      let first : Accepts (reader letter wins) (λ n. 0) =
      subst (λ (w : Bool). Accepts (reader letter w) (λ n. 0)) (sym h.1)
      (subst (λ (l : ℕ). Accepts (reader l true) (λ n. 0)) (sym h.2) reader_accepts) in
      record { run = e.run; often = e.often; accepted = (first, (reader_accepts, tt)) }

  readers_fit : (laid (readers letter wins) (pair turns)).large ≡ false
  readers_fit = pile_large (pair turns) bottom.lawful (readers letter wins) (readers_proper letter wins)

  pile_tells : PileTells turns wins letter
  pile_tells =
      let good = pile_good (pair turns) bottom.lawful (readers letter wins) (readers_proper letter wins) readers_fit in
      record {
        proper = readers_proper letter wins;
        lawful = pile_lawful (pair turns) bottom.lawful (readers letter wins) (readers_proper letter wins);
        fits = readers_fit;
        recurs = ((λ r. good_tells (good.0 r)), (λ h. good.1 (tells_good h)));
      }

pub piles_tell : PilesTell
piles_tell = pile_tells
