-- Projection keeps the boxes of a state, so a pile's reachable states are no deeper than the bottom's.
-- Assumes nothing.
use Rattle.std.proofs.Common.{◌≡◌, ℕ, suc, ◌<◌, [], ◌∷◌, refl, ap, subst}
use Rattle.hierarchy.specs.Meaning.{Meaning, Lawful}
use Rattle.hierarchy.specs.Flat.{State, at, within, Step, Star, stop, step, Reach}
use Rattle.monitor.specs.Automata.{Automaton}
use Rattle.monitor.specs.Product.{width, spread, laid}
use Rattle.monitor.proofs.Products.{width_positive}
use Rattle.theory.specs.OneSearch.{boxes}
use Rattle.theory.proofs.Depth.{shallow}
use Rattle.piles.specs.OnePile.{PileDepth}
use Rattle.piles.proofs.Project.{down}
use Rattle.piles.proofs.Words.{initial_down, top_step_down}
use Rattle.piles.proofs.Piles.{product_spreads, below_fits, pile_lawful}

boxes_down : (f : ℕ) (s : State) → boxes (down f s) ≡ boxes s
boxes_down f (at n) = refl
boxes_down f (within b s) = ap suc (boxes_down f s)

module _ (m : Meaning) (law : Lawful m) (some : 0 < m.structures) (a : Automaton) (pos : 0 < width a) where
  path_down : {s t : State} → Star (Step (spread m a) 0) s t → Star (Step m 0) (down (width a) s) (down (width a) t)
  path_down stop = stop
  path_down (step st rest) = step (top_step_down m law some a pos st).0 (path_down rest)

  pub reach_down : (s : State) → Reach (spread m a) 0 s → Reach m 0 (down (width a) s)
  reach_down s reach = subst (λ (x : State). Star (Step m 0) x (down (width a) s)) (initial_down m law some a pos) (path_down reach)

pub pile_depth : PileDepth
pile_depth m law [] proper fits s reach = shallow m law fits s reach
pile_depth m law (a ∷ rest) proper fits s reach =
    let below = below_fits (laid rest m) a fits in
    let law-below : Lawful (laid rest m) = pile_lawful m law rest proper.1 in
    let spreads : Reach (spread (laid rest m) a) 0 s = subst (λ (p : Meaning). Reach p 0 s) (product_spreads (laid rest m) a fits) reach in
    let down-reach = reach_down (laid rest m) law-below (law-below.sized below).0 a (width_positive a proper.0.some) s spreads in
    subst (λ (n : ℕ). n < m.structures) (boxes_down (width a) s) (pile_depth m law rest proper.1 below (down (width a) s) down-reach)
