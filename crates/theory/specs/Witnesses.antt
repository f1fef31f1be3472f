-- Small lawful hierarchies that recur or do not, as one choice has it: what is proved of all is not proved of none.
-- Assumes nothing.
use Rattle.std.specs.Prelude.{◌≡◌, Bool, true, false, cond, ◌&&◌, ◌||◌, ◌↔◌, ◌==◌, nat_lt}
use Rattle.hierarchy.specs.Meaning.{Meaning, absent, node, box, Lawful}
use Rattle.hierarchy.specs.Flat.{Reaches, Recurs}

-- a dot: one structure of one marked node, with an edge to itself if it turns
abbrev pub dot : Bool → Meaning
dot turns = record {
  large = false;
  structures = 1;
  places = 1;
  place = λ i p. cond (i == 0 && p == 0) node absent;
  entry = λ i. 0;
  exits = λ i p. false;
  letter = λ i p. 0;
  mark = λ i p. (i == 0) && (p == 0);
  edge = λ i p w. turns && (i == 0 && (p == 0 && w == 0));
  leave = λ i b e w. false;
}

-- a pair: structure 0 has an entry and two boxes, 1 and 2, that share structure 1, whose entry leads to its marked exit 1;
-- the entry leads to box 1, box 1 by the exit to box 2, and box 2 by the exit back to box 1 if the pair returns
abbrev pub pair : Bool → Meaning
pair returns = record {
  large = false;
  structures = 2;
  places = 3;
  place = λ i p. cond (i == 0) (cond (p == 0) node (cond (nat_lt p 3) (box 1) absent)) (cond (i == 1 && nat_lt p 2) node absent);
  entry = λ i. 0;
  exits = λ i p. (i == 1) && (p == 1);
  letter = λ i p. 0;
  mark = λ i p. (i == 1) && (p == 1);
  edge = λ i p w. nat_lt i 2 && (p == 0 && w == 1);
  leave = λ i b e w. (i == 0) && (e == 1 && ((b == 1 && w == 2) || (returns && (b == 2 && w == 1))));
}

-- lawful, not too large, with a marked state that is reachable, and recurring exactly if so told
pub record Tells (m : Meaning) (told : Bool) : Type 0 where
  pub lawful : Lawful m
  pub fits : m.large ≡ false
  pub reaches : Reaches m
  pub recurs : Recurs m ↔ (told ≡ true)
