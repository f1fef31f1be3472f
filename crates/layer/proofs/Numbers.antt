-- The numbers of monitors spread out over a hierarchy: below a bound, and by those below.
-- Assumes nothing.
use Rattle.std.proofs.Common.{◌≡◌, ℕ, ◌+◌, ◌*◌, ◌/◌, ◌%◌, ◌^◌, ◌<◌, ◌≤◌, Bool, true, false, ltb, List, [], ◌∷◌, length, refl, subst, pow-suc, lit<, arith}
use lib.Arith.{digits_lt}
use Rattle.std.proofs.lemmas.Nat.{mod_below, div_below, mul-le}
use Rattle.std.proofs.lemmas.Bool.{lt-ltb, cond-true}
use Rattle.std.proofs.Math.Nat.{pow-le-pow_right}
use Rattle.hierarchy.specs.Meaning.{Meaning, Lawful, box}
use Rattle.hierarchy.specs.Answers.{place_told}
use Rattle.hierarchy.specs.declared.Place.TheVariants.{Box}
use Rattle.hierarchy.proofs.Beyond.{node_present}
use Rattle.hierarchy.proofs.Told.{told_box}
use Rattle.monitor.specs.Product.{width, spread}
use Rattle.monitor.specs.Tables.{automaton_of}
use Rattle.monitor.specs.declared.Monitor.{Monitor}
use Rattle.monitor.proofs.Products.{kind_box}
use Rattle.layer.specs.Piles.{spread_all}

pub width_some : (t : Monitor) → 0 < width (automaton_of t)
width_some t = omega (arith, t.some)

pub width_few : (t : Monitor) → width (automaton_of t) ≤ 8
width_few t = omega (arith, t.few)

-- ---- bounds

-- the sizes are at most n, boxes name structures, and entries are places
pub record Small (m : Meaning) (n : ℕ) : Type 0 where
  pub rows : m.structures ≤ n
  pub row : m.places ≤ n
  pub inner : (i p j : ℕ) → m.place i p ≡ box j → j < m.structures
  pub entered : (i : ℕ) → i < m.structures → m.entry i < m.places

small_base : (m : Meaning) → Lawful m → Small m 1024
small_base m law = record {
  rows = (by m.large refl).0;
  row = (by m.large refl).1;
  inner = λ i p j e. (law.inner i p j e).1;
  entered = λ i h. (law.within i (m.entry i) (node_present _ (law.entered i h))).1;
} where
  by : (t : Bool) → m.large ≡ t → (m.structures ≤ 1024) × (m.places ≤ 1024)
  by true e = (omega (arith, (law.empty e).0), omega (arith, (law.empty e).1))
  by false e = ((law.sized e).1, (law.sized e).3)

small_above : (m : Meaning) (n : ℕ) (t : Monitor) → Small m n → Small (spread m (automaton_of t)) (n * 8)
small_above m n t s =
    let f = width (automaton_of t) in
    let pos : 0 < f = width_some t in
    let few : f ≤ 8 = width_few t in
    record {
      rows = mul-le m.structures f n 8 s.rows few;
      row = mul-le m.places f n 8 s.row few;
      inner = λ i p J e.
          let b = kind_box f (p % f) J (m.place (i / f) (p / f)) e in
          omega (arith, digits_lt (s.inner (i / f) (p / f) b.0 b.1) (mod_below p f pos), b.2);
      entered = λ i h.
          let low : i / f < m.structures = div_below i f m.structures pos h in
          let is : (spread m (automaton_of t)).entry i ≡ m.entry (i / f) * f + i % f = cond-true (ltb (i / f) m.structures) _ 0 (lt-ltb _ _ low) in
          omega (arith, is, digits_lt (s.entered (i / f) low) (mod_below i f pos));
    }

small_all : (monitors : List Monitor) (m : Meaning) → Lawful m → Small (spread_all monitors m) (1024 * 8 ^ length monitors)
small_all [] m law = small_base m law
small_all (t ∷ rest) m law =
    let n = 1024 * 8 ^ length rest in
    let more : n * 8 ≡ 1024 * 8 ^ length (t ∷ rest) = omega (arith, pow-suc 8 (length rest)) in
    let P : ℕ → Type 0 = λ k. Small (spread_all (t ∷ rest) m) k in
    subst P more (small_above (spread_all rest m) n t (small_all rest m law))

module _ (rest : List Monitor) (m : Meaning) (law : Lawful m) (few : length rest ≤ 10) where
  bound : 1024 * 8 ^ length rest ≤ 2 ^ 40
  bound = omega (arith, pow-le-pow_right {n = 8} (lit< tt) few)

  above : (t : Monitor) (f j n : ℕ) → f ≡ width (automaton_of t) → j < 2 ^ 40 → j * f + n % f < 2 ^ 64
  above t f j n ef h =
      let few : f ≤ 8 = omega (arith, width_few t, ef) in
      let pos : 0 < f = omega (arith, width_some t, ef) in
      omega (arith, mul-le j f (2 ^ 40) 8 (omega arith) few, mod_below n f pos)

  -- the numbers above of a box and of an entry
  pub box_fits : (t : Monitor) (f i p j n : ℕ) → f ≡ width (automaton_of t) → Box j ≡ place_told ((spread_all rest m).place i p) → j * f + n % f < 2 ^ 64
  box_fits t f i p j n ef e =
      let s = small_all rest m law in
      above t f j n ef (omega (arith, s.inner i p j (told_box _ j e), s.rows, bound))

  pub entry_fits : (t : Monitor) (f i e : ℕ) → f ≡ width (automaton_of t) → i < (spread_all rest m).structures * width (automaton_of t) → e ≡ (spread_all rest m).entry (i / f) → e * f + i % f < 2 ^ 64
  entry_fits t f i e ef h ee =
      let s = small_all rest m law in
      let low : i / f < (spread_all rest m).structures = rw ef (div_below i (width (automaton_of t)) (spread_all rest m).structures (width_some t) h) in
      above t f e i ef (omega (arith, ee, s.entered (i / f) low, s.row, bound))
