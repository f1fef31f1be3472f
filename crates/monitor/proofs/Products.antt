-- The product of a lawful hierarchy with an automaton of at least one state is lawful, and so is each pile.
-- Assumes nothing.
use Rattle.std.proofs.Common.{◌≡◌, ℕ, ◌+◌, ◌*◌, ◌/◌, ◌%◌, ◌<◌, ◌≤◌, Bool, true, false, cond, ltb, List, [], ◌∷◌, sym, refl, ap, ◌∙◌, subst, arith}
use lib.Arith.{digits_div, digits_lt}
use Rattle.std.proofs.lemmas.Nat.{div-add-mod', div_below, le-div, mod_below, mul-le}
use Rattle.std.proofs.lemmas.Bool.{ltb-false, lt-ltb, le-ltb, and_parts, or_parts, cond-true, cond-false, both_ways}
use Rattle.hierarchy.specs.Meaning.{Meaning, Lawful, Kind, absent, node, box}
use Rattle.monitor.specs.Automata.{Automaton, AllProper}
use Rattle.monitor.specs.Product.{laid, width, overflows, too_large, spread, product, kind_above, is_node}

pub too_large_lawful : Lawful too_large
too_large_lawful = record {
  empty = λ _. (refl, refl);
  sized = λ e. absurd (both_ways true e refl);
  within = λ i p ne. absurd (ne refl);
  inner = λ i p j e. absurd (let z : ◌≡◌ {A = ℕ} 0 1 = cc in omega arith);
  entered = λ i h. absurd (omega arith);
  no_entry = λ i h. refl;
  exit_node = λ i p e. absurd (both_ways false refl e);
  letter_small = λ i p. omega arith;
  letter_node = λ i p ne. refl;
  mark_node = λ i p e. absurd (both_ways false refl e);
  edge_from = λ i p w e. absurd (both_ways false refl e);
  edge_to = λ i p w e. absurd (both_ways false refl e);
  leave_from = λ i b e w t. absurd (both_ways false refl t);
  leave_to = λ i b e w t. absurd (both_ways false refl t);
}

-- ---- places above

pub kind_node : (f k : ℕ) (s : Kind) → kind_above f k s ≡ node → s ≡ node
kind_node f k absent e = e
kind_node f k node e = e
kind_node f k (box j) e = absurd (let z : ◌≡◌ {A = ℕ} 0 1 = cc in omega arith)

kind_absent : (f k : ℕ) (s : Kind) → kind_above f k s ≡ absent → s ≡ absent
kind_absent f k absent e = e
kind_absent f k node e = e
kind_absent f k (box j) e = absurd (let z : ◌≡◌ {A = ℕ} 0 1 = cc in omega arith)

pub kind_box : (f k J : ℕ) (s : Kind) → kind_above f k s ≡ box J → (j : ℕ) × (s ≡ box j) × (J ≡ j * f + k)
kind_box f k J absent e = absurd (let z : ◌≡◌ {A = ℕ} 0 1 = cc in omega arith)
kind_box f k J node e = absurd (let z : ◌≡◌ {A = ℕ} 0 1 = cc in omega arith)
kind_box f k J (box j) e = (j, refl, cc)

node_test : (s : Kind) → is_node s ≡ true → s ≡ node
node_test absent e = absurd (both_ways false refl e)
node_test node e = refl
node_test (box j) e = absurd (both_ways false refl e)

-- ---- numbers above

under : (i f s : ℕ) → 0 < f → i / f < s → i < s * f
under i f s pos h = subst (λ n. n < s * f) (div-add-mod' i f) (digits_lt h (mod_below i f pos))

-- what `overflows` rules out
pub small : (m : Meaning) (a : Automaton) → overflows m a ≡ false → (m.large ≡ false) × (m.structures * width a ≤ 1024) × (m.places * width a ≤ 1024)
unfolding overflows
small m a e =
    let one = or_parts m.large _ e in
    let two = or_parts (ltb 1024 (m.structures * width a)) _ one.1 in
    (one.0, ltb-false _ _ two.0, ltb-false _ _ two.1)

module _ (m : Meaning) (a : Automaton) (law : Lawful m) (pos : 0 < width a) (fits : overflows m a ≡ false) where
  place_entered : (i : ℕ) → i < m.structures * width a → (spread m a).place i ((spread m a).entry i) ≡ node
  place_entered i h =
      let f = width a in
      let low : i / f < m.structures = div_below i f m.structures pos h in
      let k : i % f < f = mod_below i f pos in
      let at : (spread m a).entry i ≡ m.entry (i / f) * f + i % f = cond-true (ltb (i / f) m.structures) _ _ (lt-ltb _ _ low) in
      let P : ℕ → Type 0 = λ n. (spread m a).place i n ≡ node in
      subst P (sym at) (ap (kind_above f _) (ap (m.place (i / f)) (digits_div (m.entry (i / f)) k) ∙ law.entered (i / f) low))

  pub spread_lawful : Lawful (spread m a)
  spread_lawful =
      let f = width a in
      let few = small m a fits in
      let some = law.sized few.0 in
      record {
        empty = λ e. absurd (both_ways false refl e);
        sized = λ _. (omega (arith, mul-le 1 1 m.structures f some.0 pos), few.1, omega (arith, mul-le 1 1 m.places f some.2 pos), few.2);
        within = λ i p ne.
            let h = law.within (i / f) (p / f) (λ e. ne (ap (kind_above f (p % f)) e)) in
            (under i f m.structures pos h.0, under p f m.places pos h.1);
        inner = λ i p J e.
            let b = kind_box f (p % f) J (m.place (i / f) (p / f)) e in
            let h = law.inner (i / f) (p / f) b.0 b.1 in
            let k : p % f < f = mod_below p f pos in
            (omega (arith, under i f b.0 pos h.0, b.2), omega (arith, digits_lt h.1 k, b.2));
        entered = place_entered;
        no_entry = λ i h. cond-false (ltb (i / f) m.structures) _ _ (le-ltb _ _ (le-div m.structures i f pos h));
        exit_node = λ i p e. ap (kind_above f (p % f)) (law.exit_node (i / f) (p / f) e);
        letter_small = λ i p. law.letter_small (i / f) (p / f);
        letter_node = λ i p ne. law.letter_node (i / f) (p / f) (λ e. ne (ap (kind_above f (p % f)) e));
        mark_node = λ i p e. ap (kind_above f (p % f)) (node_test (m.place (i / f) (p / f)) (and_parts _ _ e).0);
        edge_from = λ i p w e. ap (kind_above f (p % f)) (law.edge_from (i / f) (p / f) (w / f) (and_parts _ _ e).0);
        edge_to = λ i p w e n. law.edge_to (i / f) (p / f) (w / f) (and_parts _ _ e).0 (kind_absent f (w % f) (m.place (i / f) (w / f)) n);
        leave_from = λ i b e w t.
            let h = law.leave_from (i / f) (b / f) (e / f) (w / f) (and_parts _ _ t).0 in
            let k : b % f < f = mod_below b f pos in
            (h.0 * f + b % f, ap (kind_above f (b % f)) h.1, ap (λ j. m.exits j (e / f)) (digits_div h.0 k) ∙ h.2);
        leave_to = λ i b e w t n.
            law.leave_to (i / f) (b / f) (e / f) (w / f) (and_parts _ _ t).0 (kind_absent f (w % f) (m.place (i / f) (w / f)) n);
      }

pub width_positive : (a : Automaton) → 1 ≤ a.states → 0 < width a
width_positive a some = omega (arith, some)

pub product_lawful : (m : Meaning) (a : Automaton) → Lawful m → 1 ≤ a.states → Lawful (product m a)
product_lawful m a law some = by (overflows m a) refl where
  by : (t : Bool) → overflows m a ≡ t → Lawful (cond t too_large (spread m a))
  by true e = too_large_lawful
  by false e = spread_lawful m a law (width_positive a some) e

pub laid_lawful : (m : Meaning) (automata : List Automaton) → Lawful m → AllProper automata → Lawful (laid automata m)
laid_lawful m [] law all = law
laid_lawful m (a ∷ rest) law all = product_lawful (laid rest m) a (laid_lawful m rest law all.1) all.0.some
