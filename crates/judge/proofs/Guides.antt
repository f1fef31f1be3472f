-- Rows that are right, a ring and aims that lead to it make a good guide.
-- Assumes nothing.
use Rattle.std.proofs.lemmas.Grind.{common_steps}
use Rattle.std.proofs.Common.{◌≡◌, ℕ, suc, ◌+◌, ◌<◌, ◌≤◌, true, false, ◌⊎◌, sym, refl, ap, ◌∙◌, subst, inl, inr, arith}
use Rattle.std.proofs.lemmas.Bool.{both_ways}
use Rattle.hierarchy.specs.Meaning.{Meaning, box, Lawful}
use Rattle.theory.specs.Hops.{Pass, HopPass, at_end, on_way, MarkedRound}
use Rattle.theory.proofs.Paths.{append}
use Rattle.theory.proofs.Reaching.{pass→hops}
use Rattle.theory.proofs.Passing.{marked_pass→hops}
use Rattle.guide.specs.declared.Lane.TheVariants.{Plain, Marked, Up}
use Rattle.guide.specs.Layout.{Table, trees_of}
use Rattle.guide.specs.Trees.{Tree, plain, marked, ring, Guide, Vertex, entry_at, TreeHop, tree_edge, tree_leave, Sound, root, child, marked_seed, ring_seed, Row, Chain, arrived, further, Good}
use Rattle.judge.specs.declared.ring.Ring.{Ring}
use Rattle.judge.specs.Tables.{Kept}
use Rattle.judge.specs.Rows.{HopBy, on, by, HopMarkedBy, on!, by!, Rooted, twig, at_entry, from_row, from_one, Behind}
use Rattle.judge.specs.Rows.{root as rooted}
use Rattle.judge.specs.Known.{known, Traced, outermost, by_box, Knows}
use Rattle.judge.specs.Ring.{Ringed, Pointed, at_home, to_inner, Points, Falls}
use Rattle.judge.proofs.Fills.{came}
use Rattle.judge.proofs.Sows.{by_marked}
use Rattle.judge.proofs.Knowing.{known_reached}
use Rattle.judge.proofs.Pointing.{pointed_below}

add_one : (n : ℕ) → n + 1 ≡ suc n
add_one n = omega arith

module _ (m : Meaning) (L : Lawful m) (T : Table) (B : Behind m 0 T) where
  -- ---- hops of the rows are hops of the trees
  passed : {i u j e : ℕ} → m.place i u ≡ box j → Pass m j e → (T Plain j e).reached ≡ true
  passed {i} {u} {j} {e} b p = let h = (L.inner i u j b).1 in ((B j (omega arith) h).plain.right e).1 (pass→hops L h p)

  hop_of : (i : ℕ) (v : Vertex) → (entry_at (trees_of T m.structures) i v).seed ≡ false →
      HopBy m i (entry_at (trees_of T m.structures) i v).from (entry_at (trees_of T m.structures) i v).via v.spot → TreeHop m (trees_of T m.structures) i v
  hop_of i v n (on e) = tree_edge e (λ s. absurd (both_ways _ n s))
  hop_of i v n (by b p l) = tree_leave b l (passed b p) (λ s. absurd (both_ways _ n s))

  seed_hop : (i : ℕ) (v : Vertex) → HopMarkedBy m i (entry_at (trees_of T m.structures) i v).from (entry_at (trees_of T m.structures) i v).via v.spot →
      TreeHop m (trees_of T m.structures) i v
  seed_hop i v (on! k e) = tree_edge e (λ s. k)
  seed_hop i v (by! {j} b p l) =
      tree_leave b l (passed b (record { exits = p.exits; path = append p.path.before p.path.after })) (λ s. go (marked_pass→hops L (L.inner i _ j b).1 p))
    where
      go : {e : ℕ} → HopPass m j e → (m.mark j e ≡ true) ⊎ ((T Marked j e).reached ≡ true)
      go (at_end q k) = inl k
      go {e} (on_way {u} {w} q k r) = inr (((B j (omega arith) (L.inner i _ j b).1).marked.right e).1 (record { v = u; w = w; come = q; go = k; on = r }))

  moved_hop : {i p e u : ℕ} (x y : ℕ) → x ≡ p → y ≡ e → HopBy m i p e u → HopBy m i x y u
  moved_hop {i} {p} {e} {u} x y f g h = subst (λ k. HopBy m i k y u) (sym f) (subst (λ k. HopBy m i p k u) (sym g) h)

  -- ---- each lane is sound
  plain_sound : (c i u : ℕ) → i < m.structures → (T Plain i u).reached ≡ true → Sound m (trees_of T m.structures) c i u plain
  plain_sound c i u h r = go ((B i (omega arith) h).plain.filled.tree u r)
    where
      go : Rooted m i (at_entry m i) (T Plain i) u → Sound m (trees_of T m.structures) c i u plain
      go (rooted q) = root q.0 q.1
      go (twig {p} {e} f v s t d k) =
          child {k = (T Plain i p).depth} (d ∙ add_one _) s (hop_of i (record { lane = plain; spot = u }) s (moved_hop _ _ f v k)) (ap (λ n. (T Plain i n).reached) f ∙ t) (ap (λ n. (T Plain i n).depth) f)

  marked_sound : (c i u : ℕ) → i < m.structures → (T Marked i u).reached ≡ true → Sound m (trees_of T m.structures) c i u marked
  marked_sound c i u h r = go ((B i (omega arith) h).marked.filled.tree u r)
    where
      go : Rooted m i (from_row m i (T Plain i)) (T Marked i) u → Sound m (trees_of T m.structures) c i u marked
      go (rooted q) = marked_seed {k = (T Plain i (T Marked i u).from).depth} (q.1.depth ∙ add_one _) q.1.seed (seed_hop i (record { lane = marked; spot = u }) q.1.hop) q.0 refl
      go (twig {p} {e} f v s t d k) =
          child {k = (T Marked i p).depth} (d ∙ add_one _) s (hop_of i (record { lane = marked; spot = u }) s (moved_hop _ _ f v k)) (ap (λ n. (T Marked i n).reached) f ∙ t) (ap (λ n. (T Marked i n).depth) f)

  module _ (aim : ℕ → ℕ) (x : Ring) (R : Ringed m T x.home x.start) (X : Points T aim x) where
    ring_sound : (u : ℕ) → (T Plain m.structures u).reached ≡ true → Sound m (trees_of T m.structures) (aim x.home) x.home u ring
    ring_sound u r = go (R.row.filled.tree u r)
      where
        go : Rooted m x.home (from_one m x.home x.start 1) (T Plain m.structures) u → Sound m (trees_of T m.structures) (aim x.home) x.home u ring
        go (rooted q) = ring_seed q.1.depth q.1.seed (seed_hop x.home (record { lane = ring; spot = u }) q.1.hop) (q.0 ∙ sym X.start)
        go (twig {p} {e} f v s t d k) =
            child {k = (T Plain m.structures p).depth} (d ∙ add_one _) s (hop_of x.home (record { lane = ring; spot = u }) s (moved_hop _ _ f v k)) (ap (λ n. (T Plain m.structures n).reached) f ∙ t) (ap (λ n. (T Plain m.structures n).depth) f)

    module _ (l : x.home < m.structures) (k : known T x.home ≡ true) (K : Knows m m.structures T) where
      pub ring_round : MarkedRound m
      ring_round =
          let i = x.home in
          let u = x.start in
          let c = came m i (from_one m i u 1) (m.places + 1) (T Plain m.structures) R.row.filled u R.row.back in
          record {
            structure = i;
            reached = known_reached m L T B K i l k;
            from = u;
            to = c.start;
            come = ((B i (omega arith) l).plain.right u).0 R.come;
            go = by_marked (subst (λ n. HopMarkedBy m i n (T Plain m.structures c.start).via c.start) c.why.0 c.why.1.hop);
            back = c.hops;
          }

      abbrev led : Guide
      led = record { tree = trees_of T m.structures; aim = aim; home = x.home }

      chain_of : (i : ℕ) → Pointed T aim x.home i → Chain m led i
      chain_of i (at_home e) =
          arrived e (ap (λ n. (T Plain n (aim n)).reached) e ∙ ap (λ n. (T Plain x.home n).reached) X.start ∙ R.come)
      chain_of i (to_inner {j = j} b y f v p) = go (K.sound j (omega (arith, pointed_below p)) y) (chain_of j p)
        where
          go : Traced m T j → Chain m led j → Chain m led i
          go (outermost z) r = absurd (omega arith)
          go (by_box s t q) r =
              further
              (sym (ap (λ n. (T Plain n (T Up j 0).via).reached) f ∙ ap (λ n. (T Plain i n).reached) v) ∙ t)
              (sym (ap (λ n. m.place n (T Up j 0).via) f ∙ ap (m.place i) v) ∙ q) r

      sound_of : (t : Tree) (i u : ℕ) → Row m led t i → (trees_of T m.structures t i u).reached ≡ true → Sound m (trees_of T m.structures) (aim x.home) i u t
      sound_of plain i u h r = plain_sound (aim x.home) i u h r
      sound_of marked i u h r = marked_sound (aim x.home) i u h r
      sound_of ring i u h r = subst (λ n. Sound m (trees_of T m.structures) (aim x.home) n u ring) (sym h) (ring_sound u r)

      shallow_of : (t : Tree) (i u : ℕ) → Row m led t i → (trees_of T m.structures t i u).reached ≡ true → (trees_of T m.structures t i u).depth ≤ m.places + m.places
      shallow_of plain i u h r = omega (arith, (B i (omega arith) h).plain.filled.shallow u r)
      shallow_of marked i u h r = omega (arith, (B i (omega arith) h).marked.filled.shallow u r)
      shallow_of ring i u h r = omega (arith, R.row.filled.shallow u r)

      pub good : Good m led
      good = record {
        sound = sound_of;
        shallow = shallow_of;
        back = ap (λ n. (T Plain m.structures n).reached) X.start ∙ R.row.back;
        chain = chain_of 0 X.way;
      }

pub knows_falls : (m : Meaning) (L : Lawful m) (T : Table) (S : ℕ) → S ≡ m.structures → Knows m m.structures T → Falls S T
knows_falls m L T S h1 h2 = grind (arith, common_steps)

-- a search of the last row changes nothing that is known
pub knows_last : (m : Meaning) (L : Lawful m) (T T' : Table) (S : ℕ) → m.large ≡ false → S ≡ m.structures → Kept S T T' → Knows m m.structures T → Knows m m.structures T'
knows_last m L T T' S h1 h2 h3 h4 = grind (arith, common_steps)
