-- The table that a guide is, read and written. Assumes nothing.
use Rattle.std.proofs.lemmas.Grind.{common_steps}
use Rattle.std.proofs.Common.{◌≡◌, ℕ, ◌+◌, ◌*◌, ◌/◌, ◌%◌, ◌<◌, ◌≤◌, true, cond, ltb, ◌≢◌, ◌⊎◌, List, length, get_or, set, sym, ap, subst, ◌∙◌, inl, inr, arith, get_or-set_other, get_or-set_same}
use mathlib.Core.Path.{fun_ext}
use Rattle.std.proofs.lemmas.Bool.{lt-ltb, cases_eq, le-ltb, cases_lt, both_ways}
use Rattle.std.proofs.lemmas.Nat.{div-mul-add, mod-mul-add, mul-le}
use Rattle.hierarchy.specs.Meaning.{Meaning, Lawful, box}
use Rattle.guide.specs.declared.Lane.{Lane}
use Rattle.guide.specs.declared.Entry.{Entry}
use Rattle.guide.specs.declared.GuideRecord.{GuideRecord}
use Rattle.guide.specs.Layout.{blank, blank_record_lem, lane_of, look, aim_of_lem}
use Rattle.judge.specs.Tables.{Stands, Others, Put, with_lane_lem}
use Rattle.judge.specs.Ring.{Aimed}

pub look_in : (g : List GuideRecord) (P : ℕ) (c : Lane) (r u : ℕ) → u < P → look g P c r u ≡ lane_of c (get_or g (r * P + u) blank_record_lem)
unfolding look
look_in g P c r u h = rw (lt-ltb u P h)

-- what is written, cell by cell
same_lane : (c : Lane) (x : GuideRecord) (l : Entry) → lane_of c (with_lane_lem x c l) ≡ l
same_lane c x l = grind (arith, common_steps)

other_lane : (c c' : Lane) (x : GuideRecord) (l : Entry) → c' ≢ c → lane_of c' (with_lane_lem x c l) ≡ lane_of c' x
other_lane c c' x l h1 = grind (arith, common_steps)

-- two places with one position are one
apart : (P r r' u u' : ℕ) → u < P → u' < P → r' * P + u' ≡ r * P + u → (r' ≡ r) × (u' ≡ u)
apart P r r' u u' h h' e =
    (sym (div-mul-add r' P u' h') ∙ ap (λ n. n / P) e ∙ div-mul-add r P u h, sym (mod-mul-add r' P u' h') ∙ ap (λ n. n % P) e ∙ mod-mul-add r P u h)

module _ (g : List GuideRecord) (P : ℕ) (c : Lane) (r u n : ℕ) (l : Entry) (h : u < P) (e : n ≡ r * P + u) (within : n < length g) where
  abbrev g' : List GuideRecord
  g' = set g n (with_lane_lem (get_or g n blank_record_lem) c l)

  at_other : (m : ℕ) → m ≢ n → get_or g' m blank_record_lem ≡ get_or g m blank_record_lem
  at_other m ne = get_or-set_other g n m _ blank_record_lem ne

  at_here : get_or g' n blank_record_lem ≡ with_lane_lem (get_or g n blank_record_lem) c l
  at_here = get_or-set_same g n _ blank_record_lem within

  pub put_here : look g' P c r u ≡ l
  put_here = look_in g' P c r u h ∙ ap (λ k. lane_of c (get_or g' k blank_record_lem)) (sym e) ∙ ap (lane_of c) at_here ∙ same_lane c _ l

  move : (c' : Lane) (r' u' : ℕ) → (u' < P → lane_of c' (get_or g' (r' * P + u') blank_record_lem) ≡ lane_of c' (get_or g (r' * P + u') blank_record_lem)) → look g' P c' r' u' ≡ look g P c' r' u'
  unfolding look
  move c' r' u' h1 = grind (arith, common_steps)

  pub put_rest : (u' : ℕ) → u' ≢ u → look g' P c r u' ≡ look g P c r u'
  put_rest u' ne = move c r u' (λ h'. ap (lane_of c) (at_other (r * P + u') (λ q. ne (apart P r r u u' h h' (q ∙ e)).1)))

  pub put_others : Others (look g P) (look g' P) c r
  put_others c' r' u' ne = move c' r' u' (λ h'. go h' (cases_eq (r' * P + u') n))
    where
      go : u' < P → (r' * P + u' ≡ n) ⊎ (r' * P + u' ≡ n → ⊥) → lane_of c' (get_or g' (r' * P + u') blank_record_lem) ≡ lane_of c' (get_or g (r' * P + u') blank_record_lem)
      go h' (inr q) = ap (lane_of c') (at_other _ q)
      go h' (inl q) =
          ap (λ k. lane_of c' (get_or g' k blank_record_lem)) q ∙ ap (lane_of c') at_here ∙ other_lane c c' _ l (λ s. ne (s, (apart P r r' u u' h h' (q ∙ e)).0)) ∙ ap (λ k. lane_of c' (get_or g k blank_record_lem)) (sym q)

  pub puts : Put (look g P) (look g' P) c r u l
  puts = record { here = put_here; rest = put_rest; others = put_others }

  pub puts_set : (d : Lane) → c ≡ d → Put (look g P) (look (set g n (with_lane_lem (get_or g n blank_record_lem) d l)) P) c r u l
  puts_set d q = subst (λ t. Put (look g P) (look (set g n (with_lane_lem (get_or g n blank_record_lem) t l)) P) c r u l) q puts

pub stands_less : (g : List GuideRecord) (P r S : ℕ) → r ≤ S → Stands g P S → Stands g P r
stands_less g P r S h k = omega (arith, mul-le r P S P h (omega arith))

-- the row of the structure that a box names stands in memory, where all structures' rows do
pub stands_inner : (m : Meaning) → Lawful m → (i p j : ℕ) → m.place i p ≡ box j → (S : ℕ) → S ≡ m.structures → (g : List GuideRecord) (P : ℕ) → Stands g P S → Stands g P j
stands_inner m L i p j e S is g P k = stands_less g P j S (omega (arith, (L.inner i p j e).1, is)) k

pub look_out : (g : List GuideRecord) (P : ℕ) (c : Lane) (r u : ℕ) → P ≤ u → look g P c r u ≡ blank
unfolding look
look_out g P c r u h = rw (le-ltb u P h)

-- what is reached is in its row
pub reached_in : (g : List GuideRecord) (P : ℕ) (c : Lane) (r u : ℕ) → (look g P c r u).reached ≡ true → u < P
reached_in g P c r u h = go (cases_lt u P)
  where
    go : (u < P) ⊎ (P ≤ u) → u < P
    go (inl l) = l
    go (inr l) = absurd (both_ways _ (ap (λ x. x.reached) (look_out g P c r u l)) h)

-- ---- aims
module _ (g : List GuideRecord) (P r n a : ℕ) (h : 0 < P) (e : n ≡ r * P + 0) (within : n < length g) where
  abbrev aimed : List GuideRecord
  aimed = set g n (record { plain = (get_or g n blank_record_lem).plain; marked = (get_or g n blank_record_lem).marked; up = (get_or g n blank_record_lem).up; aim = a })

  same_lanes : (c : Lane) (k : ℕ) → lane_of c (get_or aimed k blank_record_lem) ≡ lane_of c (get_or g k blank_record_lem)
  same_lanes c k = grind (arith, common_steps)

  pub aim_keeps_look : look aimed P ≡ look g P
  unfolding look
  aim_keeps_look = fun_ext (λ c. fun_ext (λ r'. fun_ext (λ u. ap (λ x. cond (ltb u P) x blank) (same_lanes c (r' * P + u)))))

  pub aim_set : Aimed g aimed P r a
  unfolding aim_of_lem
  aim_set = record {
    here = ap (λ k. (get_or aimed k blank_record_lem).aim) at_row ∙ ap (λ x. x.aim) (get_or-set_same g n _ blank_record_lem within);
    rest = λ r' ne. ap (λ x. x.aim) (get_or-set_other g n (r' * P) _ blank_record_lem (λ q. ne (apart P r r' 0 0 h h (plus_zero (r' * P) ∙ q ∙ e)).0));
  }
    where
      plus_zero : (k : ℕ) → k + 0 ≡ k
      plus_zero k = omega arith

      at_row : r * P ≡ n
      at_row = sym (plus_zero (r * P)) ∙ sym e
