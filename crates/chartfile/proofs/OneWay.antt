-- One file loads in one way: records are a prefix code, and a fault is where no further record can stand.
use Rattle.std.proofs.Common.{◌≡◌, ℕ, ◌+◌, ◌≤◌, Bool, true, false, cond, eqb, List, [], ◌∷◌, ◌++◌, length, Some, None, Ok, Err, Option, Result, sym, refl, ap, ◌∙◌, subst, append_assoc, arith}
use Rattle.hierarchy.specs.declared.refusal.Refusal.{Refusal}
use Rattle.sheet.specs.declared.Edit.TheVariants.{Node, Box, Exit, Look, Edge, Leave, Unedge, Unleave}
use Rattle.monitor.specs.declared.replay.MonitorEdit.TheVariants.{State, Step, Accept}
use Rattle.chartfile.specs.declared.Fault.{Fault}
use Rattle.chartfile.specs.declared.record.Record.{Record}
use Rattle.chartfile.specs.declared.record.Record.TheVariants.{Begin, Draw, Watch}
use Rattle.chartfile.specs.Records.{Drawing, body_length, record_bytes, file_bytes, is_begin_lem, performed}
use Rattle.chartfile.specs.Files.{Stand, none, then, Unreadable, unknown, cut, Refused, missing, unreadable, misplaced, by_call, Ends, whole, fault, first_of, Read, too_long, short, LoadsOneWay}
use Rattle.chartfile.proofs.Progress.{still, still_not, first_still}

-- ---- reading back: the record at the front, and what stands behind it
abbrev Taken : Type 0
Taken = Option (Record × List ℕ)

abbrev take_1 : (ℕ → Record) → List ℕ → Taken
take_1 f [] = None
take_1 f (a ∷ x) = Some (f a, x)

abbrev take_2 : (ℕ → ℕ → Record) → List ℕ → Taken
take_2 f [] = None
take_2 f (a ∷ x) = take_1 (f a) x

abbrev take_3 : (ℕ → ℕ → ℕ → Record) → List ℕ → Taken
take_3 f [] = None
take_3 f (a ∷ x) = take_2 (f a) x

abbrev take_4 : (ℕ → ℕ → ℕ → ℕ → Record) → List ℕ → Taken
take_4 f [] = None
take_4 f (a ∷ x) = take_3 (f a) x

abbrev take_record : List ℕ → Taken
take_record [] = None
take_record (k ∷ x) =
    cond (eqb k 1) (take_1 (λ n. Begin n) x)
    (cond (eqb k 2) (take_2 (λ i l. Draw (Node i l)) x)
    (cond (eqb k 3) (take_2 (λ i j. Draw (Box i j)) x)
    (cond (eqb k 4) (take_2 (λ i p. Draw (Exit i p)) x)
    (cond (eqb k 5) (take_3 (λ i p l. Draw (Look i p l)) x)
    (cond (eqb k 6) (take_3 (λ i p w. Draw (Edge i p w)) x)
    (cond (eqb k 7) (take_4 (λ i b e w. Draw (Leave i b e w)) x)
    (cond (eqb k 8) (take_3 (λ i p w. Draw (Unedge i p w)) x)
    (cond (eqb k 9) (take_4 (λ i b e w. Draw (Unleave i b e w)) x)
    (cond (eqb k 16) (Some (Watch State, x))
    (cond (eqb k 17) (take_4 (λ q care value r. Watch (Step q care value r)) x)
    (cond (eqb k 18) (take_1 (λ q. Watch (Accept q)) x) None)))))))))))

takes_back : (c : Record) (x : List ℕ) → take_record (record_bytes c ++ x) ≡ Some (c, x)
takes_back (Begin n) x = refl
takes_back (Draw (Node i l)) x = refl
takes_back (Draw (Box i j)) x = refl
takes_back (Draw (Exit i p)) x = refl
takes_back (Draw (Look i p l)) x = refl
takes_back (Draw (Edge i p w)) x = refl
takes_back (Draw (Leave i b e w)) x = refl
takes_back (Draw (Unedge i p w)) x = refl
takes_back (Draw (Unleave i b e w)) x = refl
takes_back (Watch State) x = refl
takes_back (Watch (Step q care value r)) x = refl
takes_back (Watch (Accept q)) x = refl

-- records are a prefix code
pub prefix_code : (c c' : Record) (x y : List ℕ) → record_bytes c ++ x ≡ record_bytes c' ++ y → (c ≡ c') × (x ≡ y)
prefix_code c c' x y e =
    let t : ◌≡◌ {A = Taken} (Some (c, x)) (Some (c', y)) = sym (takes_back c x) ∙ ap take_record e ∙ takes_back c' y in
    let s : ◌≡◌ {A = Record × List ℕ} (c, x) (c', y) = cc in
    (ap (λ (p : Record × List ℕ). p.0) s, ap (λ (p : Record × List ℕ). p.1) s)

-- ---- what cannot be read is no record
record Enough (k : ℕ) (rest : List ℕ) : Type 0 where
  pub fields : ℕ
  pub known : body_length k ≡ Some fields
  pub there : fields ≤ length rest

abbrev Readable : List ℕ → Type 0
Readable [] = ⊥
Readable (k ∷ rest) = Enough k rest

readable : (c : Record) (x : List ℕ) → Readable (record_bytes c ++ x)
readable (Begin n) x = record { fields = 1; known = refl; there = omega arith }
readable (Draw (Node i l)) x = record { fields = 2; known = refl; there = omega arith }
readable (Draw (Box i j)) x = record { fields = 2; known = refl; there = omega arith }
readable (Draw (Exit i p)) x = record { fields = 2; known = refl; there = omega arith }
readable (Draw (Look i p l)) x = record { fields = 3; known = refl; there = omega arith }
readable (Draw (Edge i p w)) x = record { fields = 3; known = refl; there = omega arith }
readable (Draw (Leave i b e w)) x = record { fields = 4; known = refl; there = omega arith }
readable (Draw (Unedge i p w)) x = record { fields = 3; known = refl; there = omega arith }
readable (Draw (Unleave i b e w)) x = record { fields = 4; known = refl; there = omega arith }
readable (Watch State) x = record { fields = 0; known = refl; there = omega arith }
readable (Watch (Step q care value r)) x = record { fields = 4; known = refl; there = omega arith }
readable (Watch (Accept q)) x = record { fields = 1; known = refl; there = omega arith }

unreadable_not_readable : {bytes : List ℕ} {r : Refusal} → Unreadable bytes r → Readable bytes → ⊥
unreadable_not_readable (unknown e) h = cc
unreadable_not_readable (cut {n = n} e l) h = let s : n ≡ h.fields = cc in omega (arith, h.there)

no_record_unreadable : {bytes : List ℕ} {r : Refusal} (c : Record) (x : List ℕ) → bytes ≡ record_bytes c ++ x → Unreadable bytes r → ⊥
no_record_unreadable c x e u = unreadable_not_readable u (subst (λ (l : List ℕ). Readable l) (sym e) (readable c x))

no_record_empty : {bytes : List ℕ} (c : Record) (x : List ℕ) → bytes ≡ record_bytes c ++ x → bytes ≡ [] → ⊥
no_record_empty c x e z = let f : record_bytes c ++ x ≡ [] = sym e ∙ z in subst (λ (l : List ℕ). Readable l) f (readable c x)

no_unreadable_empty : {bytes : List ℕ} {r : Refusal} → bytes ≡ [] → Unreadable bytes r → ⊥
no_unreadable_empty e (unknown k) = absurd (omega (arith, ap length e))
no_unreadable_empty e (cut k l) = absurd (omega (arith, ap length e))

-- ---- one refusal
one_unreadable : {bytes : List ℕ} {r r' : Refusal} → Unreadable bytes r → Unreadable bytes r' → r ≡ r'
one_unreadable (unknown e) (unknown f) = refl
one_unreadable (unknown e) (cut f l) = cc
one_unreadable (cut f l) (unknown e) = cc
one_unreadable (cut e l) (cut f m) = refl

same_record : {bytes : List ℕ} (c c' : Record) (x y : List ℕ) → bytes ≡ record_bytes c ++ x → bytes ≡ record_bytes c' ++ y → c ≡ c'
same_record c c' x y e f = (prefix_code c c' x y (sym e ∙ f)).0

one_refusal : {first : Bool} {d : Drawing} {bytes : List ℕ} {r r' : Refusal} → Refused first d bytes r → Refused first d bytes r' → r ≡ r'
one_refusal (missing t e) (missing t' e') = refl
one_refusal (missing t e) (unreadable u) = absurd (no_unreadable_empty e u)
one_refusal (missing t e) (misplaced c x s n) = refl
one_refusal (missing t e) (by_call c x s p a) = absurd (no_record_empty c x s e)
one_refusal (unreadable u) (missing t e) = absurd (no_unreadable_empty e u)
one_refusal (unreadable u) (unreadable v) = one_unreadable u v
one_refusal (unreadable u) (misplaced c x s n) = absurd (no_record_unreadable c x s u)
one_refusal (unreadable u) (by_call c x s p a) = absurd (no_record_unreadable c x s u)
one_refusal (misplaced c x s n) (missing t e) = refl
one_refusal (misplaced c x s n) (unreadable u) = absurd (no_record_unreadable c x s u)
one_refusal (misplaced c x s n) (misplaced c' x' s' n') = refl
one_refusal (misplaced c x s n) (by_call c' x' s' p a) = absurd (n (ap is_begin_lem (same_record c c' x x' s s') ∙ p))
one_refusal (by_call c x s p a) (missing t e) = absurd (no_record_empty c x s e)
one_refusal (by_call c x s p a) (unreadable u) = absurd (no_record_unreadable c x s u)
one_refusal (by_call c x s p a) (misplaced c' x' s' n) = absurd (n (ap is_begin_lem (same_record c' c x' x s' s) ∙ p))
one_refusal (by_call c x s p a) (by_call c' x' s' p' a') = let e = same_record c c' x x' s s' in cc

-- ---- where loading ends no further record can stand
Halts : Bool → Drawing → List ℕ → Type 0
Halts first d rest = (c : Record) (x : List ℕ) → rest ≡ record_bytes c ++ x → is_begin_lem c ≡ first → (performed d c).answer ≡ Ok tt → ⊥

refused_halts : {first : Bool} {d : Drawing} {rest : List ℕ} {r : Refusal} → Refused first d rest r → Halts first d rest
unfolding Halts
refused_halts (missing t e) = λ c x s b a. no_record_empty c x s e
refused_halts (unreadable u) = λ c x s b a. no_record_unreadable c x s u
refused_halts (misplaced c' x' s' n) = λ c x s b a. n (ap is_begin_lem (same_record c' c x' x s' s) ∙ b)
refused_halts (by_call c' x' s' p a') = λ c x s b a. let e = same_record c c' x x' s s' in cc

ends_halts : {rs : List Record} {d : Drawing} {rest : List ℕ} {answer : Result Bool Fault} → Ends rs d rest answer → Halts (first_of rs) d rest
unfolding Halts
ends_halts (whole f) = λ c x s b a. no_record_empty c x s refl
ends_halts (fault f) = refused_halts f

record Same (rs rs' : List Record) (rest rest' : List ℕ) (d d' : Drawing) : Type 0 where
  pub records : rs ≡ rs'
  pub rests : rest ≡ rest'
  pub drawings : d ≡ d'

one_split : (rs rs' : List Record) (first : Bool) (d after after' : Drawing) (rest rest' : List ℕ) → Stand first d rs after → Stand first d rs' after'
    → file_bytes rs ++ rest ≡ file_bytes rs' ++ rest' → Halts (still first rs) after rest → Halts (still first rs') after' rest'
    → Same rs rs' rest rest' after after'
unfolding Halts
one_split [] [] first d after after' rest rest' none none e h h' = record { records = refl; rests = e; drawings = refl }
one_split [] (c ∷ rs') first d after after' rest rest' none (then p a s) e h h' =
    absurd (h c (file_bytes rs' ++ rest') (e ∙ append_assoc (record_bytes c) (file_bytes rs') rest') p a)
one_split (c ∷ rs) [] first d after after' rest rest' (then p a s) none e h h' =
    absurd (h' c (file_bytes rs ++ rest) (sym e ∙ append_assoc (record_bytes c) (file_bytes rs) rest) p a)
one_split (c ∷ rs) (c' ∷ rs') first d after after' rest rest' (then p a s) (then p' a' s') e h h' =
    let code = prefix_code c c' (file_bytes rs ++ rest) (file_bytes rs' ++ rest')
    (sym (append_assoc (record_bytes c) (file_bytes rs) rest) ∙ e ∙ append_assoc (record_bytes c') (file_bytes rs') rest') in
    let t : Stand false (performed d c).drawing rs' after'
    = subst (λ (q : Record). Stand false (performed d q).drawing rs' after') (sym code.0) s' in
    let g = subst (λ (b : Bool). Halts b after rest) (still_not rs) h in
    let g' = subst (λ (b : Bool). Halts b after' rest') (still_not rs') h' in
    let more = one_split rs rs' false (performed d c).drawing after after' rest rest' s t code.1 g g' in
    record {
      records = ap (λ (q : Record). q ∷ rs) code.0 ∙ ap (λ (l : List Record). c' ∷ l) more.records;
      rests = more.rests;
      drawings = more.drawings;
    }

-- ---- one end, one answer
not_refused_at_end : {first : Bool} {d : Drawing} {bytes : List ℕ} {r : Refusal} → first ≡ false → bytes ≡ [] → Refused first d bytes r → ⊥
not_refused_at_end f z (missing t e) = cc
not_refused_at_end f z (unreadable u) = no_unreadable_empty z u
not_refused_at_end f z (misplaced c x s n) = no_record_empty c x s z
not_refused_at_end f z (by_call c x s p a) = no_record_empty c x s z

one_end : {rs : List Record} {d : Drawing} {rest : List ℕ} {answer answer' : Result Bool Fault} → Ends rs d rest answer → Ends rs d rest answer' → answer ≡ answer'
one_end (whole f) (whole g) = refl
one_end (whole f) (fault g) = absurd (not_refused_at_end f refl g)
one_end (fault g) (whole f) = absurd (not_refused_at_end f refl g)
one_end {rs} (fault f) (fault g) =
    ap (λ (r : Refusal). Err (record { refusal = r; «record» = length rs + 1; offset = length (file_bytes rs) })) (one_refusal f g)

one_reading : {before after after' : Drawing} {bytes : List ℕ} {answer answer' : Result Bool Fault} → Read before bytes answer after
    → Read before bytes answer' after' → (answer ≡ answer') × (after ≡ after')
one_reading {before} {after} {after'} {bytes} {answer} {answer'} x y =
    let g = subst (λ (b : Bool). Halts b after x.rest) (first_still x.records) (ends_halts x.ends) in
    let h = subst (λ (b : Bool). Halts b after' y.rest) (first_still y.records) (ends_halts y.ends) in
    let s = one_split x.records y.records true before after after' x.rest y.rest x.stand y.stand (sym x.split ∙ y.split) g h in
    let a : Ends x.records after' y.rest answer' = subst (λ (l : List Record). Ends l after' y.rest answer') (sym s.records) y.ends in
    let b : Ends x.records after' x.rest answer' = subst (λ (l : List ℕ). Ends x.records after' l answer') (sym s.rests) a in
    let c : Ends x.records after x.rest answer' = subst (λ (q : Drawing). Ends x.records q x.rest answer') (sym s.drawings) b in
    (one_end x.ends c, s.drawings)

pub loads_one_way : LoadsOneWay
loads_one_way before after after' bytes answer answer' (too_long h) (too_long h') = (refl, refl)
loads_one_way before after after' bytes answer answer' (too_long h) (short h' x) = absurd (omega arith)
loads_one_way before after after' bytes answer answer' (short h x) (too_long h') = absurd (omega arith)
loads_one_way before after after' bytes answer answer' (short h x) (short h' y) = one_reading x y
