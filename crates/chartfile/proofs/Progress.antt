-- Records one after another: what one more adds, and what is read at the end.
use Rattle.std.proofs.Common.{◌≡◌, ℕ, ◌+◌, ◌-◌, ◌<◌, ◌≤◌, Bool, true, false, ◌||◌, eqb, List, [], ◌∷◌, ◌++◌, length, Ok, Err, sym, refl, ap, ◌∙◌, subst, ap₂, append_assoc, arith, length-append}
use Rattle.hierarchy.specs.declared.refusal.Refusal.TheVariants.{BeginMisplaced}
use Rattle.hierarchy.specs.Refusals.{first}
use Rattle.std.proofs.lemmas.List.{append-nil, nil_from_length}
use Rattle.std.proofs.lemmas.List.Recursion.{or_push}
use Rattle.std.proofs.lemmas.Bool.{ne_eqb}
use Rattle.chartfile.specs.declared.Fault.{Fault}
use Rattle.sheet.specs.declared.Edit.TheVariants.{Node, Box, Exit, Look, Edge, Leave, Unedge, Unleave}
use Rattle.monitor.specs.declared.replay.MonitorEdit.TheVariants.{State, Step, Accept}
use Rattle.chartfile.specs.declared.record.Record.{Record}
use Rattle.chartfile.specs.declared.record.Record.TheVariants.{Begin, Draw, Watch}
use Rattle.chartfile.specs.Records.{Drawing, record_bytes, file_bytes, is_begin_lem, is_watch_lem, watches, performed}
use Rattle.chartfile.specs.Files.{Stand, none, then, Refused, missing, Ends, whole, fault, first_of, Read}
use Rattle.chartfile.specs.Steps.{Took, Faulty}

-- how far loading has come
pub record Progress (before now : Drawing) (bytes rest : List ℕ) (number : ℕ) (watched : Bool) : Type 0 where
  pub records : List Record
  pub split : bytes ≡ file_bytes records ++ rest
  pub stand : Stand true before records now
  pub count : number ≡ length records + 1
  pub watch : watched ≡ watches records

pub begin_progress : (d : Drawing) (bytes : List ℕ) → Progress d d bytes bytes 1 false
begin_progress d bytes = record { records = []; split = refl; stand = none; count = refl; watch = refl }

-- ---- one record more
pub file_bytes_more : (rs : List Record) (c : Record) → file_bytes (rs ++ c ∷ []) ≡ file_bytes rs ++ record_bytes c
file_bytes_more [] c = append-nil (record_bytes c)
file_bytes_more (r ∷ rs) c = ap (λ l. record_bytes r ++ l) (file_bytes_more rs c) ∙ sym (append_assoc (record_bytes r) (file_bytes rs) (record_bytes c))

watches_more : (rs : List Record) (c : Record) → watches (rs ++ c ∷ []) ≡ (watches rs || is_watch_lem c)
watches_more rs c = or_push watches is_watch_lem refl (λ _ _. refl) rs c

-- whether the next record is the first
abbrev pub still : Bool → List Record → Bool
still first [] = first
still first (r ∷ rs) = false

pub still_not : (rs : List Record) → false ≡ still false rs
still_not [] = refl
still_not (r ∷ rs) = refl

stand_more : (rs : List Record) (first : Bool) (d d' : Drawing) (c : Record) → Stand first d rs d' → is_begin_lem c ≡ still first rs
    → (performed d' c).answer ≡ Ok tt → Stand first d (rs ++ c ∷ []) (performed d' c).drawing
stand_more [] first d d' c none p a = then p a none
stand_more (r ∷ rs) first d d' c (then q b s) p a = then q b (stand_more rs false (performed d r).drawing d' c s (p ∙ still_not rs) a)

pub first_still : (rs : List Record) → first_of rs ≡ still true rs
first_still [] = refl
first_still (r ∷ rs) = refl

pub first_by_count : (rs : List Record) (n : ℕ) → n ≡ length rs + 1 → eqb n 1 ≡ first_of rs
first_by_count [] n e = ap (λ k. eqb k 1) e
first_by_count (r ∷ rs) n e = ne_eqb n 1 (λ z. omega arith)

pub more_progress : {before d d' : Drawing} {bytes rest next : List ℕ} {n : ℕ} {watched watch : Bool} → Progress before d bytes rest n watched
    → Took (eqb n 1) d d' rest watch next → Progress before d' bytes next (n + 1) (watched || watch)
more_progress {before} {d} {d'} {bytes} {rest} {next} {n} {watched} {watch} g t =
    let rs = g.records in
    let c = t.call in
    let p : is_begin_lem c ≡ still true rs = t.placed ∙ first_by_count rs n g.count ∙ first_still rs in
    record {
      records = rs ++ c ∷ [];
      split =
          g.split ∙ ap (λ l. file_bytes rs ++ l) t.split ∙ sym (append_assoc (file_bytes rs) (record_bytes c) next)
          ∙ ap (λ l. l ++ next) (sym (file_bytes_more rs c));
      stand = subst (λ (q : Drawing). Stand true before (rs ++ c ∷ []) q) (sym t.after) (stand_more rs true before d c g.stand p t.accepted);
      count = omega (arith, length-append rs (c ∷ []), g.count);
      watch = ap₂ (λ a b. a || b) g.watch t.watched ∙ sym (watches_more rs c);
    }

-- ---- the end
some_bytes : (c : Record) → 1 ≤ length (record_bytes c)
some_bytes (Begin n) = omega arith
some_bytes (Draw (Node i l)) = omega arith
some_bytes (Draw (Box i j)) = omega arith
some_bytes (Draw (Exit i p)) = omega arith
some_bytes (Draw (Look i p l)) = omega arith
some_bytes (Draw (Edge i p w)) = omega arith
some_bytes (Draw (Leave i b e w)) = omega arith
some_bytes (Draw (Unedge i p w)) = omega arith
some_bytes (Draw (Unleave i b e w)) = omega arith
some_bytes (Watch State) = omega arith
some_bytes (Watch (Step q care value t)) = omega arith
some_bytes (Watch (Accept q)) = omega arith

few_records : (rs : List Record) → length rs ≤ length (file_bytes rs)
few_records [] = omega arith
few_records (c ∷ rs) = let h = few_records rs in omega (arith, some_bytes c, length-append (record_bytes c) (file_bytes rs))

-- the number of the next record is small
pub few_so_far : {before d : Drawing} {bytes rest : List ℕ} {n : ℕ} {watched : Bool} → Progress before d bytes rest n watched → n + length rest ≤ length bytes + 1
few_so_far {rest = rest} g = omega (arith, ap length g.split, length-append (file_bytes g.records) rest, few_records g.records, g.count)

not_first : (rs : List Record) (rest : List ℕ) → 0 < length (file_bytes rs ++ rest) → rest ≡ [] → first_of rs ≡ false
not_first [] rest h e = absurd (omega (arith, ap length e))
not_first (r ∷ rs) rest h e = refl

pub whole_read : {before d : Drawing} {bytes rest : List ℕ} {n : ℕ} {watched : Bool} → 0 < length bytes → Progress before d bytes rest n watched
    → length rest ≡ 0 → Read before bytes (Ok watched) d
whole_read {before} {d} {bytes} {rest} {n} {watched} h g z =
    let e = nil_from_length rest z in
    record {
      records = g.records;
      rest = [];
      split = g.split ∙ ap (λ l. file_bytes g.records ++ l) e;
      stand = g.stand;
      ends = subst (λ (w : Bool). Ends g.records d [] (Ok w)) (sym g.watch)
          (whole (not_first g.records rest (subst (λ (l : List ℕ). 0 < length l) g.split h) e));
    }

pub faulty_read : {before d d' : Drawing} {bytes rest : List ℕ} {n offset : ℕ} {watched : Bool} (f : Fault) → Progress before d bytes rest n watched
    → offset ≡ length bytes - length rest → Faulty (eqb n 1) d d' rest n offset f → Read before bytes (Err f) d'
faulty_read {before} {d} {d'} {bytes} {rest} {n} {offset} {watched} f g o x =
    let rs = g.records in
    let e = ap length g.split ∙ length-append (file_bytes rs) rest in
    let at : f.offset ≡ length (file_bytes rs) = omega (arith, x.offset_is, o, e) in
    let no : f.«record» ≡ length rs + 1 = x.number_is ∙ g.count in
    let refused : Refused (first_of rs) d rest f.refusal = subst (λ (b : Bool). Refused b d rest f.refusal) (first_by_count rs n g.count) x.stopped.refused in
    let ends : Ends rs d rest (Err f)
    = subst (λ (q : Fault). Ends rs d rest (Err q))
    (ap₂ (λ (a b : ℕ). record { refusal = f.refusal; «record» = a; offset = b }) (sym no) (sym at)) (fault refused) in
    subst (λ (q : Drawing). Read before bytes (Err f) q) (sym x.stopped.unchanged)
    (record { records = rs; rest = rest; split = g.split; stand = g.stand; ends = ends })

pub empty_read : (d : Drawing) (bytes : List ℕ) → length bytes ≡ 0 → Read d bytes (Err (record { refusal = BeginMisplaced; «record» = 1; offset = 0 })) d
empty_read d bytes h = record { records = []; rest = bytes; split = refl; stand = none; ends = fault (missing refl (nil_from_length bytes h)) }
