-- Tables whose rows are right over the rows behind them are right, by induction downwards.
-- Assumes nothing.
use Rattle.std.proofs.Common.{◌≡◌, ℕ, ◌<◌, true, ◌↔◌}
use Rattle.hierarchy.specs.Meaning.{Meaning, box, Lawful}
use Rattle.theory.specs.Hops.{Hop, over, through, Hops, HopMarked, over!, through!, HopPass, at_end, on_way}
use Rattle.theory.specs.Tables.{Table, TableHop, table_over, table_through, Row, TableHopMarked, table_over!, table_end!, table_through! }
use Rattle.theory.specs.Tables.{TableBehindMark, RowMarked, BehindMark, Tabled, TabledMarks}
use Rattle.theory.proofs.Paths.{star_map}
use Rattle.theory.proofs.Reaching.{pass→hops, hops→pass}
use Rattle.theory.proofs.Passing.{marked_pass→hops, hops→marked_pass}
use Rattle.theory.proofs.Numbers.{down}

pub behind_mark→pass : {m : Meaning} {j e : ℕ} → BehindMark m j e → HopPass m j e
behind_mark→pass x = on_way x.come x.go x.on

module _ {m : Meaning} (L : Lawful m) (T : Table) where
  -- ---- row i tells what hops reach
  abbrev pub RowRight : ℕ → Type 0
  RowRight i = (u : ℕ) → (T i u ≡ true) ↔ Hops m i (m.entry i) u

  abbrev pub RightBehind : ℕ → Type 0
  RightBehind i = (j : ℕ) → i < j → j < m.structures → RowRight j

  pub table_hop→hop : {i : ℕ} → RightBehind i → (u w : ℕ) → TableHop m T i u w → Hop m i u w
  table_hop→hop f u w (table_over e) = over e
  table_hop→hop {i} f u w (table_through {j} {e} b x r l) =
      let o = L.inner i u j b in
      through b (hops→pass L o.1 x ((f j o.0 o.1 e).0 r)) l

  pub hop→table_hop : {i : ℕ} → RightBehind i → (u w : ℕ) → Hop m i u w → TableHop m T i u w
  hop→table_hop f u w (over e) = table_over e
  hop→table_hop {i} f u w (through {j} {e} b p l) =
      let o = L.inner i u j b in
      table_through b p.exits ((f j o.0 o.1 e).1 (pass→hops L o.1 p)) l

  pub rows_right : ((i : ℕ) → i < m.structures → Row m T i) → (i : ℕ) → i < m.structures → RowRight i
  rows_right rows = down RowRight m.structures (λ i h f u.
      (λ r. star_map (table_hop→hop f) ((rows i h u).0 r), λ p. (rows i h u).1 (star_map (hop→table_hop f) p)))

  -- ---- row i of M tells what hops reach behind a mark, where T is right
  module _ (M : Table) (right : (i : ℕ) → i < m.structures → RowRight i) where
    abbrev pub MarksRight : ℕ → Type 0
    MarksRight i = (w : ℕ) → (M i w ≡ true) ↔ BehindMark m i w

    abbrev pub MarksBehind : ℕ → Type 0
    MarksBehind i = (j : ℕ) → i < j → j < m.structures → MarksRight j

    pub table_hop→marked : {i u w : ℕ} → MarksBehind i → TableHopMarked m T M i u w → HopMarked m i u w
    table_hop→marked g (table_over! k e) = over! k e
    table_hop→marked {i} {u} g (table_end! {j} {e} b x r k l) =
        let o = L.inner i u j b in
        through! b (hops→marked_pass L o.1 x (at_end ((right j o.1 e).0 r) k)) l
    table_hop→marked {i} {u} g (table_through! {j} {e} b x r l) =
        let o = L.inner i u j b in
        through! b (hops→marked_pass L o.1 x (behind_mark→pass ((g j o.0 o.1 e).0 r))) l

    marked_pass→table : {i u w j e : ℕ} → MarksBehind i → m.place i u ≡ box j → m.exits j e ≡ true → HopPass m j e → m.leave i u e w ≡ true → TableHopMarked m T M i u w
    marked_pass→table {i} {u} {j = j} {e = e} g b x (at_end p k) l =
        let o = L.inner i u j b in
        table_end! b x ((right j o.1 e).1 p) k l
    marked_pass→table {i} {u} {j = j} {e = e} g b x (on_way {u = v} {w} p k q) l =
        let o = L.inner i u j b in
        table_through! b x ((g j o.0 o.1 e).1 (record { from = v; to = w; come = p; go = k; on = q })) l

    pub marked→table_hop : {i u w : ℕ} → MarksBehind i → HopMarked m i u w → TableHopMarked m T M i u w
    marked→table_hop g (over! k e) = table_over! k e
    marked→table_hop {i} {u} g (through! {j} {e} b p l) =
        marked_pass→table g b p.exits (marked_pass→hops L (L.inner i u j b).1 p) l

    table→behind_mark : {i w : ℕ} → i < m.structures → MarksBehind i → TableBehindMark m T M i w → BehindMark m i w
    table→behind_mark {i} h g x = record {
      from = x.from;
      to = x.to;
      come = (right i h x.from).0 x.come;
      go = table_hop→marked g x.go;
      on = star_map (table_hop→hop (λ j a b. right j b)) x.on;
    }

    behind_mark→table : {i w : ℕ} → i < m.structures → MarksBehind i → BehindMark m i w → TableBehindMark m T M i w
    behind_mark→table {i} h g x = record {
      from = x.from;
      to = x.to;
      come = (right i h x.from).1 x.come;
      go = marked→table_hop g x.go;
      on = star_map (hop→table_hop (λ j a b. right j b)) x.on;
    }

    pub marks_right : ((i : ℕ) → i < m.structures → RowMarked m T M i) → (i : ℕ) → i < m.structures → MarksRight i
    marks_right marks = down MarksRight m.structures (λ i h g w.
        (λ r. table→behind_mark h g ((marks i h w).0 r), λ x. (marks i h w).1 (behind_mark→table h g x)))

pub tabled : Tabled
tabled m L T rows = rows_right L T rows

pub tabled_marks : TabledMarks
tabled_marks m L T M rows marks = marks_right L T M (rows_right L T rows) marks
