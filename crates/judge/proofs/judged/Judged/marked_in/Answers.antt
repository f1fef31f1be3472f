-- Each place of the structure is asked.
use Rattle.std.proofs.Common.{◌≡◌, ℕ, ◌<◌, Bool, true, false, MatchBool, length, get_or, refl, subst, arith, rules, tests}
use Rattle.std.specs.List.{range_with_len, HoldsAt, AllWithin}
use Rattle.std.proofs.lemmas.List.FromFn.{length-range_with_len, get_or-range_with_len}
use Rattle.std.proofs.lemmas.Iterator.{cases_from_any, YieldsList-from_range}
use Rattle.hierarchy.specs.Meaning.{Meaning, Lawful}
use Rattle.guide.specs.declared.Entry.{Entry}
use Rattle.guide.specs.declared.Lane.TheVariants.{Plain}
use Rattle.guide.specs.Layout.{look}
use Rattle.judge.specs.Rows.{PlainRow}
use Rattle.judge.specs.Known.{MarkIn, Decides}
use Rattle.judge.proofs.Knowing.{yes_is, no_is, mark_below}
use Rattle.judge.proofs.judged.Judged.marked_in.Goals as goal

module _ (m : Meaning) (L : Lawful m) (i : ℕ) (row : ℕ → Entry) (R : PlainRow m i row) where
  abbrev Marks : ℕ → Type 0
  Marks u = ((row u).reached ≡ true) × (m.mark i u ≡ true)

  abbrev Lacks : ℕ → Type 0
  Lacks u = (row u).reached ≡ true → m.mark i u ≡ true → ⊥

  decides : (r : Bool) → MatchBool r ((k : ℕ) × (k < length (range_with_len 0 m.places)) × HoldsAt Marks (range_with_len 0 m.places) k) (AllWithin Lacks (range_with_len 0 m.places) 0 (length (range_with_len 0 m.places))) →
      Decides r (MarkIn m i)
  decides true h = yes_is _ (let u = get_or (range_with_len 0 m.places) h.0 0 in record { u = u; come = (R.right u).0 (h.2 0).0; mark = (h.2 0).1 })
  decides false h = no_is _ (λ x. none x.u ((R.right x.u).1 x.come) x.mark)
    where
      none : (u : ℕ) → Lacks u
      none u r t =
          let b : u < m.places = mark_below m L i u t in
          subst Lacks {x = get_or (range_with_len 0 m.places) u 0} {y = u} (omega (arith, get_or-range_with_len 0 m.places u 0 b)) (h u 0 (omega arith) (omega (arith, length-range_with_len 0 m.places))) r t

pub returns : goal.returns
returns g c =
    let m = g.B.Hierarchy.meaning c.args.self.now.h.now in
    let L = g.B.Hierarchy.lawful c.args.self.now.h.now in
    let i = c.args.structure in
    let row = look c.args.guide.now c.args.self.now.places Plain i in
    let R = (c.requires.rows.behind i (omega arith) (omega arith)).plain in
    decides m L i row R _
    (cases_from_any _ _ _ (Marks m L i row R) (Lacks m L i row R) c.any.ensures.ran (YieldsList-from_range 0 c.args.self.now.places m.places refl (omega (arith, c.args.self.now.places_are))) (λ x q k. search (rules, tests)) (λ x q k. search (rules, tests)))
