-- Each visit reaches or leaves one place more.
use Rattle.std.proofs.Common.{◌≡◌, ℕ, ◌<◌, refl, arith}
use Rattle.hierarchy.specs.Meaning.{Meaning, Lawful}
use Rattle.guide.specs.Layout.{Table, look}
use Rattle.guide.specs.declared.Lane.TheVariants.{Plain, Marked}
use Rattle.judge.specs.Tables.{Others, Kept}
use Rattle.judge.proofs.Rings.{others_keep, kept_trans, behind_keep}
use Rattle.judge.proofs.Visits.{nested_start}
use Rattle.judge.proofs.judged.Judged.seek.Goals as goal
use Rattle.hierarchy.proofs.Beyond.{node_present}

entry_inside : (m : Meaning) → Lawful m → (i n P : ℕ) → i < m.structures → n ≡ m.entry i → P ≡ m.places → n < P
entry_inside m L i n P h e p = omega (arith, (L.within i (m.entry i) (node_present _ (L.entered i h))).1)

started : (S : ℕ) (T T₁ T₂ T₃ T₄ : Table) → Others T T₁ Marked S → Others T₁ T₂ Plain S → Others T₂ T₃ Marked S → Kept S T₃ T₄ → Kept S T T₄
started S T T₁ T₂ T₃ T₄ f g h k =
    kept_trans S T T₁ T₄ (others_keep T T₁ Marked S f) (kept_trans S T₁ T₂ T₄ (others_keep T₁ T₂ Plain S g) (kept_trans S T₂ T₃ T₄ (others_keep T₂ T₃ Marked S h) k))

pub loop-w-init : goal.loop-w-init
loop-w-init g c =
    let m = g.B.Hierarchy.meaning c.args.self.now.h.now in
    let L = g.B.Hierarchy.lawful c.args.self.now.h.now in
    let T₁ = look c.clear.new.guide c.args.self.now.places in
    let T₂ = look c.clear-2.new.guide c.args.self.now.places in
    let T₃ = look c.put.new.guide c.args.self.now.places in (
      λ l r u n. refl,
      nested_start m c.args.self.now.structures c.args.self.now.places c.args.structure c.entry-top.result T₁ T₂ T₃ _ c.entry-top.ensures
          (entry_inside m L c.args.structure _ _ (omega arith) c.entry-top.ensures c.args.self.now.places_are) c.clear.ensures.blank c.clear-2.ensures.others c.clear-2.ensures.blank c.child.ensures c.put.ensures,
    )

pub go_on-requires-clause-rows : goal.go_on-requires-clause-rows
go_on-requires-clause-rows g c =
    let m = g.B.Hierarchy.meaning c.args.self.now.h.now in
    let T = look c.args.guide.now c.args.self.now.places in
    let T₁ = look c.clear.new.guide c.args.self.now.places in
    let T₂ = look c.clear-2.new.guide c.args.self.now.places in
    let T₃ = look c.put.new.guide c.args.self.now.places in
    let T₄ = look c.loop-w.guide c.args.self.now.places in
    record {
      stands = omega (arith, c.requires.rows.stands, c.clear.auto.guide, c.clear-2.auto.guide, c.put.auto.guide, c.loop-w.auto.guide);
      behind = behind_keep m T T₄ c.args.self.now.structures 0 c.args.self.now.structures_are
          (started c.args.self.now.structures T T₁ T₂ T₃ T₄ c.clear.ensures.others c.clear-2.ensures.others c.put.ensures.others c.loop-w.invariant.0) c.requires.rows.behind;
    }
