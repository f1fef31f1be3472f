-- A place is marked as done, and then its hops are followed.
use Rattle.std.proofs.Common.{◌≡◌, ℕ, ◌+◌, sym, ap, subst}
use Rattle.guide.specs.declared.Lane.{Lane}
use Rattle.guide.specs.declared.Entry.{Entry}
use Rattle.guide.specs.Layout.{Table, look}
use Rattle.judge.specs.Tables.{Put}
use Rattle.judge.specs.Spread.{finished}
use Rattle.hierarchy.specs.Meaning.{Meaning}
use Rattle.judge.specs.declared.spread.Along.TheVariants.{All}
use Rattle.judge.specs.declared.table.Site.{Site}
use Rattle.judge.specs.Follows.{Expands}
use Rattle.judge.proofs.judged.Judged.turn.Goals as goal

marks : (T T' : Table) (c : Lane) (r v : ℕ) (x : Entry) → x ≡ T c r v → Put T T' c r v (finished x) → Put T T' c r v (finished (T c r v))
marks T T' c r v x e = subst (λ y. Put T T' c r v (finished y)) e

deeper : (m : Meaning) (s : Site) (v d e : ℕ) (T T' : Table) → d ≡ e → Expands m s All v d T T' → Expands m s All v e T T'
deeper m s v d e T T' q = subst (λ n. Expands m s All v n T T') q

pub returns : goal.returns
returns g c =
    let m = g.B.Hierarchy.meaning c.args.self.now.h.now in
    record {
      mid = look c.finish-old.new.guide c.args.site.places;
      marks = marks _ _ _ _ _ _ c.finish-old.ensures.was c.finish-old.ensures.done;
      follows = deeper m c.args.site c.args.v _ _ _ _ (sym (ap (λ x. x.depth + 1) c.finish-old.ensures.done.here)) c.expand.ensures;
    }
