use Rattle.std.proofs.Common.{sym, ap, ◌∙◌, subst}
use Rattle.hierarchy.specs.declared.Size.{Size}
use Rattle.walk.proofs.Answered.{sized_lacks}
use Rattle.report.specs.Report.{Report}
use Rattle.report.proofs.Told.{head_room, head_only, states_room, with_states}
use Rattle.report.proofs.judged.report_on.Goals.{in-Some+in_ok-push_states, in_default}
use Rattle.report.proofs.judged.report_on.Goals as goal

pub push_head-requires : goal.push_head-requires
push_head-requires g c =
    let m = g.B.Hierarchy.meaning c.args.h.now in
    let L = g.B.Hierarchy.lawful c.args.h.now in
    let size = (sized_lacks m _ _ c.in_ok-size.ensures).1 in
    head_room m L c.requires.fits c.requires.few _ _ (ap (λ (s : Size). s.structures) size) (ap (λ (s : Size). s.places) size) c.new-text.ensures c.in_ok-reach.field-0.reach c.is_some.result

pub push_states-requires-clause-room : goal.push_states-requires-clause-room
push_states-requires-clause-room g c =
    let m = g.B.Hierarchy.meaning c.args.h.now in
    let L = g.B.Hierarchy.lawful c.args.h.now in
    let size = (sized_lacks m _ _ c.in_ok-size.ensures).1 in
    let told = c.in_ok-reach.ensures in
    states_room m L c.requires.fits c.requires.few _ _ (ap (λ (s : Size). s.structures) size) (ap (λ (s : Size). s.places) size) c.new-text.ensures c.in_ok-reach.field-0 told.reach told.recur c.is_some.result c.is_some.ensures c.push_head.ensures
    c.judge.new.guide told.guides c.in-Some.found c.in-Some.is

pub returns-clause-printed : goal.returns-clause-printed
returns-clause-printed g c =
    let m = g.B.Hierarchy.meaning c.args.h.now in
    let L = g.B.Hierarchy.lawful c.args.h.now in
    let size = (sized_lacks m _ _ c.in_ok-size.ensures).1 in
    let told = c.in_ok-reach.ensures in
    let v = c.in_ok-reach.field-0 in
    let text : Report m c.match-recur.text.bytes = elim c.match-recur.branch [
      | in-Some+in_ok-push_states w ↦
          with_states m L c.requires.fits c.requires.few _ _ (ap (λ (s : Size). s.structures) size) (ap (λ (s : Size). s.places) size) c.new-text.ensures v told.reach told.recur c.is_some.result c.is_some.ensures c.push_head.ensures
          c.judge.new.guide told.guides w.in-Some.found w.in-Some.is (ap (λ t. t.bytes) w.text-is ∙ w.in_ok-push_states.ensures)
      | in_default w ↦
          head_only m L c.requires.fits c.requires.few _ _ (ap (λ (s : Size). s.structures) size) (ap (λ (s : Size). s.places) size) c.new-text.ensures v told.reach told.recur c.is_some.result c.is_some.ensures c.push_head.ensures
          w.in_default.is (ap (λ t. t.bytes) w.text-is)
    ] in
    record { within = c.put_front.ensures.within; text = subst (Report m) (sym c.put_front.ensures.front) text; behind = c.put_front.ensures.behind }
