-- The flag of a state tells whether it is accepting.
use Rattle.std.proofs.Common.{◌≡◌, ℕ, ◌<◌, Bool, length, sym, refl, ap, ◌∙◌, arith, lit<}
use Rattle.std.proofs.lemmas.Bool.{true≢false}
use Rattle.monitor.specs.Automata.{Automaton}
use Rattle.monitor.specs.Tables.{automaton_of, steps_of}
use Rattle.monitor.proofs.Flags.{flag_at, flag_set}
use Rattle.monitor.proofs.Settled.{accept_goes, accept_again}
use Rattle.monitor.proofs.Monitor.accept.Goals as goal

pub returns : goal.returns
returns c =
    let m = c.args.self.now in
    let q = c.args.q in
    let few : q < 4 = omega (arith, m.few) in
    let four : length m.accepting ≡ 4 = omega arith in
    let with-flags : (ℕ → Bool) → Automaton = λ f. record { states = m.states; follows = steps_of m.steps; accepting = f } in
    let goes = accept_goes (automaton_of m) q c.if-q-self.false (flag_at m.accepting q few ∙ c.if-self-q.false) in
    record {
      answer = sym (ap (λ o. o.answer) goes);
      after = ap with-flags (flag_set m.accepting q four few) ∙ sym (ap (λ o. o.automaton) goes);
      unchanged = λ e. absurd (true≢false e);
      least = (lit< tt, tt);
    }

pub returns-then-self-q : goal.returns-then-self-q
returns-then-self-q c =
    let m = c.args.self.now in
    let q = c.args.q in
    let again = accept_again (automaton_of m) q c.if-q-self.false (flag_at m.accepting q (omega (arith, m.few)) ∙ c.if-self-q.true) in
    record {
      answer = sym (ap (λ o. o.answer) again);
      after = sym (ap (λ o. o.automaton) again);
      unchanged = λ _. refl;
      least = (lit< tt, tt);
    }
