-- The flag of a state tells whether it is accepting, and beyond the flags there is none.
use Rattle.std.proofs.Common.{◌≡◌, false, length, get_or, rules, sym, ◌∙◌, arith}
use Rattle.monitor.proofs.Flags.{flag_is}
use Rattle.monitor.proofs.Monitor.is_accepting.Goals as goal

pub returns : goal.returns
returns c =
    let flags = c.args.self.now.accepting in
    let four : length flags ≡ 4 = omega arith in
    let read : c.unwrap_or.result ≡ get_or flags c.args.q false = search rules in
    read ∙ sym (flag_is flags c.args.q four)
