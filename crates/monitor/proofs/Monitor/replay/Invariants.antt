-- The edits that are left make, of the monitor as it stands, what all make of it as it was.
use Rattle.std.proofs.Common.{◌≡◌, drop}
use Rattle.monitor.specs.Replay.{replayed}
use Rattle.monitor.specs.Tables.{automaton_of}
use Rattle.monitor.proofs.Monitor.replay.Given as goal

abbrev pub invariant-loop-edit : goal.invariant-loop-edit
invariant-loop-edit l =
    replayed (automaton_of l.self) (drop l.edit-index l.edits) ≡ replayed (automaton_of l.initial.self) l.edits
