use Rattle.std.proofs.Common.{◌≡◌, ◌+◌}
use Rattle.stored_runs.proofs.check_all.Given as goal

-- each run so far is counted once
abbrev pub invariant-loop-name : goal.invariant-loop-name
invariant-loop-name g l = l.tally.same + l.tally.differing ≡ l.name-index
