use Rattle.std.proofs.Common.{ℕ, ◌+◌, ◌<◌, ◌≤◌, max}
use Rattle.mp_skips.specs.Sums.{number_in}
use Rattle.mp_multi.proofs.skips.are_reached.Given as goal

abbrev pub invariant-loop-t : goal.invariant-loop-t
invariant-loop-t l = (s : ℕ) → s < l.t → max l.need (number_in l.needs (l.place + s)) ≤ number_in l.bounds s
