use Rattle.std.proofs.Common.{◌≡◌}
use Rattle.mp_defs.specs.Series.{series_of}
use Rattle.mp_skips.specs.Totals.{sum_from, level}
use Rattle.mp_skips.proofs.fills.first_sum.Given as goal

abbrev pub invariant-loop-t : goal.invariant-loop-t
invariant-loop-t l = l.sum ≡ sum_from (level l.low (series_of l.samples)) l.t 0
