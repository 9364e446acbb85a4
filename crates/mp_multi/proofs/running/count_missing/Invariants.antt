use Rattle.std.proofs.Common.{◌≡◌}
use Rattle.mp_defs.specs.Series.{series_of}
use Rattle.mp_multi.specs.Missing.{count_missing}
use Rattle.mp_multi.proofs.running.count_missing.Given as goal

abbrev pub invariant-loop-k : goal.invariant-loop-k
invariant-loop-k l = l.missing ≡ count_missing l.k (series_of l.channel) l.i l.j
