use Rattle.std.proofs.Common.{◌≡◌}
use Rattle.mp_defs.specs.Series.{series_of}
use Rattle.mp_defs.specs.Profile.{join_entry, column}
use Rattle.mp_plain.proofs.joins.join.Given as goal

abbrev pub invariant-loop-i : goal.invariant-loop-i
invariant-loop-i l = l.joined.items ≡ column (join_entry l.m (series_of l.a) (series_of l.b)) l.i
