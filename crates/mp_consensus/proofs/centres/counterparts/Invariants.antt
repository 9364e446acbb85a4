use Rattle.std.proofs.Common.{◌≡◌, map}
use Rattle.mp_defs.specs.Series.{series_of}
use Rattle.mp_results.specs.Consensus.{counterpart, those_there}
use Rattle.mp_consensus.proofs.centres.counterparts.Given as goal

abbrev pub invariant-loop-other : goal.invariant-loop-other
invariant-loop-other l = l.nearest.items ≡ those_there (counterpart l.m (map series_of l.list) l.place l.start) l.other
