use Rattle.std.proofs.Common.{◌+◌, ◌-◌}
use Rattle.mp_defs.specs.Series.{series_of}
use Rattle.mp_pan.specs.Ranges.{AreForLengths, HaveTaken, best_at, from_to, unusual_at}
use Rattle.mp_pan.proofs.found.take_each.Given as goal

abbrev pub invariant-loop-k : goal.invariant-loop-k
invariant-loop-k l =
    let first = l.lengths.least - l.lo in
    let a = series_of l.lengths.samples.now in
    record {
      best : HaveTaken (from_to first (first + l.k)) (best_at l.lo a) l.initial.best l.best;
      discord : HaveTaken (from_to first (first + l.k)) (unusual_at l.lo a) l.initial.discord l.discord;
      best_places : AreForLengths l.best;
      discord_places : AreForLengths l.discord;
    }
