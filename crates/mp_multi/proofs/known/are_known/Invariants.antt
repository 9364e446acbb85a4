use Rattle.std.proofs.Common.{◌≡◌, ℕ, ◌<◌, [], map}
use Rattle.std.specs.Prelude.{Some, slice_index_or}
use Rattle.mp_defs.specs.Series.{series_of}
use Rattle.mp_results.specs.Multi.{distance_in}
use Rattle.mp_skips.specs.Sums.{number_in}
use Rattle.mp_multi.proofs.known.are_known.Given as goal

abbrev pub invariant-loop-c : goal.invariant-loop-c
invariant-loop-c g l =
    let ch = l.level.plan.channels in
    record {
      known : (q : ℕ) → q < l.c → distance_in ch.m (map series_of ch.list.now) l.row l.column q
          ≡ Some (number_in (slice_index_or l.dists q []) l.r);
    }
