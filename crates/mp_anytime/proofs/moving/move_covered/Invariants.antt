use Rattle.std.proofs.Common.{◌≡◌, ℕ, ◌+◌, ◌-◌, ◌*◌, ◌<◌, ◌≤◌, get_or, length}
use Rattle.mp_defs.specs.Series.{series_of}
use Rattle.mp_anytime.specs.Kept.{IsSumAt, OnlyReads}
use Rattle.mp_anytime.specs.Sums.{HavePlaces, room_of, sum_in}
use Rattle.mp_anytime.proofs.moving.move_covered.Given as goal

abbrev pub invariant-loop-k : goal.invariant-loop-k
invariant-loop-k l =
    let a = series_of l.fn.samples.items in
    record {
      done : (q : ℕ) → q < l.k → IsSumAt l.m a (l.last - get_or l.covered q 0) l.last
          (sum_in l.sums (get_or l.covered q 0));
      rest : (q : ℕ) → l.k ≤ q → q < length l.covered
          → sum_in l.sums (get_or l.covered q 0) ≡ sum_in l.fn.sums (get_or l.covered q 0);
      places : HavePlaces (l.last + 1) l.sums;
      room : room_of l.sums ≡ room_of l.fn.sums;
      read : OnlyReads (2 * l.k + 2) l.fn.samples l.samples;
    }
