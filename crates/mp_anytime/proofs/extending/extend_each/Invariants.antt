use Rattle.std.proofs.Common.{◌≡◌, ℕ, ◌+◌, ◌-◌, ◌*◌, ◌<◌, ◌≤◌, get_or, length, take}
use Rattle.mp_defs.specs.Series.{series_of}
use Rattle.mp_tiles.specs.Scanning.{IsScanned}
use Rattle.mp_anytime.specs.Kept.{IsSumAt, OnlyReads, is_last_pair}
use Rattle.mp_anytime.specs.Sums.{HavePlaces, room_of, sum_in}
use Rattle.mp_anytime.proofs.extending.extend_each.Given as goal

abbrev pub invariant-loop-k : goal.invariant-loop-k
invariant-loop-k l =
    let a = series_of l.fn.samples.items in
    record {
      done : (q : ℕ) → q < l.k → IsSumAt l.m a (l.last - get_or l.covered q 0) l.last
          (sum_in l.sums (get_or l.covered q 0));
      rest : (q : ℕ) → l.k ≤ q → q < length l.covered
          → sum_in l.sums (get_or l.covered q 0) ≡ sum_in l.fn.sums (get_or l.covered q 0);
      places : HavePlaces (l.last + 1) l.sums;
      room : room_of l.sums ≡ room_of l.fn.sums;
      scanned : IsScanned (is_last_pair (take l.k l.covered) l.last) l.m a l.fn.profile l.profile;
      read : OnlyReads (4 * l.k) l.fn.samples l.samples;
    }
