use Rattle.std.proofs.Common.{◌≡◌, ℕ, ◌+◌, ◌*◌, ◌^◌, ◌<◌}
use Rattle.std.specs.Prelude.{IfSome, None, Some, slice_index_or}
use Rattle.mp_defs.specs.Series.{series_of}
use Rattle.mp_defs.specs.Distance.{distance}
use Rattle.mp_scans.specs.Slots.{Covers}
use Rattle.mp_sums.specs.Sums.{greatest_square}
use Rattle.mp_pan.proofs.offers.may_give_any.Given as goal

abbrev pub invariant-loop-k : goal.invariant-loop-k
invariant-loop-k l =
    let a = series_of l.lengths.samples.now in
    record {
      reached : distance l.lengths.least a l.row a l.column ≡ Some l.dist
          → l.reached ≡ distance (l.lengths.least + l.k) a l.row a l.column;
      small : IfSome l.reached (λ sum. sum < 2 ^ 110 + l.k * greatest_square);
      row : distance l.lengths.least a l.row a l.column ≡ Some l.dist → (k more : ℕ) → k < l.k
          → distance (l.lengths.least + k) a l.row a l.column ≡ Some more
          → Covers (slice_index_or l.slots (4 * l.row + k) None) l.column more;
      column : distance l.lengths.least a l.row a l.column ≡ Some l.dist → (k more : ℕ) → k < l.k
          → distance (l.lengths.least + k) a l.row a l.column ≡ Some more
          → Covers (slice_index_or l.slots (4 * l.column + k) None) l.row more;
    }
