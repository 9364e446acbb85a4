use Rattle.std.proofs.Common.{◌≡◌, ◌+◌, ◌*◌, ◌^◌, ◌<◌}
use Rattle.std.specs.Prelude.{IfSome, Some}
use Rattle.mp_defs.specs.Series.{series_of}
use Rattle.mp_defs.specs.Distance.{distance}
use Rattle.mp_sums.specs.Sums.{greatest_square}
use Rattle.mp_pan.specs.Spans.{all_put}
use Rattle.mp_pan.proofs.offers.offer_at_each.Given as goal

abbrev pub invariant-loop-k : goal.invariant-loop-k
invariant-loop-k l =
    let a = series_of l.lengths.samples.now in
    record {
      put : distance l.lengths.least a l.row a l.column ≡ Some l.dist
          → l.slots ≡ all_put l.k l.lengths.least a l.row l.column l.initial.slots;
      reached : distance l.lengths.least a l.row a l.column ≡ Some l.dist
          → l.reached ≡ distance (l.lengths.least + l.k) a l.row a l.column;
      small : IfSome l.reached (λ sum. sum < 2 ^ 110 + l.k * greatest_square);
    }
