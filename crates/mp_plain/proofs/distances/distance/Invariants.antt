use Rattle.std.proofs.Common.{◌≡◌, ◌-◌, ◌*◌, ◌^◌, ◌≤◌}
use Rattle.std.specs.Prelude.{Some}
use Rattle.mp_defs.specs.Series.{series_of}
use Rattle.mp_defs.specs.Distance.{distance}
use Rattle.mp_plain.proofs.distances.distance.Given as goal

abbrev pub invariant-loop-k : goal.invariant-loop-k
invariant-loop-k l = record {
  is : distance l.k (series_of l.a) l.i (series_of l.b) l.j ≡ Some l.sum;
  small : l.sum ≤ l.k * (2 ^ 96 - 1);
}
