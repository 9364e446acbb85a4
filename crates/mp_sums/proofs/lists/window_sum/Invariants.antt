use Rattle.std.proofs.Common.{◌≡◌, ◌*◌, ◌≤◌}
use Rattle.mp_sums.specs.Lists.{list_sum}
use Rattle.mp_sums.specs.Sums.{greatest_square}
use Rattle.mp_sums.proofs.lists.window_sum.Given as goal

abbrev pub invariant-loop-k : goal.invariant-loop-k
invariant-loop-k l = record { sum_is : l.sum ≡ list_sum l.k l.xs 0 l.ys 0; small : l.sum ≤ l.k * greatest_square }
