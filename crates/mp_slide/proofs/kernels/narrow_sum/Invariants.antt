use Rattle.std.proofs.Common.{◌≡◌, ◌-◌}
use Rattle.mp_sums.specs.Lists.{list_sum}
use Rattle.mp_slide.proofs.kernels.narrow_sum.Given as goal

abbrev pub invariant-loop-k : goal.invariant-loop-k
invariant-loop-k l = l.sum ≡ list_sum (l.k - l.first) l.pattern l.first l.window l.first
