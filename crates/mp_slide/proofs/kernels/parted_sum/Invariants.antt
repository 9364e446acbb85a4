use Rattle.std.proofs.Common.{◌≡◌, ◌*◌, ◌^◌, ◌≤◌}
use Rattle.mp_sums.specs.Lists.{list_sum}
use Rattle.mp_slide.proofs.kernels.parted_sum.Given as goal

abbrev pub invariant-loop-part : goal.invariant-loop-part
invariant-loop-part l =
    record { sum : l.sum ≡ list_sum (l.part * 256) l.pattern 0 l.window 0; small : l.sum ≤ l.part * 2 ^ 64 }
