use Rattle.std.proofs.Common.{◌≡◌, ℕ, ◌<◌, [], length, get_or}
use Rattle.mp_skips.specs.declared.summed.Summed.{Summed}
use Rattle.mp_multi.specs.Skips.{IsSummedOf}
use Rattle.mp_multi.proofs.summed.sum_up.Given as goal

abbrev pub invariant-loop-c : goal.invariant-loop-c
invariant-loop-c l = record {
  count : length l.sums.items ≡ l.c;
  each : (c : ℕ) (past : Summed) → c < length l.sums.items
      → IsSummedOf (get_or l.plan.channels.list.now c []) l.plan.channels.m l.units (get_or l.sums.items c past);
}
