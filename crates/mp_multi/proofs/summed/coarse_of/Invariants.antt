use Rattle.std.proofs.Common.{◌≡◌, ℕ, ◌<◌, [], length, get_or}
use Rattle.mp_skips.specs.declared.sums.Coarse.{Coarse}
use Rattle.mp_multi.specs.Skips.{IsCoarseOf}
use Rattle.mp_multi.proofs.summed.coarse_of.Given as goal

abbrev pub invariant-loop-c : goal.invariant-loop-c
invariant-loop-c l = record {
  count : length l.list.items ≡ length l.sums;
  each : (c : ℕ) (past : Coarse) → c < l.c
      → IsCoarseOf (get_or l.plan.channels.list.now c []) l.plan.channels.m l.units (get_or l.list.items c past);
}
