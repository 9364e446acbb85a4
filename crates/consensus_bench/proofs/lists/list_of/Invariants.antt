use Rattle.std.proofs.Common.{◌≡◌, ◌≤◌, All, length}
use Rattle.mp_series.specs.declared.limits.TheConstants.{MAX_SAMPLES}
use Rattle.consensus_bench.proofs.lists.list_of.Given as goal

abbrev pub invariant-loop : goal.invariant-loop
invariant-loop l = record {
  count : length l.list ≡ l.counter;
  samples : All (λ series. length series ≤ MAX_SAMPLES) l.list;
}
