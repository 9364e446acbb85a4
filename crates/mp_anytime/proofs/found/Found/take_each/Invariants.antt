use Rattle.std.proofs.Common.{◌-◌, ◌≤◌}
use Rattle.mp_scans.specs.Exacts.{IsExact}
use Rattle.mp_anytime.specs.Bounds.{AreTaken}
use Rattle.mp_anytime.specs.Scanning.{is_pair_done}
use Rattle.mp_anytime.proofs.found.Found.take_each.Given as goal

abbrev pub invariant-loop-k : goal.invariant-loop-k
invariant-loop-k l = record {
  within : l.k ≤ 32;
  taken : AreTaken l.rounded.plan (is_pair_done l.offset l.row l.quiet l.k) l.initial.self l.self;
  exact : IsExact l.rounded.plan.grid l.offset l.exact;
}

abbrev pub decreases-loop-k : goal.decreases-loop-k
decreases-loop-k l = 32 - l.k
