use Rattle.std.proofs.Common.{◌≡◌, length}
use Rattle.mp_scans.specs.Offering.{in_block}
use Rattle.mp_multi.specs.Skips.{IsAheadOf}
use Rattle.mp_multi.proofs.seeds.scan_seeds.Given as goal

abbrev pub invariant-loop-k : goal.invariant-loop-k
invariant-loop-k g l = record {
  windows : length l.into.items ≡ l.level.windows;
  spare : l.into.spare ≡ l.fn.into.spare;
  ahead : IsAheadOf l.level.plan (in_block l.first l.level.windows 0 l.level.windows) l.fn.into l.into;
}
