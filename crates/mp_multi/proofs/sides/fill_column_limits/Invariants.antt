use Rattle.std.proofs.Common.{◌≡◌, ℕ, ◌+◌, ◌<◌, length, w32, FitsSigned}
use Rattle.mp_sums.specs.Residues.{item}
use Rattle.mp_scans.specs.Limiting.{first_on}
use Rattle.mp_multi.specs.Blocks.{IsLimitIn}
use Rattle.mp_multi.proofs.sides.fill_column_limits.Given as goal

abbrev pub invariant-loop-c : goal.invariant-loop-c
invariant-loop-c l = record {
  places : length l.limits ≡ length l.fn.limits;
  fit : (q : ℕ) → q < l.c → FitsSigned w32 (item l.limits q);
  done : (q : ℕ) → q < l.c → l.block.column + q < l.block.windows
      → IsLimitIn l.block l.into.items (l.block.column + q) (l.block.row + first_on l.width q) (item l.limits q);
}
