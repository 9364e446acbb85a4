use Rattle.std.proofs.Common.{◌≡◌, ℕ, ◌+◌, ◌<◌, length}
use Rattle.mp_sums.specs.Residues.{item}
use Rattle.mp_multi.specs.Blocks.{IsLimitIn}
use Rattle.mp_multi.proofs.sides.fill_row_limits.Given as goal

abbrev pub invariant-loop-p : goal.invariant-loop-p
invariant-loop-p l = record {
  places : length l.limits ≡ length l.fn.limits;
  done : (q : ℕ) → q < l.p → IsLimitIn l.block l.into.items (l.block.row + q) (l.block.column + q)
      (item l.limits q);
}
