use Rattle.std.proofs.Common.{◌≡◌, ◌*◌, ◌≤◌}
use Rattle.mp_skips.specs.declared.sums.TheConstants.{MOST_GRAINS}
use Rattle.mp_skips.specs.Blocks.{squares_outside}
use Rattle.mp_skips.proofs.sums.Coarse.square_sum.Given as goal

abbrev pub invariant-loop-t : goal.invariant-loop-t
invariant-loop-t l = record {
  sum : l.sum ≡ squares_outside l.self l.row l.group l.t;
  small : l.sum ≤ l.t * (MOST_GRAINS * MOST_GRAINS);
}
