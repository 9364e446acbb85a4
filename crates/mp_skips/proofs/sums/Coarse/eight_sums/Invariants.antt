use Rattle.std.proofs.Common.{ℕ, ◌+◌, ◌*◌, ◌≤◌, ◌<◌}
use Rattle.mp_skips.specs.declared.sums.TheConstants.{MOST_GRAINS}
use Rattle.mp_skips.specs.Sums.{number_in}
use Rattle.mp_skips.specs.Blocks.{squares_outside}
use Rattle.mp_skips.specs.Lanes.{HasLanes}
use Rattle.mp_skips.proofs.sums.Coarse.eight_sums.Given as goal

abbrev pub invariant-loop-t : goal.invariant-loop-t
invariant-loop-t l = record {
  sums : HasLanes l.sums (λ k. squares_outside l.self l.row (l.group + k) l.t);
  small : (k : ℕ) → k < 8 → number_in l.sums k ≤ l.t * (MOST_GRAINS * MOST_GRAINS);
}
