use Rattle.std.proofs.Common.{ℕ, ◌+◌, ◌*◌, ◌≤◌, ◌<◌}
use Rattle.mp_skips.specs.declared.sums.TheConstants.{MOST_GRAINS}
use Rattle.mp_skips.specs.Sums.{number_in}
use Rattle.mp_skips.specs.Blocks.{squares_apart}
use Rattle.mp_skips.specs.Lanes.{HasLanes}
use Rattle.mp_skips.proofs.sums.Coarse.fill_apart.Given as goal

abbrev pub invariant-loop-t : goal.invariant-loop-t
invariant-loop-t l = record {
  sums : HasLanes l.sums (λ u. squares_apart l.self l.row (l.column + u) l.t);
  small : (u : ℕ) → u < 8 → number_in l.sums u ≤ l.t * (MOST_GRAINS * MOST_GRAINS);
}
