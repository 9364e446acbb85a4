use Rattle.std.proofs.Common.{◌≡◌, ℕ, ◌*◌, ◌<◌, length}
use Rattle.mp_skips.specs.Sums.{number_in}
use Rattle.mp_multi.specs.Skips.{least_at}
use Rattle.mp_multi.proofs.known.fill_sums.Given as goal

abbrev pub invariant-loop-h : goal.invariant-loop-h
invariant-loop-h g l = record {
  places : length l.sums ≡ g.row.N;
  told : (r : ℕ) → r < 8 * l.h → number_in l.sums r ≡ least_at l.level.plan.channels.k g.row.D l.dists r;
}
