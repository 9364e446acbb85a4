use Rattle.std.proofs.Common.{◌≡◌, ℕ, ◌<◌, length}
use Rattle.mp_defs.specs.Series.{series_of}
use Rattle.mp_skips.specs.Totals.{sum_from, level}
use Rattle.mp_skips.specs.Sums.{number_in, AreFloors}
use Rattle.mp_skips.specs.declared.sums.TheConstants.{MOST_GRAINS}
use Rattle.mp_skips.proofs.fills.fill_floors.Given as goal

abbrev pub invariant-loop-p : goal.invariant-loop-p
invariant-loop-p l = record {
  sum : l.sum ≡ sum_from (level l.low (series_of l.samples)) l.count l.p;
  floors : AreFloors l.low l.count l.grain (series_of l.samples) l.floors l.p;
  small : (k : ℕ) → k < l.p → number_in l.floors k < MOST_GRAINS;
  places : length l.floors ≡ length l.initial.floors;
}
