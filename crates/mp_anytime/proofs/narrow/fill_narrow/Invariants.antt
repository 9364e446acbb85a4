use Rattle.std.proofs.Common.{◌≡◌, ℕ, ◌<◌, length, w16}
use Rattle.std.specs.Int.{int_wrap}
use Rattle.mp_defs.specs.Series.{series_of}
use Rattle.mp_sums.specs.Residues.{item}
use Rattle.mp_sums.specs.Sums.{numbers_of}
use Rattle.mp_anytime.proofs.narrow.fill_narrow.Given as goal

abbrev pub invariant-loop-k : goal.invariant-loop-k
invariant-loop-k l = record {
  places : length l.numbers ≡ length l.initial.numbers;
  done : (q : ℕ) → q < l.k → item l.numbers q ≡ int_wrap w16 (numbers_of (series_of l.samples) q);
}
