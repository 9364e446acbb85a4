use Rattle.std.proofs.Common.{◌≡◌, ℕ, ◌<◌, length, pos}
use Rattle.mp_sums.specs.Residues.{item}
use Rattle.mp_anytime.proofs.bounds.Bounds.clear.Given as goal

abbrev pub invariant-loop-place : goal.invariant-loop-place
invariant-loop-place l = record {
  places : length l.self ≡ length l.initial.self;
  done : (q : ℕ) → q < l.place → item l.self q ≡ pos 2147483647;
}
