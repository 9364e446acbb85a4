use Rattle.std.proofs.Common.{◌≡◌, ℕ, ◌+◌, ◌<◌, length}
use Rattle.std.specs.Prelude.{All, slice_index_or, []}
use Rattle.mp_skips.specs.Sums.{number_in}
use Rattle.mp_skips.specs.declared.sums.TheConstants.{MOST_SUM}
use Rattle.mp_multi.proofs.known.least_eight.Given as goal

abbrev pub invariant-loop-c : goal.invariant-loop-c
invariant-loop-c g l = record {
  places : length l.numbers ≡ g.row.D;
  lanes : All (λ v. length v ≡ 8) l.numbers;
  small : All (λ v. (t : ℕ) → t < 8 → number_in v t < MOST_SUM) l.numbers;
  loaded : (c t : ℕ) → c < l.c → t < 8 → number_in (slice_index_or l.numbers c []) t
      ≡ number_in (slice_index_or l.dists c []) (l.place + t);
}
