use Rattle.std.proofs.Common.{◌≡◌, ℕ, ◌^◌, ◌<◌, length, get_or, map}
use Rattle.std.specs.Prelude.{Option, IfSome}
use Rattle.mp_nums.specs.declared.nearest.Sq.{Sq}
use Rattle.mp_defs.specs.Series.{series_of}
use Rattle.mp_results.specs.Multi.{distance_in}
use Rattle.mp_multi.specs.LeastSums.{distance_at}
use Rattle.mp_multi.proofs.known.value_at.Given as goal

abbrev pub invariant-loop-c : goal.invariant-loop-c
invariant-loop-c g l =
    let ch = l.level.plan.channels in
    record {
      places : length l.known ≡ g.row.D;
      told : (q : ℕ) → q < l.c → distance_at l.known q ≡ distance_in ch.m (map series_of ch.list.now) l.row l.column q;
      small : (q : ℕ) (past : Option Sq) → q < l.c → IfSome (get_or l.known q past) (λ dist. dist.0 < 2 ^ 110);
    }
