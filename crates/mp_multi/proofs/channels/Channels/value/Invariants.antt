use Rattle.std.proofs.Common.{◌≡◌, ℕ, ◌^◌, ◌<◌, length, get_or, map}
use Rattle.std.specs.Prelude.{Option, IfSome}
use Rattle.mp_nums.specs.declared.nearest.Sq.{Sq}
use Rattle.mp_defs.specs.Series.{series_of}
use Rattle.mp_results.specs.Multi.{distance_in}
use Rattle.mp_multi.specs.LeastSums.{distance_at}
use Rattle.mp_multi.specs.Running.{AreRunning}
use Rattle.mp_multi.proofs.channels.Channels.value.Given as goal

abbrev pub invariant-loop-c : goal.invariant-loop-c
invariant-loop-c g l = record {
  places : length l.dists ≡ g.row.D;
  told : (i j : ℕ) → AreRunning l.self.m l.self.list.now i j l.running → (q : ℕ) → q < l.c
      → distance_at l.dists q ≡ distance_in l.self.m (map series_of l.self.list.now) i j q;
  small : (q : ℕ) (past : Option Sq) → q < l.c → IfSome (get_or l.dists q past) (λ dist. dist.0 < 2 ^ 110);
}
