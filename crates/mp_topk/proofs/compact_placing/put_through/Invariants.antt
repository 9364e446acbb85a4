use Rattle.std.proofs.Common.{◌≡◌, length}
use Rattle.mp_topk.proofs.Through.{passed, through}
use Rattle.mp_topk.proofs.compact_placing.put_through.Given as goal

abbrev pub invariant-loop-place : goal.invariant-loop-place
invariant-loop-place g l =
    record {
      passed : passed l.place l.carried l.slots ≡ through l.fn.found l.initial.slots;
      places : length l.slots ≡ g.row.K;
    }
