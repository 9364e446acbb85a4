use Rattle.std.proofs.Common.{◌≡◌, replicate, take}
use Rattle.std.specs.Prelude.{None}
use Rattle.mp_topk.proofs.ranks.clear_each.Given as goal

abbrev pub invariant-loop-place : goal.invariant-loop-place
invariant-loop-place g l = take l.place-index l.places ≡ replicate l.place-index (replicate g.row.K None)
