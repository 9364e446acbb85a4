use Rattle.std.proofs.Common.{◌≡◌, ◌≤◌, length, take}
use Rattle.std.specs.Prelude.{vec_capacity}
use Rattle.mp_topk.proofs.compact_ranks.push_each.Given as goal

abbrev pub invariant-loop-place : goal.invariant-loop-place
invariant-loop-place g l =
    record {
      items : l.places.items ≡ take l.place-index l.others;
      room : length l.others ≤ vec_capacity l.places;
      same : vec_capacity l.places ≡ vec_capacity l.initial.places;
    }
