use Rattle.std.proofs.Common.{◌≡◌, ◌++◌, ◌-◌, ◌≤◌, length, replicate}
use Rattle.std.specs.Prelude.{None, vec_capacity}
use Rattle.mp_topk.proofs.compact_ranks.fill_places.Given as goal

abbrev pub invariant-loop : goal.invariant-loop
invariant-loop g l =
    record {
      items : l.places.items ≡ l.initial.places.items ++ replicate (l.counter - length l.initial.places.items)
          (replicate g.row.K None);
      from : length l.initial.places.items ≤ l.counter;
      room : l.fn.size ≤ vec_capacity l.places;
      same : vec_capacity l.places ≡ vec_capacity l.initial.places;
    }
