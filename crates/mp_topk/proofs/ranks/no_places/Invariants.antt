use Rattle.std.proofs.Common.{◌≡◌, ◌≤◌, replicate}
use Rattle.std.specs.Prelude.{None, vec_capacity}
use Rattle.mp_topk.proofs.ranks.no_places.Given as goal

abbrev pub invariant-loop : goal.invariant-loop
invariant-loop g l =
    record {
      items : l.places.items ≡ replicate l.counter (replicate g.row.K None);
      room : l.fn.size ≤ vec_capacity l.places;
    }
