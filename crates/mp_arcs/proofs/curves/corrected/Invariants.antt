use Rattle.std.proofs.Common.{◌≡◌, ◌*◌, length, map}
use Rattle.std.specs.Prelude.{slice_index}
use Rattle.std.specs.List.{range_with_len}
use Rattle.mp_results.specs.Curve.{parts_of, value_at}
use Rattle.mp_arcs.proofs.curves.corrected.Given as goal

abbrev pub invariant-loop-place : goal.invariant-loop-place
invariant-loop-place l =
    map parts_of l.curve.items
    ≡ map (λ t. value_at (slice_index l.arcs t) (length l.arcs) (l.factor * l.m) t) (range_with_len 0 l.place)
