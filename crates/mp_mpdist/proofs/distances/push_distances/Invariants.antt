use Rattle.std.proofs.Common.{◌≡◌, ◌++◌, take}
use Rattle.std.specs.List.{filter_map}
use Rattle.mp_results.specs.Mpdist.{distance_in}
use Rattle.mp_mpdist.proofs.distances.push_distances.Given as goal

abbrev pub invariant-loop-slot : goal.invariant-loop-slot
invariant-loop-slot l =
    l.distances.items ≡ l.initial.distances.items ++ filter_map distance_in (take l.slot-index l.join)
