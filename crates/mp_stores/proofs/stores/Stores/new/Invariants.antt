use Rattle.std.proofs.Common.{◌≡◌, ◌-◌, ◌++◌, map, replicate}
use Rattle.mp_stores.specs.Seen.{held_of}
use Rattle.mp_stores.specs.Stores.{Closed}
use Rattle.mp_stores.proofs.stores.Stores.new.Given as goal

abbrev pub invariant-loop : goal.invariant-loop
invariant-loop g l =
    map held_of l.stored.items ≡ map held_of l.initial.stored.items ++ replicate (l.counter - 1) Closed
