use Rattle.std.proofs.Common.{◌≡◌, map, replicate}
use Rattle.mp_partial.proofs.parts.units.Given as goal

abbrev pub invariant-loop : goal.invariant-loop
invariant-loop g l =
    (map g.P.Part.value l.parts.items ≡ replicate l.counter (g.P.Part.unit_of l.size))
    × (map g.P.Part.size_of l.parts.items ≡ replicate l.counter l.size)
