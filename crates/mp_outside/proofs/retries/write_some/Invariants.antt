use Rattle.std.specs.Io.KnownBytes.{Keeps}
use Rattle.mp_outside.proofs.retries.write_some.Given as goal

-- an interrupted write writes nothing
abbrev pub invariant-loop : goal.invariant-loop
invariant-loop g l = Keeps (g.O.Write.contents l.initial.output) (g.O.Write.contents l.output)
