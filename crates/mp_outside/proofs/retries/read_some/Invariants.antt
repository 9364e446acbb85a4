use Rattle.std.specs.Io.KnownBytes.{Keeps}
use Rattle.mp_outside.proofs.retries.read_some.Given as goal

-- an interrupted read takes nothing
abbrev pub invariant-loop : goal.invariant-loop
invariant-loop g l = Keeps (g.I.Read.remaining l.initial.input) (g.I.Read.remaining l.input)
