use Rattle.std.proofs.Common.{◌≡◌, length}
use Rattle.mp_bytes.specs.Fields.{fields_in}
use Rattle.mp_bytes.proofs.fields.without_blanks.Given as goal

abbrev pub invariant-loop-rest : goal.invariant-loop-rest
invariant-loop-rest l = fields_in l.rest ≡ fields_in l.text

abbrev pub decreases-loop-rest : goal.decreases-loop-rest
decreases-loop-rest l = length l.rest
