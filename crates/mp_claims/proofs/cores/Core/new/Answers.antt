use Rattle.mp_claims.proofs.Totals.{start_stands}
use Rattle.mp_claims.proofs.cores.Core.new.Goals as goal

pub returns-clause-stands : goal.returns-clause-stands
returns-clause-stands g c = λ value.
    start_stands g.P.Part.merged (g.P.Part.unit_of c.args.size) value c.args.pieces c.args.workers _
    c.in_ok-new.ensures.state c.in_ok-unit.ensures.value c.in_ok-units.ensures.values
