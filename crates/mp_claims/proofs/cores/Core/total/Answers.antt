use Rattle.std.proofs.Common.{ap, ◌∙◌}
use Rattle.mp_partial.specs.Values.{merged_over}
use Rattle.mp_claims.specs.Standing.{Cored}
use Rattle.mp_claims.proofs.Totals.{complete_is_all}
use Rattle.mp_claims.proofs.cores.Core.total.Goals as goal

pub returns-clause-complete : goal.returns-clause-complete
returns-clause-complete g c = λ value stands complete.
    ap (λ (core : Cored). core.total) c.self.view_is ∙ stands.total
    ∙ ap (merged_over g.P.Part.merged (g.P.Part.unit_of c.args.self.now.size) value)
    (complete_is_all c.args.self.now.state complete)
