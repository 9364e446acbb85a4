use Rattle.std.proofs.Common.{◌∙◌, ap, sym, set-set, set, Some}
use Rattle.std.specs.Prelude.{None}
use Rattle.mp_arcs.proofs.ends.change.Goals as goal

pub returns-in-Some-clause-indices : goal.returns-in-Some-clause-indices
returns-in-Some-clause-indices c =
    c.draw.ensures.indices ∙ ap (λ xs. set xs c.args.i (Some c.in-Some.j)) c.erase.ensures.indices
    ∙ set-set c.args.indices.now c.args.i None (Some c.in-Some.j)
    ∙ ap (set c.args.indices.now c.args.i) (sym c.in-Some.is)
