use Rattle.mp_tiles.proofs.PlanLemmas.{transposed_fit}
use Rattle.mp_tiles.proofs.plans.transposed.Goals as goal

pub invariant_of-result-2-clause-exact : goal.invariant_of-result-2-clause-exact
invariant_of-result-2-clause-exact c = λ is.
    let grid = c.args.plan.now.grid in
    let exact = c.args.plan.now.exact is in
    record {
      unrounded = exact.unrounded;
      few_bits = record { each = transposed_fit 31 grid.m grid.rows.now grid.columns.now exact.few_bits.each };
    }
