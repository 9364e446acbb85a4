use Rattle.std.proofs.Common.{◌+◌, ◌-◌}
use Rattle.mp_tiles.proofs.PlanLemmas.{part_fit}
use Rattle.mp_tiles.proofs.plans.rows_between.Goals as goal

pub invariant_of-result-2-clause-exact : goal.invariant_of-result-2-clause-exact
invariant_of-result-2-clause-exact c = λ is.
    let grid = c.args.plan.now.grid in
    let exact = c.args.plan.now.exact is in
    record {
      unrounded = exact.unrounded;
      few_bits = record {
        each = part_fit 31 grid.m c.args.top (c.args.bottom + grid.m - 1) grid.rows.now grid.columns.now
            c.args.plan.now.some_samples exact.few_bits.each;
      };
    }
