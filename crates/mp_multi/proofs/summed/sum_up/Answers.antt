use Rattle.std.proofs.Common.{◌<◌, List, [], length, get_or, ap, ◌∙◌, sym, subst, arith}
use Rattle.mp_scans.specs.declared.plans.Plan.{Plan}
use Rattle.mp_skips.specs.declared.summed.Summed.{Summed}
use Rattle.mp_multi.specs.Skips.{IsSummedOf}
use Rattle.mp_multi.proofs.SummedLemmas.{pushed, more_length}
use Rattle.mp_multi.proofs.summed.sum_up.Goals as goal

pub loop-c-preserved : goal.loop-c-preserved
loop-c-preserved c =
    let ch = c.args.plan.now.channels in
    let units = c.args.units.now in
    let before = c.loop-c.invariant in
    let items = c.in_ok-push.ensures.items in
    let plan_is = c.in_ok-in_units.ensures.plan in
    let here : IsSummedOf (get_or ch.list.now c.loop-c.c []) ch.m units c.in_ok-in_units.field-0 = record {
      rows = ap (λ (p : Plan). p.grid.rows.now) plan_is ∙ c.plan.ensures.rows;
      columns = ap (λ (p : Plan). p.grid.columns.now) plan_is ∙ c.plan.ensures.columns;
      length_is = ap (λ (p : Plan). p.grid.m) plan_is ∙ c.plan.ensures.m;
      units_are = c.in_ok-in_units.ensures.units;
    } in
    record {
      count = ap length items ∙ more_length c.loop-c.sums.items c.in_ok-in_units.field-0 ∙ omega (arith, before.count);
      each = λ q past lt. subst (λ (xs : List Summed). IsSummedOf (get_or ch.list.now q []) ch.m units
          (get_or xs q past))
          (sym items)
          (pushed (λ k s. IsSummedOf (get_or ch.list.now k []) ch.m units s) c.loop-c.sums.items
          c.in_ok-in_units.field-0
          before.each
          (subst (λ k. IsSummedOf (get_or ch.list.now k []) ch.m units c.in_ok-in_units.field-0) (sym before.count)
          here) q
          past (subst (λ (xs : List Summed). q < length xs) items lt));
    }
