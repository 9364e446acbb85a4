use Rattle.std.proofs.Common.{subst, sym, List}
use Rattle.std.specs.Prelude.{Option}
use Rattle.mp_nums.specs.declared.nearest.Near.{Near}
use Rattle.mp_results.specs.Columns.{AreColumns}
use Rattle.call_tests.proofs.finds.windows_without_neighbours_are_chains_of_one.Goals as goal

pub all_chains-requires : goal.all_chains-requires
all_chains-requires g c =
    let items = c.in_ok-none.none.items in
    subst (λ (left : List (Option Near)). AreColumns left c.as_slice-2.result.now) (sym c.as_slice.ensures.value)
    (subst (λ (right : List (Option Near)). AreColumns items right) (sym c.as_slice-2.ensures.value)
    c.in_ok-none.ensures.columns)
