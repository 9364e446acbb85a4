use Rattle.std.proofs.Common.{◌∙◌, ap, arith, length, subst, sym}
use Rattle.std.specs.Prelude.{All, List}
use Rattle.std.specs.List.Sorted.{IsPermutation}
use Rattle.std.proofs.lemmas.Bool.{and_parts}
use Rattle.std.proofs.lemmas.List.Sorted.{All-permutation, length_permutation}
use Rattle.mp_nums.specs.declared.samples.Sample.{Sample}
use Rattle.mp_defs.specs.Window.{windows}
use Rattle.mp_scans.specs.declared.plans.Plan.{Plan}
use Rattle.mp_anytime.specs.Bounds.{has_number, has_residue}
use Rattle.mp_anytime.specs.Kept.{IsDiagonal}
use Rattle.mp_anytime.proofs.Scans.{found_same}
use Rattle.mp_anytime.proofs.Windows.{kept_places, nothing_kept}
use Rattle.mp_anytime.proofs.diagonals.found_along.Goals as goal

pub of-requires-clause-near : goal.of-requires-clause-near
of-requires-clause-near g c =
    c.lie_near.ensures (and_parts c.own_plan-plan.result.is_exact c.lie_near.result c.if-plan-lie_near.true).1

pub found_by_residues-requires-clause-diagonals : goal.found_by_residues-requires-clause-diagonals
found_by_residues-requires-clause-diagonals g c = λ _ _.
    let plans = c.narrow-narrow.ensures.plan ∙ c.in_ok-list.ensures.plan in
    let same_m = ap (λ (p : Plan). p.grid.m) plans ∙ c.own_plan-plan.ensures.m in
    let same_items = ap (λ (p : Plan). p.grid.rows.now) plans ∙ c.own_plan-plan.ensures.rows ∙ c.lend.ensures.items in
    subst (λ (xs : List Sample). All (IsDiagonal c.narrow-narrow.result.plan.grid.m
    (windows (length xs) c.narrow-narrow.result.plan.grid.m)) c.as_slice-order.result.now) (sym same_items)
    (subst (λ n. All (IsDiagonal n (windows (length c.args.samples.now.items) n)) c.as_slice-order.result.now)
    (sym same_m)
    (subst (All (IsDiagonal c.args.m (windows (length c.args.samples.now.items) c.args.m)))
    (sym c.as_slice-order.ensures.value)
    (All-permutation (IsDiagonal c.args.m (windows (length c.args.samples.now.items) c.args.m)) c.args.offsets.now
    c.in_ok-order.order.items c.in_ok-order.ensures c.requires.diagonals)))

pub found_by_residues-requires-clause-few : goal.found_by_residues-requires-clause-few
found_by_residues-requires-clause-few g c =
    omega (
      arith,
      ap length c.as_slice-order.ensures.value,
      length_permutation c.args.offsets.now c.in_ok-order.order.items c.in_ok-order.ensures,
      c.requires.few,
    )

pub found_by_residues-requires-clause-beginners : goal.found_by_residues-requires-clause-beginners
found_by_residues-requires-clause-beginners g c =
    omega (arith, c.beginners-count.ensures.few, c.workers_for-workers.ensures.within, c.requires.workers)

pub found_by_residues-requires-clause-none : goal.found_by_residues-requires-clause-none
found_by_residues-requires-clause-none g c = λ _ _ nobody.
    let kept = c.args.kept.now in
    nothing_kept has_residue c.args.m c.args.samples.now.items kept.covered.items kept.profile
    (sym (ap length c.as_slice.ensures) ∙ c.beginners-count.ensures.none nobody) c.requires.is_of.profile
    (sym c.len-windows.ensures.left ∙ c.len-windows.ensures.all)
    (sym c.len-windows.ensures.right ∙ c.len-windows.ensures.all)

pub found_by_residues-requires-clause-places : goal.found_by_residues-requires-clause-places
found_by_residues-requires-clause-places g c = λ _ _.
    let plans = c.narrow-narrow.ensures.plan ∙ c.in_ok-list.ensures.plan in
    let same_m = ap (λ (p : Plan). p.grid.m) plans ∙ c.own_plan-plan.ensures.m in
    let same_items = ap (λ (p : Plan). p.grid.rows.now) plans ∙ c.own_plan-plan.ensures.rows ∙ c.lend.ensures.items in
    sym c.len-windows.ensures.all ∙ c.len-windows.ensures.left
    ∙ kept_places c.args.m c.args.samples.now.items c.args.kept.now.covered.items c.args.kept.now.profile
    c.requires.is_of.profile
    ∙ sym (ap (λ (xs : List Sample). windows (length xs) c.narrow-narrow.result.plan.grid.m) same_items
    ∙ ap (windows (length c.args.samples.now.items)) same_m)

pub returns-then-plan-lie_near-clause-found : goal.returns-then-plan-lie_near-clause-found
returns-then-plan-lie_near-clause-found g c =
    let plans = c.narrow-narrow.ensures.plan ∙ c.in_ok-list.ensures.plan in
    let same_m = ap (λ (p : Plan). p.grid.m) plans ∙ c.own_plan-plan.ensures.m in
    let same_items = ap (λ (p : Plan). p.grid.rows.now) plans ∙ c.own_plan-plan.ensures.rows ∙ c.lend.ensures.items in
    found_same has_residue c.in_ok-found.found c.args.kept.now.profile c.args.offsets.now c.as_slice-order.result.now
    c.args.m _
    c.args.samples.now.items _
    (subst (IsPermutation c.args.offsets.now) (sym c.as_slice-order.ensures.value) c.in_ok-order.ensures) same_m
    same_items c.in_ok-found.ensures

pub found_by_distances-requires-clause-diagonals : goal.found_by_distances-requires-clause-diagonals
found_by_distances-requires-clause-diagonals g c = λ _ _.
    let plans = c.rounded-rounded.ensures.plan ∙ c.in_ok-lists.ensures.plan in
    let same_m = ap (λ (p : Plan). p.grid.m) plans ∙ c.own_plan-plan.ensures.m in
    let same_items = ap (λ (p : Plan). p.grid.rows.now) plans ∙ c.own_plan-plan.ensures.rows ∙ c.lend.ensures.items in
    subst (λ (xs : List Sample). All (IsDiagonal c.rounded-rounded.result.plan.grid.m
    (windows (length xs) c.rounded-rounded.result.plan.grid.m)) c.as_slice-order.result.now) (sym same_items)
    (subst (λ n. All (IsDiagonal n (windows (length c.args.samples.now.items) n)) c.as_slice-order.result.now)
    (sym same_m)
    (subst (All (IsDiagonal c.args.m (windows (length c.args.samples.now.items) c.args.m)))
    (sym c.as_slice-order.ensures.value)
    (All-permutation (IsDiagonal c.args.m (windows (length c.args.samples.now.items) c.args.m)) c.args.offsets.now
    c.in_ok-order.order.items c.in_ok-order.ensures c.requires.diagonals)))

pub found_by_distances-requires-clause-few : goal.found_by_distances-requires-clause-few
found_by_distances-requires-clause-few g c =
    omega (
      arith,
      ap length c.as_slice-order.ensures.value,
      length_permutation c.args.offsets.now c.in_ok-order.order.items c.in_ok-order.ensures,
      c.requires.few,
    )

pub found_by_distances-requires-clause-beginners : goal.found_by_distances-requires-clause-beginners
found_by_distances-requires-clause-beginners g c =
    omega (arith, c.beginners-count.ensures.few, c.workers_for-workers.ensures.within, c.requires.workers)

pub found_by_distances-requires-clause-none : goal.found_by_distances-requires-clause-none
found_by_distances-requires-clause-none g c = λ _ _ nobody.
    let kept = c.args.kept.now in
    nothing_kept has_number c.args.m c.args.samples.now.items kept.covered.items kept.profile
    (sym (ap length c.as_slice.ensures) ∙ c.beginners-count.ensures.none nobody) c.requires.is_of.profile
    (sym c.len-windows.ensures.left ∙ c.len-windows.ensures.all)
    (sym c.len-windows.ensures.right ∙ c.len-windows.ensures.all)

pub found_by_distances-requires-clause-places : goal.found_by_distances-requires-clause-places
found_by_distances-requires-clause-places g c = λ _ _.
    let plans = c.rounded-rounded.ensures.plan ∙ c.in_ok-lists.ensures.plan in
    let same_m = ap (λ (p : Plan). p.grid.m) plans ∙ c.own_plan-plan.ensures.m in
    let same_items = ap (λ (p : Plan). p.grid.rows.now) plans ∙ c.own_plan-plan.ensures.rows ∙ c.lend.ensures.items in
    sym c.len-windows.ensures.all ∙ c.len-windows.ensures.left
    ∙ kept_places c.args.m c.args.samples.now.items c.args.kept.now.covered.items c.args.kept.now.profile
    c.requires.is_of.profile
    ∙ sym (ap (λ (xs : List Sample). windows (length xs) c.rounded-rounded.result.plan.grid.m) same_items
    ∙ ap (windows (length c.args.samples.now.items)) same_m)

pub returns-clause-found : goal.returns-clause-found
returns-clause-found g c =
    let plans = c.rounded-rounded.ensures.plan ∙ c.in_ok-lists.ensures.plan in
    let same_m = ap (λ (p : Plan). p.grid.m) plans ∙ c.own_plan-plan.ensures.m in
    let same_items = ap (λ (p : Plan). p.grid.rows.now) plans ∙ c.own_plan-plan.ensures.rows ∙ c.lend.ensures.items in
    found_same has_number c.in_ok-found-2.found.profile c.args.kept.now.profile c.args.offsets.now
    c.as_slice-order.result.now c.args.m _
    c.args.samples.now.items _
    (subst (IsPermutation c.args.offsets.now) (sym c.as_slice-order.ensures.value) c.in_ok-order.ensures) same_m
    same_items c.in_ok-found-2.ensures
