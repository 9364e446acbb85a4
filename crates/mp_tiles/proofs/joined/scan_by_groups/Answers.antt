use Rattle.std.proofs.Common.{ℕ, ◌-◌, ◌*◌, length, subst}
use Rattle.std.specs.Prelude.{◌||◌}
use Rattle.mp_cuts.specs.Pairs.{has_pair}
use Rattle.mp_tiles.specs.Plans.{row_series, column_series}
use Rattle.mp_tiles.specs.Parts.{has_before, has_from}
use Rattle.mp_tiles.specs.TakenLaws.{HasTakenIn, taken_same, taken_then}
use Rattle.mp_tiles.proofs.JoinedLemmas.{both_parts}
use Rattle.mp_tiles.proofs.joined.scan_by_groups.Goals as goal

pub returns-clause-taken : goal.returns-clause-taken
returns-clause-taken c =
    let plan = c.args.coarse.now.plan in
    let a = row_series plan in
    let b = column_series plan in
    let tile = c.args.tile.now in
    let row = 8 * c.first_group-group.result in
    let old = c.args.slots.now in
    let mid = c.scan_before.new.slots in
    let new = c.scan_from.new.slots in
    let origin = length old - 1 in
    taken_same (λ i j. has_before row origin tile i j || has_from row origin tile i j) (has_pair origin tile)
    plan.grid.m a b old new
    (taken_then (has_before row origin tile) (has_from row origin tile) plan.grid.m a b old mid new
    c.scan_before.ensures.taken
    (subst (λ (n : ℕ). HasTakenIn (has_from row (n - 1) tile) plan.grid mid new) c.scan_before.ensures.places
    c.scan_from.ensures.taken))
    (λ i j _ _. both_parts tile row origin i j)
