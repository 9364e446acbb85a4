use Rattle.std.proofs.Common.{◌-◌, ◌*◌, length, arith}
use Rattle.mp_tiles.specs.Plans.{row_series, column_series}
use Rattle.mp_tiles.specs.Parts.{has_before}
use Rattle.mp_tiles.specs.TakenLaws.{taken_same, taken_none}
use Rattle.mp_tiles.proofs.JoinedLemmas.{before_pairs, no_before}
use Rattle.mp_tiles.proofs.joined.scan_before.Goals as goal

pub returns-then-tile-row-clause-taken : goal.returns-then-tile-row-clause-taken
returns-then-tile-row-clause-taken c =
    let plan = c.args.plan.now in
    let tile = c.args.tile.now in
    let origin = length c.args.slots.now - 1 in
    taken_same _ (has_before (8 * c.args.group) origin tile) plan.grid.m (row_series plan) (column_series plan)
    c.args.slots.now c.scan_rows.new.slots c.scan_rows.ensures.taken
    (λ i j _ _. before_pairs tile (8 * c.args.group) c.min.result origin i j
    (omega (arith, c.min.ensures, c.if-tile-row.true))
    (λ lt le. omega (arith, c.min.ensures, lt, le)) (omega (arith, c.min.ensures)))

pub returns-else-tile-row-clause-taken : goal.returns-else-tile-row-clause-taken
returns-else-tile-row-clause-taken c =
    let plan = c.args.plan.now in
    let tile = c.args.tile.now in
    let origin = length c.args.slots.now - 1 in
    taken_none (has_before (8 * c.args.group) origin tile) plan.grid.m (row_series plan) (column_series plan)
    c.args.slots.now c.requires.places
    (λ i j _ _. no_before tile (8 * c.args.group) origin i j (omega (arith, c.if-tile-row.false)))
