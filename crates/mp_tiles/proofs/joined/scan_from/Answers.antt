use Rattle.std.proofs.Common.{◌-◌, ◌*◌, length, arith}
use Rattle.mp_tiles.specs.Plans.{row_series, column_series}
use Rattle.mp_tiles.specs.Parts.{has_from}
use Rattle.mp_tiles.specs.TakenLaws.{taken_same, taken_none}
use Rattle.mp_tiles.proofs.JoinedLemmas.{from_pairs, no_from}
use Rattle.mp_tiles.proofs.joined.scan_from.Goals as goal

pub returns-then-row-tile-clause-taken : goal.returns-then-row-tile-clause-taken
returns-then-row-tile-clause-taken c =
    let plan = c.args.coarse.now.plan in
    let tile = c.args.tile.now in
    let origin = length c.args.slots.now - 1 in
    taken_same _ (has_from (8 * c.args.group) origin tile) plan.grid.m (row_series plan) (column_series plan)
    c.args.slots.now c.scan_below.new.slots c.scan_below.ensures.taken
    (λ i j _ _. from_pairs tile (8 * c.args.group) origin i j c.requires.rows)

pub returns-else-row-tile-clause-taken : goal.returns-else-row-tile-clause-taken
returns-else-row-tile-clause-taken c =
    let plan = c.args.coarse.now.plan in
    let tile = c.args.tile.now in
    let origin = length c.args.slots.now - 1 in
    taken_none (has_from (8 * c.args.group) origin tile) plan.grid.m (row_series plan) (column_series plan)
    c.args.slots.now c.requires.places
    (λ i j _ _. no_from tile (8 * c.args.group) origin i j (omega (arith, c.if-row-tile.false)))
