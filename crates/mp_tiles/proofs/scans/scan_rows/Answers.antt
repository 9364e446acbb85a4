use Rattle.std.proofs.Common.{◌+◌, ◌-◌, length, refl, sym, arith}
use Rattle.mp_tiles.specs.Plans.{column_series}
use Rattle.mp_tiles.proofs.RowLemmas.{rows_taken}
use Rattle.mp_tiles.proofs.scans.scan_rows.Goals as goal

pub returns : goal.returns
returns c =
    let plan = c.args.plan.now in
    let tile = c.args.tile.now in
    let rows = c.rows_between-rows.ensures in
    record {
      taken = rows_taken tile plan.grid.m (length c.args.slots.now) tile.first_row
          (tile.last_row + 1 - tile.first_row) (tile.last_row + 1 + plan.grid.m - 1) plan.grid.rows.now
          (column_series plan) c.args.slots.now c.scan_diagonals.new.slots plan.some_samples refl
          (omega (arith, c.requires.tile.some_rows)) (omega (arith, c.requires.tile.some_rows))
          (omega (arith, c.requires.tile.some_rows)) (sym c.requires.places)
          (omega (arith, c.requires.tile.some_rows, c.requires.tile.last_row, c.requires.places)) refl
          (omega (arith, c.scan_diagonals.ensures.places))
          (rw (rows.m, rows.rows, rows.columns) at c.scan_diagonals.ensures.taken);
    }
