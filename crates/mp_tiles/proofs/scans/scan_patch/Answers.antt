use Rattle.std.proofs.Common.{arith}
use Rattle.mp_defs.specs.Series.{series_of}
use Rattle.mp_cuts.specs.Pairs.{has_pair}
use Rattle.mp_tiles.specs.PatchLaws.{rows_alone, columns_alone}
use Rattle.mp_tiles.proofs.BlockLemmas.{row_first}
use Rattle.mp_tiles.proofs.scans.scan_patch.Goals as goal

pub returns : goal.returns
returns c =
    let m = c.args.m in
    let a = series_of c.args.samples.now in
    let pairs = has_pair 0 c.args.tile.now in
    let order = row_first c.args.tile.now (omega (arith, c.requires.tile.after)) in
    let scanned = rw c.of-plan.ensures.grid at c.scan_tile.ensures.scanned in
    record {
      first_row = scanned.first_row;
      rows = rows_alone pairs m a _ _ _ order scanned.rows;
      first_column = scanned.first_column;
      columns = columns_alone pairs m a _ _ _ order scanned.columns;
    }
