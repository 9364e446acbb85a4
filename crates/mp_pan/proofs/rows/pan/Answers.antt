use Rattle.std.proofs.Common.{◌+◌, ◌-◌, length, arith}
use Rattle.mp_defs.specs.Series.{series_of}
use Rattle.mp_defs.specs.Window.{windows}
use Rattle.mp_pan.proofs.RowLemmas.{are_found}
use Rattle.mp_pan.proofs.rows.pan.Goals as goal

pub rows_of-requires : goal.rows_of-requires
rows_of-requires g c =
    are_found c.args.lo (c.args.hi - c.args.lo + 1) (windows (length c.args.samples.now) c.args.lo) c.pieces.result
    (series_of c.args.samples.now) c.in_ok-found.found (omega (arith, c.requires.lengths))
    c.in_ok-found.ensures.value c.pieces.ensures
