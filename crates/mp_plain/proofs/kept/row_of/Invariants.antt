use Rattle.mp_defs.specs.Series.{series_of}
use Rattle.mp_defs.specs.Band.{is_allowed_in}
use Rattle.mp_plain.proofs.Rows.{IsRowBelow}
use Rattle.mp_plain.proofs.kept.row_of.Given as goal

abbrev pub invariant-loop-j : goal.invariant-loop-j
invariant-loop-j l = IsRowBelow (is_allowed_in l.keep l.m) l.m (series_of l.samples) l.i l.j l.row
