use Rattle.mp_defs.specs.Series.{series_of}
use Rattle.mp_defs.specs.Window.{is_allowed}
use Rattle.mp_plain.proofs.Rows.{IsRowBelow}
use Rattle.mp_plain.proofs.profiles.Row.of.Given as goal

abbrev pub invariant-loop-j : goal.invariant-loop-j
invariant-loop-j l = IsRowBelow (is_allowed l.m) l.m (series_of l.samples) l.i l.j l.row
