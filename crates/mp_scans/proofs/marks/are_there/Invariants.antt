use Rattle.std.proofs.Common.{◌≡◌, true}
use Rattle.mp_defs.specs.Series.{series_of}
use Rattle.mp_scans.specs.Free.{IsClear}
use Rattle.mp_scans.proofs.marks.are_there.Given as goal

abbrev pub invariant-loop-place : goal.invariant-loop-place
invariant-loop-place l = l.there ≡ true → IsClear (series_of l.samples) l.from l.from l.place
