use Rattle.std.proofs.Common.{◌≡◌, true}
use Rattle.mp_defs.specs.Series.{series_of}
use Rattle.mp_plain.proofs.Steps.{nearest_below}
use Rattle.mp_plain.proofs.joins.nearest.Given as goal

abbrev pub invariant-loop-j : goal.invariant-loop-j
invariant-loop-j l = l.best ≡ nearest_below l.m (λ _. true) (series_of l.a) l.i (series_of l.b) l.j
