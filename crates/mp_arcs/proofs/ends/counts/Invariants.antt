use Rattle.std.proofs.Common.{ℕ, List, Option}
use Rattle.mp_arcs.specs.Board.{AreEnds}
use Rattle.mp_arcs.proofs.CountLoop.{AreCounted}
use Rattle.mp_arcs.proofs.ends.counts.Given as goal

abbrev pub invariant-loop-place : goal.invariant-loop-place
invariant-loop-place l =
    (indices : List (Option ℕ)) → AreEnds indices l.begun l.ended → AreCounted indices l.counts.items l.passing l.place
