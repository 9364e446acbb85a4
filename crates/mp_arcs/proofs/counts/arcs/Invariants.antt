use Rattle.mp_arcs.proofs.ArcLoops.{AreGrown, AreChanged}
use Rattle.mp_arcs.proofs.counts.arcs.Given as goal

abbrev pub invariant-loop : goal.invariant-loop
invariant-loop l = AreGrown l.board.items l.board.spare l.counter l.end

abbrev pub invariant-loop-place : goal.invariant-loop-place
invariant-loop-place l = AreChanged l.index l.board.items l.place
