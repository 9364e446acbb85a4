use Rattle.std.proofs.Common.{◌≡◌, ◌≤◌, drop, length}
use Rattle.mp_report.proofs.BestLemmas.{best_from}
use Rattle.mp_report.proofs.summaries.best.Given as goal

abbrev pub invariant-loop-start : goal.invariant-loop-start
invariant-loop-start l = (l.best ≡ best_from l.start (drop l.start l.windows)) × (l.start ≤ length l.windows)

abbrev pub decreases-loop-start : goal.decreases-loop-start
decreases-loop-start l = l.start
