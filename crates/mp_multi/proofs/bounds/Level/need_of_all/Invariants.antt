use Rattle.mp_multi.specs.Skips.{IsNeedOfAll}
use Rattle.mp_multi.proofs.bounds.Level.need_of_all.Given as goal

abbrev pub invariant-loop-r : goal.invariant-loop-r
invariant-loop-r l = IsNeedOfAll l.self.plan l.self.units l.into.items l.first l.window l.r l.need
