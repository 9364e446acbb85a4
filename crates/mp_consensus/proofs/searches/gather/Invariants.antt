use Rattle.std.proofs.Common.{◌≡◌, ◌+◌, ◌<◌, ◌⊎◌, All, length}
use Rattle.mp_workers.specs.Teams.{HasPast}
use Rattle.mp_consensus.specs.Searchers.{HasFound, IsDone}
use Rattle.mp_consensus.proofs.searches.gather.Given as goal

abbrev pub invariant-loop-searcher : goal.invariant-loop-searcher
invariant-loop-searcher l = record {
  of_desk : l.pass.desk ≡ l.search.desk;
  weights : l.pass.weight + length l.team.items ≡ l.fn.pass.weight + length l.fn.team.items;
  done : All (IsDone l.search) l.team.items;
  found : HasFound l.search l.pass.drawn l.best;
  past : (0 < length l.team.items) ⊎ HasPast l.search.pieces l.pass.drawn;
}

abbrev pub decreases-loop-searcher : goal.decreases-loop-searcher
decreases-loop-searcher l = length l.team.items
