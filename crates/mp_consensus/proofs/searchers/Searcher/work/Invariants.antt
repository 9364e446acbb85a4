use Rattle.std.proofs.Common.{◌≡◌, ◌-◌, ℕ, List, [], ◌∷◌, ◌++◌}
use Rattle.mp_workers.specs.Desks.{past}
use Rattle.mp_consensus.specs.Searchers.{HasFound, IsAtWork}
use Rattle.mp_consensus.proofs.searchers.Searcher.work.Given as goal

abbrev pub invariant-loop-piece : goal.invariant-loop-piece
invariant-loop-piece g l = record {
  at_work : IsAtWork l.search l.self;
  drawn : (before : List ℕ) × (l.self.pass.drawn ≡ before ++ l.piece ∷ []) × (past l.search.pieces before ≡ 0)
      × HasFound l.search before l.self.best;
}

abbrev pub decreases-loop-piece : goal.decreases-loop-piece
decreases-loop-piece g l = l.search.pieces - l.piece
