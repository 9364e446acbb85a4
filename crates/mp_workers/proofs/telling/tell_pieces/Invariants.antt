use Rattle.std.proofs.Common.{◌-◌, ◌≡◌, ℕ, ◌<◌, List, [], ◌∷◌, ◌++◌, All}
use Rattle.mp_workers.proofs.telling.tell_pieces.Given as goal

abbrev pub invariant-loop-piece : goal.invariant-loop-piece
invariant-loop-piece g l = record {
  desk : l.pass.desk ≡ l.desk;
  weight : l.pass.weight ≡ 1;
  hold : g.T.Telling.is_hold l.work 1 l.hold;
  drawn : (numbers : List ℕ) × (l.pass.drawn ≡ l.fn.pass.drawn ++ numbers ++ l.piece ∷ [])
      × All (λ number. number < l.desk.pieces) numbers
      × All (g.T.Telling.is_told l.work l.hold) numbers;
}

abbrev pub decreases-loop-piece : goal.decreases-loop-piece
decreases-loop-piece g l = l.desk-inside.pieces - l.piece
