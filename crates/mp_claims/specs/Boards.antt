-- What always holds of a board.
use Rattle.std.specs.Prelude.{ℕ, ◌+◌, ◌≤◌, List, length, Bool, true, false, count_by}
use Rattle.mp_partial.specs.declared.limits.TheConstants.{MAX_PIECES, MAX_WORKERS}
use Rattle.mp_claims.specs.declared.states.WorkerState.{WorkerState}
use Rattle.mp_claims.specs.declared.states.WorkerState.TheVariants.{Free, Holds, Spent}
use Rattle.mp_claims.specs.declared.states.PieceState.{PieceState}
use Rattle.mp_claims.specs.Cores.{CoreState, EachOnce}

abbrev pub is_spent : WorkerState → Bool
is_spent Free = false
is_spent (Holds k) = false
is_spent Spent = true

-- each piece is in one place, and no number past the last piece was given to any but the spent workers
pub record IsSound (state : CoreState) : Type 0 where
  pub once : EachOnce state
  pub next : state.next ≤ length state.pieces + count_by is_spent state.workers

-- and there are not too many pieces and workers
pub record IsBoard (next : ℕ) (workers : List WorkerState) (pieces : List PieceState) : Type 0 where
  pub sound : IsSound (record { next = next; workers = workers; pieces = pieces })
  pub few_pieces : length pieces ≤ MAX_PIECES
  pub few_workers : length workers ≤ MAX_WORKERS
