-- Workers that share what they find.
use Rattle.std.specs.Prelude.{◌≡◌, ℕ, List, [], All, slice_get, Some}
use Rattle.mp_partial.specs.Values.{Value}
use Rattle.mp_workers.specs.Desks.{DeskId}
use Rattle.mp_workers.specs.Teams.{IsDone, IsOfTeam, WorkerState, pieces_of}

-- nothing stands in a value that isn't in the whole, and it has the values of some pieces
pub record HasPieces (merged : Value → Value → Value) (value : ℕ → Value) (whole found : Value)
    (numbers : List ℕ) : Type 0 where
  pub within : merged found whole ≡ whole
  pub pieces : All (λ k. merged found (value k) ≡ found) numbers

-- the worker has drawn nothing yet, and nothing that it has found isn't in the whole
pub record IsReadyToShare (IsValue : ℕ → Value → Type 0) (merged : Value → Value → Value) (whole : Value)
    (desk : DeskId) (size : ℕ) (worker : WorkerState) : Type 0 where
  pub of_team : IsOfTeam desk size worker
  pub drawn : worker.pass.drawn ≡ []
  pub is_value : IsValue size worker.found
  pub within : merged worker.found whole ≡ whole

-- all of some workers are, and the whole is a value of their size
pub record AreReadyToShare (IsValue : ℕ → Value → Type 0) (merged : Value → Value → Value) (whole : Value)
    (desk : DeskId) (size : ℕ) (workers : List WorkerState) : Type 0 where
  pub whole_is_value : IsValue size whole
  pub each : All (IsReadyToShare IsValue merged whole desk size) workers

-- all workers are done, and the first one has what all of them drew
pub record HaveShared (IsValue : ℕ → Value → Type 0) (merged : Value → Value → Value) (value : ℕ → Value)
    (whole : Value) (desk : DeskId) (size : ℕ) (workers : List WorkerState) : Type 0 where
  pub done : All (IsDone desk size) workers
  pub first : WorkerState
  pub is_first : slice_get workers 0 ≡ Some first
  pub is_value : IsValue size first.found
  pub found : HasPieces merged value whole first.found (pieces_of desk.pieces workers)
