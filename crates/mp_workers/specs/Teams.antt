-- Teams of workers, each with a pass and a part of its own.
use Rattle.std.specs.Prelude.{◌≡◌, ℕ, ◌≤◌, List, [], ◌∷◌, All, flat_map, slice_get, Some}
use Rattle.mp_partial.specs.Values.{Value, merged_over}
use Rattle.mp_workers.specs.Desks.{DeskId, PassState, pieces_among, times}

-- a worker: its pass, the size of what it has found, and the value of that
pub record WorkerState : Type 0 where
  pub pass : PassState
  pub size : ℕ
  pub found : Value

-- the worker has a pass of weight 1 to the desk, and a part of this size
pub record IsOfTeam (desk : DeskId) (size : ℕ) (worker : WorkerState) : Type 0 where
  pub of_desk : worker.pass.desk ≡ desk
  pub weight : worker.pass.weight ≡ 1
  pub size_is : worker.size ≡ size

-- it has drawn nothing yet, and begins with what was found before
pub record IsReady (desk : DeskId) (size : ℕ) (start : Value) (worker : WorkerState) : Type 0 where
  pub of_team : IsOfTeam desk size worker
  pub drawn : worker.pass.drawn ≡ []
  pub found : worker.found ≡ start

-- what the first worker has found
abbrev pub found_first : List WorkerState → Value
found_first [] = []
found_first (worker ∷ rest) = worker.found

-- all workers begin with the same value of their size
pub record AreReady (IsValue : ℕ → Value → Type 0) (desk : DeskId) (size : ℕ)
    (workers : List WorkerState) : Type 0 where
  pub is_value : IsValue size (found_first workers)
  pub each : All (IsReady desk size (found_first workers)) workers

-- a number that is no piece stands in the list
abbrev pub HasPast : ℕ → List ℕ → Type 0
HasPast pieces numbers = (last : ℕ) × (pieces ≤ last) × (1 ≤ times last numbers)

-- it has drawn numbers until one was no piece
pub record IsDone (desk : DeskId) (size : ℕ) (worker : WorkerState) : Type 0 where
  pub of_team : IsOfTeam desk size worker
  pub past_pieces : HasPast desk.pieces worker.pass.drawn

-- the pieces that the workers drew
abbrev pub pieces_of : ℕ → List WorkerState → List ℕ
pieces_of pieces workers = flat_map (λ worker. pieces_among pieces worker.pass.drawn) workers

-- what was found before with what some pieces have together
abbrev pub with_pieces : (Value → Value → Value) → Value → (ℕ → Value) → Value → List ℕ → Value
with_pieces merged unit value start numbers = merged start (merged_over merged unit value numbers)

-- all workers are done, and the first one has what all of them found
abbrev pub HaveRun : DeskId → ℕ → (List ℕ → Value) → List WorkerState → Type 0
HaveRun desk size together workers =
    All (IsDone desk size) workers × (first : WorkerState) × (slice_get workers 0 ≡ Some first)
    × (first.found ≡ together (pieces_of desk.pieces workers))

-- the first worker of some has what the first ones of both found
abbrev pub with_first_of : (Value → Value → Value) → WorkerState → WorkerState → WorkerState
with_first_of merged first other = record first { found = merged first.found other.found }
