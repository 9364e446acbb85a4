-- What holds of every event and of whole runs.
use Rattle.std.specs.Prelude.{◌≡◌, ◌↔◌, ℕ, ◌<◌, ◌≤◌, List, [], ◌∷◌, ◌++◌, length, map, All, Contains, ◌⊎◌}
use Rattle.std.specs.Prelude.{Some, None, slice_get}
use Rattle.mp_partial.specs.Values.{Value, merged_below, merged_over}
use Rattle.mp_claims.specs.declared.events.Event.{Event}
use Rattle.mp_claims.specs.declared.events.Event.TheVariants.{Claim, Finish, Deliver}
use Rattle.mp_claims.specs.declared.events.CoreRefusal.TheVariants.{Stranger, Holding, Idle, Spent as SpentWorker}
use Rattle.mp_claims.specs.declared.states.WorkerState.TheVariants.{Free, Holds, Spent}
use Rattle.mp_claims.specs.Cores.{CoreState, IsComplete, start, refusal, after, delivered_pieces}

-- ---- one event

abbrev pub worker_of : Event → ℕ
worker_of (Claim w) = w
worker_of (Finish w) = w
worker_of (Deliver w) = w

-- the worker is there and holds a piece
abbrev pub IsHolding : CoreState → ℕ → Type 0
IsHolding state w = (k : ℕ) × (slice_get state.workers w ≡ Some (Holds k))

-- the worker is there and holds none
abbrev pub IsIdle : CoreState → ℕ → Type 0
IsIdle state w = (slice_get state.workers w ≡ Some Free) ⊎ (slice_get state.workers w ≡ Some Spent)

-- A stranger has no number below that of the workers. A worker that holds a piece claims and delivers nothing, one that
-- holds none finishes none, and a spent one claims nothing.
pub record RefusesBy (state : CoreState) : Type 0 where
  pub stranger : (event : Event)
      → (refusal state event ≡ Some Stranger) ↔ (length state.workers ≤ worker_of event)
  pub holding_claim : (w : ℕ) → (refusal state (Claim w) ≡ Some Holding) ↔ IsHolding state w
  pub holding_deliver : (w : ℕ) → (refusal state (Deliver w) ≡ Some Holding) ↔ IsHolding state w
  pub idle : (w : ℕ) → (refusal state (Finish w) ≡ Some Idle) ↔ IsIdle state w
  pub spent : (w : ℕ) → (refusal state (Claim w) ≡ Some SpentWorker) ↔ (slice_get state.workers w ≡ Some Spent)

-- ---- whole runs

abbrev pub run : List Event → CoreState → CoreState
run [] state = state
run (event ∷ events) state = run events (after state event)

-- none of the events is refused
abbrev pub AreAccepted : List Event → CoreState → Type 0
AreAccepted [] state = Unit {0}
AreAccepted (event ∷ events) state = (refusal state event ≡ None) × AreAccepted events (after state event)

-- one worker after another takes a piece: it claims one and finishes it
abbrev pub shares : List ℕ → List Event
shares [] = []
shares (w ∷ ws) = Claim w ∷ Finish w ∷ shares ws

abbrev pub deliveries : List ℕ → List Event
deliveries workers = map Deliver workers

-- the list has workers alone, and each of them
pub record HasEachWorker (count : ℕ) (workers : List ℕ) : Type 0 where
  pub no_other : All (λ w. w < count) workers
  pub each : (w : ℕ) → w < count → Contains workers w

-- the events are accepted, then every piece is delivered, and the total is the merge of all values
pub record MakesTheWhole (pieces workers : ℕ) (events : List Event) : Type 0 where
  pub accepted : AreAccepted events (start pieces workers)
  pub complete : IsComplete (run events (start pieces workers))
  pub total : (merged : Value → Value → Value) (unit : Value) (value : ℕ → Value)
      → merged_over merged unit value (delivered_pieces (run events (start pieces workers)))
      ≡ merged_below merged unit value pieces

-- whichever worker takes which piece, and in whichever order all of them deliver
abbrev pub AnySharesMakeTheWhole : Type 0
AnySharesMakeTheWhole = (workers : ℕ) (takers deliverers : List ℕ)
    → All (λ w. w < workers) takers → HasEachWorker workers deliverers
    → MakesTheWhole (length takers) workers (shares takers ++ deliveries deliverers)
