-- What is seen of a core, and which values it stands for.
use Rattle.std.specs.Prelude.{◌≡◌, ℕ, ◌<◌, List, [], length, slice_get, slice_index_or, slice_set, Some}
use Rattle.mp_claims.specs.declared.events.Event.{Event}
use Rattle.mp_claims.specs.declared.events.Event.TheVariants.{Claim, Finish, Deliver}
use Rattle.mp_claims.specs.declared.states.WorkerState.TheVariants.{Holds}
use Rattle.mp_partial.specs.Values.{Value, merged_over}
use Rattle.mp_claims.specs.Cores.{CoreState, finished_pieces, delivered_pieces}

-- its state, the size of its values, the total's value, the value of each worker's partial, and the room of all of them
pub record Cored : Type 0 where
  pub state : CoreState
  pub size : ℕ
  pub total : Value
  pub partials : List Value
  pub rooms : List ℕ

-- The total is the merge of the values of the delivered pieces. Each worker has a partial, the merge of the values of
-- the pieces that it has finished and not delivered.
pub record StandsFor (merged : Value → Value → Value) (unit : Value) (value : ℕ → Value) (core : Cored) : Type 0 where
  pub total : core.total ≡ merged_over merged unit value (delivered_pieces core.state)
  pub each_worker : length core.partials ≡ length core.state.workers
  pub partials : (w : ℕ) → w < length core.state.workers
      → slice_index_or core.partials w unit ≡ merged_over merged unit value (finished_pieces w core.state)

-- the worker's partial has the piece that the worker held, and no other partial changes
abbrev pub TakesIn : (Value → Value → Value) → (ℕ → Value) → ℕ → Cored → Cored → Type 0
TakesIn merged value w old new = (k : ℕ) → slice_get old.state.workers w ≡ Some (Holds k)
    → new.partials ≡ slice_set old.partials w (merged (slice_index_or old.partials w []) (value k))

-- the worker's partial is merged into the total, and nothing is left in it
pub record IsDelivered (merged : Value → Value → Value) (unit : Value) (w : ℕ) (old new : Cored) : Type 0 where
  pub total_is : new.total ≡ merged old.total (slice_index_or old.partials w [])
  pub partials_are : new.partials ≡ slice_set old.partials w unit

-- what an event that isn't refused makes of the total and of the partials
abbrev pub MovesValues : (Value → Value → Value) → Value → (ℕ → Value) → Event → Cored → Cored → Type 0
MovesValues merged unit value (Claim w) old new = (new.total ≡ old.total) × (new.partials ≡ old.partials)
MovesValues merged unit value (Finish w) old new = (new.total ≡ old.total) × TakesIn merged value w old new
MovesValues merged unit value (Deliver w) old new = IsDelivered merged unit w old new
