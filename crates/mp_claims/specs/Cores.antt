-- The state of a core, and what events make of it.
use Rattle.std.specs.Prelude.{◌≡◌, ◌↔◌, ℕ, ◌+◌, ◌<◌, ◌≤◌, ◌==◌, nat_lt, Bool, true, false, List, length, All, map}
use Rattle.std.specs.Prelude.{filter, replicate, is_none}
use Rattle.std.specs.Prelude.{slice_get, slice_index_or, slice_set, if◌then◌else◌, Option, Some, None}
use Rattle.std.specs.List.{range_with_len}
use Rattle.mp_claims.specs.declared.events.Event.{Event}
use Rattle.mp_claims.specs.declared.events.Event.TheVariants.{Claim, Finish, Deliver}
use Rattle.mp_claims.specs.declared.events.CoreRefusal.{CoreRefusal}
use Rattle.mp_claims.specs.declared.events.CoreRefusal.TheVariants.{Stranger, Holding, Idle, Spent as SpentWorker}
use Rattle.mp_claims.specs.declared.states.WorkerState.{WorkerState}
use Rattle.mp_claims.specs.declared.states.WorkerState.TheVariants.{Free, Holds, Spent}
use Rattle.mp_claims.specs.declared.states.PieceState.{PieceState}
use Rattle.mp_claims.specs.declared.states.PieceState.TheVariants.{Unclaimed, Held, Finished, Delivered}

-- the next number, what each worker is doing, and where each piece is
pub record CoreState : Type 0 where
  pub next : ℕ
  pub workers : List WorkerState
  pub pieces : List PieceState

-- nothing is claimed, and every worker is free
abbrev pub start : ℕ → ℕ → CoreState
start pieces workers =
    record { next = 0; workers = replicate workers Free; pieces = replicate pieces Unclaimed }

-- ---- why an event is refused

-- a worker that isn't there, holds a piece or is spent takes no number
abbrev pub claim_refusal : Option WorkerState → Option CoreRefusal
claim_refusal None = Some Stranger
claim_refusal (Some Free) = None
claim_refusal (Some (Holds k)) = Some Holding
claim_refusal (Some Spent) = Some SpentWorker

-- a worker that isn't there or holds no piece finishes none
abbrev pub finish_refusal : Option WorkerState → Option CoreRefusal
finish_refusal None = Some Stranger
finish_refusal (Some Free) = Some Idle
finish_refusal (Some (Holds k)) = None
finish_refusal (Some Spent) = Some Idle

-- a worker that isn't there or holds a piece delivers nothing
abbrev pub deliver_refusal : Option WorkerState → Option CoreRefusal
deliver_refusal None = Some Stranger
deliver_refusal (Some Free) = None
deliver_refusal (Some (Holds k)) = Some Holding
deliver_refusal (Some Spent) = None

abbrev pub refusal : CoreState → Event → Option CoreRefusal
refusal state (Claim w) = claim_refusal (slice_get state.workers w)
refusal state (Finish w) = finish_refusal (slice_get state.workers w)
refusal state (Deliver w) = deliver_refusal (slice_get state.workers w)

-- ---- what an event makes of a state

-- the worker has the next number, and holds that piece, or is spent where there is none
abbrev pub claimed_by : ℕ → CoreState → CoreState
claimed_by w state =
    if nat_lt state.next (length state.pieces) then record {
      next = state.next + 1;
      workers = slice_set state.workers w (Holds state.next);
      pieces = slice_set state.pieces state.next (Held w);
    }
    else record state { next = state.next + 1; workers = slice_set state.workers w Spent }

-- the piece that a worker holds
abbrev pub held_by : Option WorkerState → Option ℕ
held_by None = None
held_by (Some Free) = None
held_by (Some (Holds k)) = Some k
held_by (Some Spent) = None

abbrev pub finished_by : ℕ → Option ℕ → CoreState → CoreState
finished_by w None state = state
finished_by w (Some k) state =
    record state { workers = slice_set state.workers w Free; pieces = slice_set state.pieces k (Finished w) }

abbrev pub handed_over : ℕ → PieceState → PieceState
handed_over w Unclaimed = Unclaimed
handed_over w (Held v) = Held v
handed_over w (Finished v) = if v == w then Delivered else Finished v
handed_over w Delivered = Delivered

abbrev pub delivered_by : ℕ → CoreState → CoreState
delivered_by w state = record state { pieces = map (handed_over w) state.pieces }

-- the state after an event that isn't refused
abbrev pub accepted : CoreState → Event → CoreState
accepted state (Claim w) = claimed_by w state
accepted state (Finish w) = finished_by w (held_by (slice_get state.workers w)) state
accepted state (Deliver w) = delivered_by w state

-- the state after an event. One that is refused changes nothing
abbrev pub after : CoreState → Event → CoreState
after state event = if is_none (refusal state event) then accepted state event else state

-- ---- the pieces of a state

abbrev pub is_finished_by : ℕ → PieceState → Bool
is_finished_by w Unclaimed = false
is_finished_by w (Held v) = false
is_finished_by w (Finished v) = v == w
is_finished_by w Delivered = false

abbrev pub is_delivered : PieceState → Bool
is_delivered Unclaimed = false
is_delivered (Held v) = false
is_delivered (Finished v) = false
is_delivered Delivered = true

-- the numbers of the pieces that pass a test
abbrev pub pieces_where : (PieceState → Bool) → List PieceState → List ℕ
pieces_where test pieces = filter (λ k. test (slice_index_or pieces k Unclaimed)) (range_with_len 0 (length pieces))

-- the pieces that a worker has finished and not delivered
abbrev pub finished_pieces : ℕ → CoreState → List ℕ
finished_pieces w state = pieces_where (is_finished_by w) state.pieces

abbrev pub delivered_pieces : CoreState → List ℕ
delivered_pieces state = pieces_where is_delivered state.pieces

-- From the next number on a piece is unclaimed. Below it, a piece is held by one worker, finished by one, or delivered:
-- it is in one state, and a worker holds a piece exactly where the piece's state names that worker.
pub record EachOnce (state : CoreState) : Type 0 where
  pub unclaimed : (k : ℕ) → k < length state.pieces → (slice_get state.pieces k ≡ Some Unclaimed) ↔ (state.next ≤ k)
  pub held : (k w : ℕ) → (slice_get state.pieces k ≡ Some (Held w)) ↔ (slice_get state.workers w ≡ Some (Holds k))
  pub finished : (k w : ℕ) → slice_get state.pieces k ≡ Some (Finished w) → w < length state.workers

-- every piece is delivered
abbrev pub IsComplete : CoreState → Type 0
IsComplete state = All (λ piece. piece ≡ Delivered) state.pieces
