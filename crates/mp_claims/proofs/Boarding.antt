-- What a board has at an event that isn't refused.
use Rattle.std.proofs.Common.{◌≡◌, ℕ, ◌+◌, ◌<◌, ◌≤◌, List, length, set, refl, arith}
use Rattle.std.specs.Prelude.{Option, Some, None, map, slice_get, slice_index_or}
use Rattle.std.proofs.lemmas.List.{length-set, length-map}
use Rattle.std.proofs.lemmas.Option.{slice_get_within, get_or_from_slice_get}
use Rattle.mp_claims.specs.declared.states.WorkerState.{WorkerState}
use Rattle.mp_claims.specs.declared.states.WorkerState.TheVariants.{Free, Holds, Spent}
use Rattle.mp_claims.specs.declared.states.PieceState.{PieceState}
use Rattle.mp_claims.specs.declared.states.PieceState.TheVariants.{Held, Finished}
use Rattle.mp_claims.specs.Cores.{claim_refusal, finish_refusal, handed_over}
use Rattle.mp_claims.specs.Boards.{IsBoard}
use Rattle.mp_claims.proofs.Soundness.{claim_sound, spend_sound, finish_sound, deliver_sound}

pub is_free : (worker : Option WorkerState) → claim_refusal worker ≡ None → worker ≡ Some Free
is_free None h = cc
is_free (Some Free) h = refl
is_free (Some (Holds k)) h = cc
is_free (Some Spent) h = cc

pub claim_kept : (next w : ℕ) (workers : List WorkerState) (pieces : List PieceState) → IsBoard next workers pieces
    → claim_refusal (slice_get workers w) ≡ None → next < length pieces
    → IsBoard (next + 1) (set workers w (Holds next)) (set pieces next (Held w))
claim_kept next w workers pieces board fine some =
    let few_pieces = board.few_pieces in
    let few_workers = board.few_workers in
    record {
      sound = claim_sound next w workers pieces board.sound (is_free (slice_get workers w) fine) some;
      few_pieces = omega (arith, length-set pieces next (Held w));
      few_workers = omega (arith, length-set workers w (Holds next));
    }

pub spend_kept : (next w : ℕ) (workers : List WorkerState) (pieces : List PieceState) → IsBoard next workers pieces
    → claim_refusal (slice_get workers w) ≡ None → length pieces ≤ next
    → IsBoard (next + 1) (set workers w Spent) pieces
spend_kept next w workers pieces board fine none =
    let few_workers = board.few_workers in
    record {
      sound = spend_sound next w workers pieces board.sound (is_free (slice_get workers w) fine) none;
      few_pieces = board.few_pieces;
      few_workers = omega (arith, length-set workers w Spent);
    }

pub finish_kept : (next w k : ℕ) (workers : List WorkerState) (pieces : List PieceState) → IsBoard next workers pieces
    → slice_get workers w ≡ Some (Holds k) → IsBoard next (set workers w Free) (set pieces k (Finished w))
finish_kept next w k workers pieces board holds =
    let few_pieces = board.few_pieces in
    let few_workers = board.few_workers in
    record {
      sound = finish_sound w k (record { next = next; workers = workers; pieces = pieces }) board.sound holds;
      few_pieces = omega (arith, length-set pieces k (Finished w));
      few_workers = omega (arith, length-set workers w Free);
    }

-- the piece that a worker holds is one of the board
pub held_within : (next w k : ℕ) (workers : List WorkerState) (pieces : List PieceState) → IsBoard next workers pieces
    → slice_get workers w ≡ Some (Holds k) → k < length pieces
held_within next w k workers pieces board holds =
    slice_get_within pieces k (Held w) ((board.sound.once.held k w).1 holds)

pub deliver_kept : (next w : ℕ) (workers : List WorkerState) (pieces : List PieceState) → IsBoard next workers pieces
    → IsBoard next workers (map (handed_over w) pieces)
deliver_kept next w workers pieces board =
    let few_pieces = board.few_pieces in
    record {
      sound = deliver_sound w (record { next = next; workers = workers; pieces = pieces }) board.sound;
      few_pieces = omega (arith, length-map pieces (handed_over w));
      few_workers = board.few_workers;
    }

-- what is read of a worker that holds a piece
pub is_holding : (workers : List WorkerState) (w k : ℕ) (read : WorkerState)
    → finish_refusal (slice_get workers w) ≡ None
    → read ≡ slice_index_or workers w read → read ≡ Holds k → slice_get workers w ≡ Some (Holds k)
is_holding workers w k read fine at is = go (slice_get workers w) refl fine
  where
    go : (worker : Option WorkerState) → slice_get workers w ≡ worker → finish_refusal worker ≡ None
        → slice_get workers w ≡ Some (Holds k)
    go None e h = cc
    go (Some Free) e h = cc
    go (Some (Holds j)) e h =
        let same : slice_index_or workers w read ≡ Holds j = get_or_from_slice_get workers w (Holds j) read e in cc
    go (Some Spent) e h = cc

-- a worker that may finish holds a piece
pub is_held : (worker : Option WorkerState) → finish_refusal worker ≡ None → (k : ℕ) × (worker ≡ Some (Holds k))
is_held None h = absurd (cc)
is_held (Some Free) h = absurd (cc)
is_held (Some (Holds k)) h = (k, refl)
is_held (Some Spent) h = absurd (cc)
