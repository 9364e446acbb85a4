-- The sums that a row is moved to.
use Rattle.std.specs.Prelude.{◌≡◌, ℕ, ◌+◌, ◌<◌, List, length, slice_index, Option}
use Rattle.mp_nums.specs.declared.nearest.Near.{Near}
use Rattle.mp_stream.specs.Limits.{limit_of}
use Rattle.mp_stream.specs.Offers.{AreOffered}
use Rattle.mp_stream.specs.Rows.{moved_row, row_candidate}
use Rattle.mp_stream.specs.declared.entries.Entries.{Entries}
use Rattle.mp_stream.specs.declared.moves.Moves.{Moves}

-- the sum of window i with the last one
abbrev pub moved_by : Moves → ℕ → ℕ
moved_by moves i = moved_row moves.first moves.before.now moves.enters.now moves.leaves.now i

-- the place of the last window
abbrev pub last_moved : Moves → ℕ
last_moved moves = length moves.before.now

-- window i, where it is free, at its distance from the last one
abbrev pub moved_candidate : Moves → ℕ → Option Near
moved_candidate moves = row_candidate moves.free.now (moved_by moves)

-- a list has a place for each window, and the sums before one are moved
pub record AreMoved (moves : Moves) (end : ℕ) (sums : List ℕ) : Type 0 where
  pub places : length sums ≡ length moves.before.now + 1
  pub done : (i : ℕ) → i < end → slice_index sums i ≡ moved_by moves i

-- the last window was offered to the free windows from first on and before end, on the right
abbrev pub AreOfferedBy : Moves → ℕ → ℕ → Entries → Entries → Type 0
AreOfferedBy moves first end old new =
    AreOffered limit_of moves.free.now (moved_by moves) (last_moved moves) first end old new
