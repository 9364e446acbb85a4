-- What comes in and what goes where the windows of several channels move on.
use Rattle.std.specs.Prelude.{◌≡◌, ℕ, ◌<◌, List, length, slice_index_or, ℤ, map}
use Rattle.mp_nums.specs.declared.samples.Sample.{Sample}
use Rattle.mp_defs.specs.Series.{series_of}
use Rattle.mp_results.specs.Multi.{channel_at}
use Rattle.mp_sums.specs.Sums.{numbers_of}
use Rattle.mp_sums.specs.Rounding.{rounded}
use Rattle.mp_sums.specs.Residues.{AreChanges}
use Rattle.mp_scans.specs.declared.sizes.TheConstants.{ROWS}
use Rattle.mp_multi.specs.declared.sizes.TheConstants.{WIDE}
use Rattle.mp_multi.specs.declared.moves.Moves.{Moves}

-- the rounded numbers of channel n
abbrev pub channel_numbers : ℕ → List (List Sample) → ℕ → ℕ → ℤ
channel_numbers shift channels n = rounded shift (numbers_of (channel_at (map series_of channels) n))

-- these are the moves of windows of m numbers, as rows from one on and as columns from another on
pub record IsMoved (m : ℕ) (x : ℕ → ℤ) (row column : ℕ) (moves : Moves) : Type 0 where
  pub row_places : length moves.row_differences ≡ ROWS
  pub column_places : length moves.column_differences ≡ WIDE
  pub rows : AreChanges m x row moves.row_differences moves.row_sums
  pub columns : AreChanges m x column moves.column_differences moves.column_sums

-- the same of each channel
pub record AreMoved (m shift : ℕ) (channels : List (List Sample)) (row column : ℕ)
    (moves : List Moves) : Type 0 where
  pub each : (n : ℕ) (past : Moves) → n < length moves
      → IsMoved m (channel_numbers shift channels n) row column (slice_index_or moves n past)
