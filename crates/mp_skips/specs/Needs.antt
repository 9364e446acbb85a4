-- From which coarse sum on a pair gives its row or its column nothing.
use Rattle.std.specs.Prelude.{◌≡◌, ℕ, ◌+◌, ◌*◌, ◌^◌, ◌<◌, ◌≤◌, List, length, Some}
use Rattle.mp_sums.specs.declared.limits.Limit.{Limit}
use Rattle.mp_sums.specs.Limits.{IsBeyond}
use Rattle.mp_sums.specs.Grids.{distance_in}
use Rattle.mp_skips.specs.declared.sums.Coarse.{Coarse}
use Rattle.mp_skips.specs.declared.sums.TheConstants.{NO_NEED}
use Rattle.mp_scans.specs.Windows.{row_windows, column_windows}
use Rattle.mp_skips.specs.Sums.{number_in}
use Rattle.mp_skips.specs.Blocks.{Reaches, height}

-- whatever reaches it lies beyond a limit
pub record IsNeedOf (coarse : Coarse) (limit : Limit) (need : ℕ) : Type 0 where
  pub beyond : (d : ℕ) → need < NO_NEED → Reaches coarse need d → IsBeyond limit d

-- whatever column from first on reaches it gives the row nothing
pub record IsRowNeed (coarse : Coarse) (keeps : ℕ → ℕ → ℕ → Type 0) (first row need : ℕ) : Type 0 where
  pub nothing : (column d : ℕ) → row < row_windows coarse.plan.grid → first ≤ column
      → distance_in coarse.plan.grid row column ≡ Some d → need < NO_NEED → Reaches coarse need d
      → keeps row column d

-- whatever row from first on reaches it gives the column nothing
pub record IsColumnNeed (coarse : Coarse) (keeps : ℕ → ℕ → ℕ → Type 0) (first column need : ℕ)
    : Type 0 where
  pub nothing : (row d : ℕ) → column < column_windows coarse.plan.grid → first ≤ row
      → distance_in coarse.plan.grid row column ≡ Some d → need < NO_NEED → Reaches coarse need d
      → keeps column row d

-- one need does for n successive rows
pub record IsRowsNeed (coarse : Coarse) (keeps : ℕ → ℕ → ℕ → Type 0) (first row n need : ℕ) : Type 0 where
  pub each : (r : ℕ) → r < n → IsRowNeed coarse keeps first (row + r) need

-- the needs of successive columns
pub record AreColumnNeeds (coarse : Coarse) (keeps : ℕ → ℕ → ℕ → Type 0) (first column n : ℕ)
    (needs : List ℕ) : Type 0 where
  pub each : (c : ℕ) → c < n → IsColumnNeed coarse keeps first (column + c) (number_in needs c)

-- for each of n groups of eight places one number is no less than those at these and at so many more
pub record AreGreatest (numbers : List ℕ) (more n : ℕ) (greatest : List ℕ) : Type 0 where
  pub each : (g c : ℕ) → g < n → c < 8 + more → number_in numbers (8 * g + c) ≤ number_in greatest g

-- the need of each of n successive groups does for all columns that its blocks reach
pub record AreGroupNeeds (coarse : Coarse) (keeps : ℕ → ℕ → ℕ → Type 0) (first group n : ℕ)
    (needs : List ℕ) : Type 0 where
  pub each : (g c : ℕ) → g < n → c < 8 + height coarse
      → IsColumnNeed coarse keeps first (8 * (group + g) + c) (number_in needs g)

-- a distance reaches a need that is no less than so many squares of a step, as 63 bits hold them
pub record IsMost (coarse : Coarse) (need most : ℕ) : Type 0 where
  pub far : (sum d : ℕ) → sum < 2 ^ 63 → most ≤ sum
      → sum * (coarse.rows.units.step.size * coarse.rows.units.step.size) ≤ d → Reaches coarse need d
  pub some : (sum : ℕ) → sum < 2 ^ 63 → most ≤ sum → need < NO_NEED

-- the needs of a strip: one of n successive rows from a first one on, to which columns from first behind it on are
-- offered, and those of successive groups of columns from base on
pub record AreStripNeeds (coarse : Coarse) (keeps_row keeps_column : ℕ → ℕ → ℕ → Type 0)
    (first row n base need : ℕ) (needs : List ℕ) : Type 0 where
  pub rows : IsRowsNeed coarse keeps_row (row + first) row n need
  pub columns : AreGroupNeeds coarse keeps_column row base (length needs) needs
  pub small_rows : need ≤ NO_NEED
  pub small_columns : (g : ℕ) → number_in needs g ≤ NO_NEED
