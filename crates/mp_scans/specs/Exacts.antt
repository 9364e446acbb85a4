-- Exact sums that are known of diagonals.
use Rattle.std.specs.Prelude.{◌≡◌, ℕ, ◌+◌, ◌-◌, ◌<◌, List, length, slice_index_or, Option, None, IfSome}
use Rattle.mp_sums.specs.declared.distances.Grid.{Grid}
use Rattle.mp_sums.specs.Grids.{IsSumIn}
use Rattle.mp_scans.specs.declared.blocks.Block.{Block}
use Rattle.mp_scans.specs.declared.exacts.Exact.{Exact}
use Rattle.mp_scans.specs.declared.sizes.TheConstants.{GROUP}

-- where a sum is known, it is that of a row and the column that starts so far behind it
abbrev pub IsExact : Grid → ℕ → Option Exact → Type 0
IsExact grid behind exact = IfSome exact (λ e. IsSumIn grid e.row (e.row + behind) e.sum)

-- what is known of successive diagonals, on the first of which a column starts so far behind its row
pub record AreExacts (grid : Grid) (first : ℕ) (exacts : List (Option Exact)) : Type 0 where
  pub count : length exacts ≡ GROUP
  pub each : (t : ℕ) → t < GROUP → IsExact grid (first + t) (slice_index_or exacts t None)

-- what is known of a block's diagonals
abbrev pub AreExactsIn : Block → List (Option Exact) → Type 0
AreExactsIn block exacts = AreExacts block.grid (block.column - block.row) exacts
