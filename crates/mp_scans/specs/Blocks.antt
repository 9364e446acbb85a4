-- Blocks of rows and columns, thirty-two diagonals at once.
use Rattle.std.specs.Prelude.{◌≡◌, ℕ, ◌+◌, ◌-◌, ◌*◌, ◌<◌, ◌≤◌, ◌⊎◌, List, length, ℤ, Bool}
use Rattle.mp_sums.specs.declared.distances.Grid.{Grid}
use Rattle.mp_sums.specs.Sums.{square_sum}
use Rattle.mp_sums.specs.Grids.{row_numbers, column_numbers}
use Rattle.mp_sums.specs.Rounding.{rounded}
use Rattle.mp_sums.specs.Residues.{residue, item}
use Rattle.mp_scans.specs.declared.blocks.Block.{Block}
use Rattle.mp_scans.specs.declared.blocks.Pair.{Pair}
use Rattle.mp_scans.specs.declared.blocks.Row.{Row}
use Rattle.mp_scans.specs.declared.blocks.Strip.{Strip}
use Rattle.mp_scans.specs.declared.vectors.TheConstants.{LANES}
use Rattle.mp_scans.specs.Lanes.{IsAbove}
use Rattle.mp_scans.specs.Offering.{only, in_row, in_block}
use Rattle.mp_scans.specs.Windows.{row_windows, column_windows}

-- the rounded numbers of the rows, and of the columns
abbrev pub rounded_rows : Block → ℕ → ℤ
rounded_rows block = rounded block.rounding.shift (row_numbers block.grid)

abbrev pub rounded_columns : Block → ℕ → ℤ
rounded_columns block = rounded block.rounding.shift (column_numbers block.grid)

-- the residue of a row and a column, both counted from the block's first
abbrev pub residue_in : Block → ℕ → ℕ → ℤ
residue_in block k c =
    residue (square_sum block.grid.m (rounded_rows block) (block.row + k) (rounded_columns block) (block.column + c))

-- a row is a window of its series, and so is a column
abbrev pub IsRow : Block → ℕ → Type 0
IsRow block p = block.row + p < row_windows block.grid

abbrev pub IsColumn : Block → ℕ → Type 0
IsColumn block c = block.column + c < column_windows block.grid

-- the residues of a row and of thirty-two columns
pub record AreResiduesAt (block : Block) (k c : ℕ) (residues : List ℤ) : Type 0 where
  pub count : length residues ≡ LANES
  pub each : (t : ℕ) → t < LANES → item residues t ≡ residue_in block k (c + t)

-- those of a strip's row
abbrev pub AreResiduesOf : Strip → ℕ → List ℤ → Type 0
AreResiduesOf strip p residues = AreResiduesAt strip.block p (p + strip.offset) residues

-- in a strip's rows from one on and before another, each residue is above its row's limit and its column's
pub record AreAbove (strip : Strip) (rows columns : List ℤ) (from end : ℕ) : Type 0 where
  pub each : (p t : ℕ) → from ≤ p → p < end → t < LANES
      → IsAbove (item rows p) (item columns (p + strip.offset + t)) (residue_in strip.block p (p + strip.offset + t))

-- a row of a strip, a column that it has on one of the strip's diagonals, and their residue
pub record IsPairOf (strip : Strip) (pair : Pair) : Type 0 where
  pub row : pair.row < strip.end
  pub first : pair.row + strip.offset ≤ pair.column
  pub last : pair.column < pair.row + strip.offset + 32
  pub is_column : IsColumn strip.block pair.column
  pub residue : pair.residue ≡ residue_in strip.block pair.row pair.column

-- a row of a strip, as many columns as it has on the strip's first diagonals or fewer, and its residues
pub record IsRowOf (strip : Strip) (row : Row) : Type 0 where
  pub place : row.place < strip.end
  pub are_columns : strip.block.column + (row.place + strip.offset) + row.width ≤ column_windows strip.block.grid
  pub residues : AreResiduesOf strip row.place row.residues.now

-- the residues at a strip's places are those behind its last row, where it has one, and others stay
pub record AreMovedOn (strip : Strip) (old new : List ℤ) : Type 0 where
  pub stored : 1 ≤ strip.end → (t : ℕ) → t < LANES
      → item new (strip.offset + t) ≡ residue_in strip.block strip.end (strip.end + strip.offset + t)
  pub others : (k : ℕ) → (k < strip.offset) ⊎ (strip.offset + LANES ≤ k) → item new k ≡ item old k
  pub places : length new ≡ length old

-- a pair of a block
abbrev pub in_pair : Block → Pair → ℕ → ℕ → Bool
in_pair block pair = only (block.row + pair.row) (block.column + pair.column)

-- so many columns of a strip's row
abbrev pub in_columns : Strip → ℕ → ℕ → ℕ → ℕ → Bool
in_columns strip p width =
    in_row (strip.block.row + p) (strip.block.column + (p + strip.offset))
    (strip.block.column + (p + strip.offset) + width)

-- the pairs of a strip's rows from one on and before another
abbrev pub in_strip : Strip → ℕ → ℕ → ℕ → ℕ → Bool
in_strip strip from end =
    in_block (strip.block.column - strip.block.row + strip.offset)
    (strip.block.column - strip.block.row + strip.offset + strip.width) (strip.block.row + from) (strip.block.row + end)

-- the place of a lane of a strip has the residue of a row, where the strip's first column is a window
abbrev pub IsStripResidue : Grid → ℕ → ℕ → ℕ → List ℤ → ℕ → ℕ → Type 0
IsStripResidue grid shift row column residues s t =
    t < 32 → s * 32 + t < length residues → column + s * 32 < column_windows grid → item residues (s * 32 + t)
    ≡ residue (square_sum grid.m (rounded shift (row_numbers grid)) row (rounded shift (column_numbers grid))
    (column + s * 32 + t))

-- the residues of a row in strips of thirty-two diagonals, whose first has the given column
pub record AreStripResidues (grid : Grid) (shift row column : ℕ) (residues : List ℤ) : Type 0 where
  pub each : (s t : ℕ) → IsStripResidue grid shift row column residues s t
