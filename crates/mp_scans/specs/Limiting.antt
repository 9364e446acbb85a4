-- What the limits of a block's rows and columns tell.
use Rattle.std.specs.Prelude.{◌≡◌, ℕ, ◌+◌, ◌-◌, ◌<◌, ◌≤◌, max, min, List, length, ℤ, ◌<ℤ◌, FitsSigned, Bool, true, Some}
use Rattle.std.specs.Int.{w32, bit_at}
use Rattle.mp_defs.specs.Series.{Series}
use Rattle.mp_sums.specs.declared.distances.Grid.{Grid}
use Rattle.mp_sums.specs.Grids.{distance_in}
use Rattle.mp_sums.specs.Residues.{item}
use Rattle.mp_scans.specs.declared.blocks.Block.{Block}
use Rattle.mp_scans.specs.declared.blocks.Known.{Known}
use Rattle.mp_scans.specs.declared.blocks.Strip.{Strip}
use Rattle.mp_scans.specs.declared.sizes.TheConstants.{ROWS, COLUMNS}
use Rattle.mp_scans.specs.Blocks.{IsRow, IsColumn, residue_in}
use Rattle.mp_scans.specs.Exacts.{AreExactsIn}
use Rattle.mp_scans.specs.Windows.{row_windows, column_windows, FitIn}

-- of the windows from one on whichever has a residue above the limit gives nothing
pub record IsLimit (first : ℕ) (gives_nothing : ℕ → Type 0) (residues : ℕ → ℤ) (limit : ℤ) : Type 0 where
  pub fits : FitsSigned w32 limit
  pub above : (k : ℕ) → first ≤ k → limit <ℤ residues k → gives_nothing k

-- whatever column from one on has a residue above the limit gives the row nothing
abbrev pub IsRowLimit : Block → (ℕ → ℕ → ℕ → Type 0) → ℕ → ℕ → ℤ → Type 0
IsRowLimit block keeps first p limit =
    IsLimit first (λ c. IsRow block p → (d : ℕ) → distance_in block.grid (block.row + p) (block.column + c) ≡ Some d
    → keeps (block.row + p) (block.column + c) d) (residue_in block p) limit

-- whatever row from one on has a residue above the limit gives the column nothing
abbrev pub IsColumnLimit : Block → (ℕ → ℕ → ℕ → Type 0) → ℕ → ℕ → ℤ → Type 0
IsColumnLimit block keeps first c limit =
    IsLimit first (λ p. IsColumn block c → (d : ℕ) → distance_in block.grid (block.row + p) (block.column + c) ≡ Some d
    → keeps (block.column + c) (block.row + p) d) (λ p. residue_in block p c) limit

-- the first row that is still offered to a column from row p on, on thirty-two diagonals that start so far behind and
-- on those before them
abbrev pub first_row : ℕ → ℕ → ℕ → ℕ
first_row offset p c = max (c - (offset + 31)) (min p (c + 1 - offset))

-- the first row that is offered to a column on so many diagonals
abbrev pub first_on : ℕ → ℕ → ℕ
first_on width c = c + 1 - width

-- the limits of the rows, and of the columns, to each of which rows from its first on are still offered
pub record AreLimits (block : Block) (keeps_row keeps_column : ℕ → ℕ → ℕ → Type 0) (first : ℕ → ℕ)
    (rows columns : List ℤ) : Type 0 where
  pub row_places : length rows ≡ ROWS
  pub column_places : length columns ≡ COLUMNS
  pub of_rows : (p : ℕ) → p < length block.rows.differences.now → IsRowLimit block keeps_row p p (item rows p)
  pub of_columns : (c : ℕ) → c < length block.columns.differences.now
      → IsColumnLimit block keeps_column (first c) c (item columns c)

-- what is known as pairs of a block are offered: that there are places for them, sums, and limits
pub record IsKnown {Into : Type 0} (fits : ℕ → Series → Series → Into → Type 0)
    (keeps_row keeps_column : Into → ℕ → ℕ → ℕ → Type 0) (block : Block) (first : ℕ → ℕ) (known : Known) (into : Into)
    : Type 0 where
  pub places : FitIn fits block.grid into
  pub exacts : AreExactsIn block known.exacts
  pub limits : AreLimits block (keeps_row into) (keeps_column into) first known.rows known.columns

-- the same at a row of a strip
abbrev pub IsKnownAt : {Into : Type 0} → (ℕ → Series → Series → Into → Type 0) → (Into → ℕ → ℕ → ℕ → Type 0)
    → (Into → ℕ → ℕ → ℕ → Type 0) → Strip → ℕ → Known → Into → Type 0
IsKnownAt fits keeps_row keeps_column strip p known into =
    IsKnown fits keeps_row keeps_column strip.block (first_row strip.offset p) known into

-- a row and a column give each other nothing: neither is nearer to the other than what that has
abbrev pub IsQuiet : Grid → (ℕ → ℕ → ℕ → Type 0) → (ℕ → ℕ → ℕ → Type 0) → ℕ → ℕ → Type 0
IsQuiet grid keeps_row keeps_column i j =
    i < row_windows grid → j < column_windows grid → (d : ℕ) → distance_in grid i j ≡ Some d
    → keeps_row i j d × keeps_column j i d

-- no pair that passes a test is nearer than what its row and its column have: it gives neither of them something
abbrev pub AreQuiet : Grid → (ℕ → ℕ → ℕ → Type 0) → (ℕ → ℕ → ℕ → Type 0) → (ℕ → ℕ → Bool) → Type 0
AreQuiet grid keeps_row keeps_column pairs =
    (i j : ℕ) → pairs i j ≡ true → IsQuiet grid keeps_row keeps_column i j

-- of a row's thirty-two columns from one on, each whose bit is set gives the row nothing, nor does the row give it
-- something
abbrev pub AreKept : Block → (ℕ → ℕ → ℕ → Type 0) → (ℕ → ℕ → ℕ → Type 0) → ℕ → ℕ → ℕ → Type 0
AreKept block keeps_row keeps_column p c bits =
    (t : ℕ) → t < 32 → bit_at bits t ≡ 1
    → IsQuiet block.grid keeps_row keeps_column (block.row + p) (block.column + (c + t))
