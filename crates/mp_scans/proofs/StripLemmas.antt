-- The pairs of a row, of a strip, of a block and of a group, and what scans of them give together.
use Rattle.std.proofs.Common.{◌≡◌, ℕ, ◌+◌, ◌-◌, ◌<◌, ◌≤◌, ◌⊎◌, min, Bool, false, arith}
use Rattle.std.specs.Prelude.{◌||◌}
use Rattle.std.proofs.lemmas.Bool.Decides.{nat_tests}
use Rattle.mp_defs.specs.Series.{Series, series_of}
use Rattle.mp_sums.specs.declared.distances.Grid.{Grid}
use Rattle.mp_scans.specs.Offering.{only, in_row, in_block, IsOffering}
use Rattle.mp_scans.specs.Windows.{row_windows, column_windows, FitIn, AreScannedIn}

-- ---- one scan after another

module _ {Into : Type 0} {least : ℕ} {fits : ℕ → Series → Series → Into → Type 0} {may : Into → ℕ → ℕ → ℕ → Type 0}
    {is_scanned : ℕ → Series → Series → (ℕ → ℕ → Bool) → Into → Into → Type 0}
    (laws : IsOffering least fits may is_scanned) (grid : Grid) where
  -- the scan of these pairs and then of those is one of all pairs, as another test tells them
  pub scanned_next : (p q r : ℕ → ℕ → Bool) (old mid new : Into) → FitIn fits grid old
      → AreScannedIn is_scanned grid p old mid → AreScannedIn is_scanned grid q mid new
      → ((i j : ℕ) → i < row_windows grid → j < column_windows grid → (p i j || q i j) ≡ r i j)
      → AreScannedIn is_scanned grid r old new
  scanned_next p q r old mid new h s t agree =
      let m = grid.m in
      let a = series_of grid.rows.now in
      let b = series_of grid.columns.now in
      laws.same m a b (λ i j. p i j || q i j) r old new h (laws.both m a b p q old mid new s t) agree

-- where no row or no diagonal is meant, there is no pair
pub no_pairs : (first end top bottom i j : ℕ) → (end ≤ first) ⊎ (bottom ≤ top)
    → in_block first end top bottom i j ≡ false
no_pairs first end top bottom i j none = grind (arith, nat_tests)

-- ---- one column of a row first

pub first_columns : (r c best r' best' i j : ℕ) → r' ≡ r → best' ≡ best
    → only r' best' i j ≡ (only r best i j || in_row r c (c + 0) i j)
first_columns r c best r' best' i j e f = grind (arith, nat_tests)

pub next_column : (r c t best r' d' i j : ℕ) → r' ≡ r → d' ≡ c + t
    → ((only r best i j || in_row r c (c + t) i j) || only r' d' i j)
    ≡ (only r best i j || in_row r c (c + (t + 1)) i j)
next_column r c t best r' d' i j e f = grind (arith, nat_tests)

pub taken_column : (r c t best i j : ℕ) → best ≡ c + t
    → (only r best i j || in_row r c (c + t) i j) ≡ (only r best i j || in_row r c (c + (t + 1)) i j)
taken_column r c t best i j e = grind (arith, nat_tests)

pub more_columns : (r c d e best i j : ℕ) → c ≤ d → d ≤ e
    → ((only r best i j || in_row r c d i j) || in_row r d e i j) ≡ (only r best i j || in_row r c e i j)
more_columns r c d e best i j le le' = grind (arith, nat_tests)

pub all_columns : (r c t best wide i j : ℕ) → best < wide → t ≡ wide
    → (only r (c + best) i j || in_row r c (c + t) i j) ≡ in_row r c (c + wide) i j
all_columns r c t best wide i j lt e = grind (arith, nat_tests)

-- ---- rows

-- a row has the strip's columns, as far as there are windows
pub row_in_strip : (row p d w c wide wb i j : ℕ) → c ≡ row + p + d → wide ≡ min w (wb - c) → j < wb
    → in_row (row + p) c (c + wide) i j ≡ in_block d (d + w) (row + p) (row + (p + 1)) i j
row_in_strip row p d w c wide wb i j e f lt = grind (arith, nat_tests)

-- rows from one on and before the next
pub rows_next : (first end top u l i j : ℕ) → top ≤ u → u ≤ l
    → (in_block first end top u i j || in_block first end u l i j) ≡ in_block first end top l i j
rows_next first end top u l i j le le' = grind (arith, nat_tests)

pub rows_cut : (first end top bottom row stop wb i j : ℕ) → stop ≡ min bottom (wb - first) → stop ≤ row
    → (row ≤ stop) ⊎ (row ≡ top) → j < wb → in_block first end top row i j ≡ in_block first end top bottom i j
rows_cut first end top bottom row stop wb i j e le order lt = grind (arith, nat_tests)

-- ---- strips

-- of a strip's rows those that have a column on its first diagonal have all its pairs
pub strip_cut : (row column o w n wb end i j : ℕ) → row ≤ column → end ≡ min n (wb - (column + o)) → j < wb
    → in_block (column - row + o) (column - row + o + w) (row + 0) (row + end) i j
    ≡ in_block (column - row + o) (column - row + o + w) row (row + n) i j
strip_cut row column o w n wb end i j order e lt = grind (arith, nat_tests)

-- those behind, and one before them
pub strips_before : (f o w width next top bottom i j : ℕ) → o < width → w ≡ min (width - o) 32 → next ≡ o + 32
    → (in_block (f + min next width) (f + width) top bottom i j || in_block (f + o) (f + o + w) top bottom i j)
    ≡ in_block (f + min o width) (f + width) top bottom i j
strips_before f o w width next top bottom i j lt e g = grind (arith, nat_tests)

pub all_strips : (f width o top bottom i j : ℕ) → o ≡ 0
    → in_block (f + min o width) (f + width) top bottom i j ≡ in_block f (f + width) top bottom i j
all_strips f width o top bottom i j e = grind (arith, nat_tests)

-- ---- diagonals

-- from one on and before the next
pub diagonals_next : (first u l top bottom i j : ℕ) → first ≤ u → u ≤ l
    → (in_block first u top bottom i j || in_block u l top bottom i j) ≡ in_block first l top bottom i j
diagonals_next first u l top bottom i j le le' = grind (arith, nat_tests)

-- those that start behind the last column have no pair
pub diagonals_cut : (first end stop start top bottom wb i j : ℕ) → stop ≡ min end (wb - top) → stop ≤ start
    → (start ≤ stop) ⊎ (start ≡ first) → j < wb
    → in_block first start top bottom i j ≡ in_block first end top bottom i j
diagonals_cut first end stop start top bottom wb i j e le order lt = grind (arith, nat_tests)
