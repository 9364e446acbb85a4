-- The pairs of rows, of strips and of groups of diagonals.
use Rattle.std.proofs.Common.{◌≡◌, ℕ, ◌+◌, ◌-◌, ◌<◌, ◌≤◌, ◌⊎◌, min, true, false, arith}
use Rattle.std.specs.Prelude.{◌||◌}
use Rattle.std.proofs.lemmas.Bool.Decides.{nat_tests}
use Rattle.mp_cuts.specs.declared.cuts.Tile.{Tile}
use Rattle.mp_cuts.specs.Pairs.{has_pair}
use Rattle.mp_scans.specs.Offering.{only, in_row, in_block}

-- where no row or no diagonal is meant, there is no pair
pub no_pairs : (first end top bottom i j : ℕ) → (end ≤ first) ⊎ (bottom ≤ top)
    → in_block first end top bottom i j ≡ false
no_pairs first end top bottom i j none = grind (arith, nat_tests)

-- what the test of a block's pairs tells
pub record IsInside (first end top bottom row column : ℕ) : Type 0 where
  pub left : row + first ≤ column
  pub right : column < row + end
  pub above : top ≤ row
  pub below : row < bottom

pub inside : (first end top bottom row column : ℕ) → in_block first end top bottom row column ≡ true
    → IsInside first end top bottom row column
inside first end top bottom row column e = record {
  left = grind (arith, nat_tests);
  right = grind (arith, nat_tests);
  above = grind (arith, nat_tests);
  below = grind (arith, nat_tests);
}

pub row_is : (i j r c : ℕ) → only i j r c ≡ true → i ≡ r
row_is i j r c e = grind (arith, nat_tests)

pub column_is : (i j r c : ℕ) → only i j r c ≡ true → j ≡ c
column_is i j r c e = grind (arith, nat_tests)

-- ---- one column of a row after another

pub no_columns : (r c i j : ℕ) → in_row r c (c + 0) i j ≡ false
no_columns r c i j = grind (arith, nat_tests)

pub next_column : (r c t r' d' i j : ℕ) → r' ≡ r → d' ≡ c + t
    → (in_row r c (c + t) i j || only r' d' i j) ≡ in_row r c (c + (t + 1)) i j
next_column r c t r' d' i j e f = grind (arith, nat_tests)

-- a row has the strip's columns, as far as there are windows
pub row_in_strip : (row p d w c t wb i j : ℕ) → c ≡ row + p + d → t ≡ min w (wb - c) → j < wb
    → in_row (row + p) c (c + t) i j ≡ in_block d (d + w) (row + p) (row + (p + 1)) i j
row_in_strip row p d w c t wb i j e f lt = grind (arith, nat_tests)

-- ---- rows

-- rows from one on and before the next
pub rows_next : (first end top u l i j : ℕ) → top ≤ u → u ≤ l
    → (in_block first end top u i j || in_block first end u l i j) ≡ in_block first end top l i j
rows_next first end top u l i j le le' = grind (arith, nat_tests)

pub rows_cut : (first end top bottom row stop wb i j : ℕ) → stop ≡ min bottom (wb - first) → stop ≤ row
    → (row ≤ stop) ⊎ (row ≡ top) → j < wb → in_block first end top row i j ≡ in_block first end top bottom i j
rows_cut first end top bottom row stop wb i j e le order lt = grind (arith, nat_tests)

-- ---- strips

-- of a strip's rows those that have a column on its first diagonal have all its pairs
pub strip_cut : (row column o w n wb end i j : ℕ) → row ≤ column → end ≡ min n (wb - (column + o)) → j < wb
    → in_block (column - row + o) (column - row + o + w) (row + 0) (row + end) i j
    ≡ in_block (column - row + o) (column - row + o + w) row (row + n) i j
strip_cut row column o w n wb end i j order e lt = grind (arith, nat_tests)

-- those behind one, and this
pub strips_before : (f o w width next top bottom i j : ℕ) → o < width → w ≡ min (width - o) 32 → next ≡ o + 32
    → (in_block (f + min next width) (f + width) top bottom i j || in_block (f + o) (f + o + w) top bottom i j)
    ≡ in_block (f + min o width) (f + width) top bottom i j
strips_before f o w width next top bottom i j lt e g = grind (arith, nat_tests)

pub all_strips : (f width o top bottom i j : ℕ) → o ≡ 0
    → in_block (f + min o width) (f + width) top bottom i j ≡ in_block f (f + width) top bottom i j
all_strips f width o top bottom i j e = grind (arith, nat_tests)

-- ---- diagonals

-- from one on and before the next
pub diagonals_next : (first u l top bottom i j : ℕ) → first ≤ u → u ≤ l
    → (in_block first u top bottom i j || in_block u l top bottom i j) ≡ in_block first l top bottom i j
diagonals_next first u l top bottom i j le le' = grind (arith, nat_tests)

-- those that start behind the last column have no pair
pub diagonals_cut : (first end stop start top bottom wb i j : ℕ) → stop ≡ min end (wb - top) → stop ≤ start
    → (start ≤ stop) ⊎ (start ≡ first) → j < wb
    → in_block first start top bottom i j ≡ in_block first end top bottom i j
diagonals_cut first end stop start top bottom wb i j e le order lt = grind (arith, nat_tests)

-- the pairs of a tile
pub tile_pairs : (tile : Tile) (i j : ℕ)
    → in_block tile.first (tile.last + 1) tile.first_row (tile.last_row + 1) i j ≡ has_pair 0 tile i j
tile_pairs tile i j = grind (arith, nat_tests)
