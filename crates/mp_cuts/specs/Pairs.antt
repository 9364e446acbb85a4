-- The pairs of windows of a tile.
use Rattle.std.specs.Prelude.{ℕ, ◌+◌, ◌<◌, ◌≤◌, Bool, ◌&&◌, nat_le}
use Rattle.mp_cuts.specs.declared.cuts.Tile.{Tile}
use Rattle.mp_cuts.specs.Limits.{band_rows}

-- windows i and j lie on the tile's diagonals, where they start equally far on diagonal origin
abbrev pub on_its_diagonals : ℕ → Tile → ℕ → ℕ → Bool
on_its_diagonals origin tile i j = nat_le (i + tile.first) (j + origin) && nat_le (j + origin) (i + tile.last)

-- window i is one of the tile's rows
abbrev pub in_its_rows : Tile → ℕ → Bool
in_its_rows tile i = nat_le tile.first_row i && nat_le i tile.last_row

-- windows i and j are a pair of the tile
abbrev pub has_pair : ℕ → Tile → ℕ → ℕ → Bool
has_pair origin tile i j = on_its_diagonals origin tile i j && in_its_rows tile i

-- the tile has diagonals from start on and before end alone, and rows before a count alone
pub record IsTileBetween (start end rows : ℕ) (tile : Tile) : Type 0 where
  pub after : start ≤ tile.first
  pub ordered : tile.first ≤ tile.last
  pub within : tile.last < end
  pub some_rows : tile.first_row ≤ tile.last_row
  pub few_rows : tile.last_row < tile.first_row + band_rows
  pub last_row : tile.last_row < rows

-- what stands for a tile past the last one
abbrev pub no_tile : Tile
no_tile = record { first = 0; last = 0; first_row = 0; last_row = 0 }
