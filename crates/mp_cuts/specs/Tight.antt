-- How far the rows and the diagonals of a tile of a cut reach.
use Rattle.std.specs.Prelude.{ℕ, ◌+◌, ◌<◌, ◌≤◌}
use Rattle.mp_cuts.specs.declared.cuts.Tile.{Tile}
use Rattle.mp_cuts.specs.Limits.{max_tile}

-- It has few diagonals, and each of its rows has a column on one of them: the first row on the last one, and the last
-- row on the first one. Windows that start equally far lie on diagonal origin, and all diagonals come before end
pub record IsTight (origin end : ℕ) (tile : Tile) : Type 0 where
  pub few_diagonals : tile.last < tile.first + max_tile
  pub first_row : origin ≤ tile.first_row + tile.last
  pub last_row : tile.last_row + tile.first < end
