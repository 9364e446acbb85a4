-- How wide and how high a tile may be.
use Rattle.std.specs.Prelude.{ℕ}

-- the most diagonals in a tile
abbrev pub max_tile : ℕ
max_tile = 65536

-- the rows of a band, of which a tile has some
abbrev pub band_rows : ℕ
band_rows = 65536
