-- Some rows of a tile.
use Rattle.std.specs.Prelude.{ℕ, Bool, ◌&&◌, nat_le, nat_lt}
use Rattle.mp_cuts.specs.declared.cuts.Tile.{Tile}
use Rattle.mp_cuts.specs.Pairs.{has_pair}

-- windows i and j are a pair of the tile, and i comes before a row
abbrev pub has_before : ℕ → ℕ → Tile → ℕ → ℕ → Bool
has_before row origin tile i j = has_pair origin tile i j && nat_lt i row

-- and i is that row, or comes behind it
abbrev pub has_from : ℕ → ℕ → Tile → ℕ → ℕ → Bool
has_from row origin tile i j = has_pair origin tile i j && nat_le row i
