-- Parts of the rows of tiles.
use Rattle.std.specs.Prelude.{ℕ, ◌+◌, ◌-◌, ◌*◌, ◌/◌, ◌%◌, ◌≤◌, List, length, map, min, slice_index_or}
use Rattle.std.specs.Int.{div_ceil}
use Rattle.std.specs.List.{range_with_len}
use Rattle.mp_partial.specs.declared.limits.TheConstants.{MAX_PIECES}
use Rattle.mp_cuts.specs.declared.cuts.Tile.{Tile}
use Rattle.mp_cuts.specs.Limits.{band_rows}
use Rattle.mp_cuts.specs.Pairs.{no_tile}

-- how many rows a part has, of so many in which a tile with the most rows is cut
abbrev pub part_height : ℕ → ℕ
part_height parts = div_ceil band_rows parts

-- part k of the rows of a tile, each of this height. It has none where they end before it
abbrev pub part_of : ℕ → Tile → ℕ → Tile
part_of height tile k = record {
  first = tile.first;
  last = tile.last;
  first_row = tile.first_row + k * height;
  last_row = min tile.last_row (tile.first_row + k * height + height - 1);
}

-- piece k: the parts of a tile follow each other
abbrev pub part_at : ℕ → List Tile → ℕ → Tile
part_at parts tiles k = part_of (part_height parts) (slice_index_or tiles (k / parts) no_tile) (k % parts)

-- all of them
abbrev pub parts_of : ℕ → List Tile → List Tile
parts_of parts tiles = map (part_at parts tiles) (range_with_len 0 (length tiles * parts))

-- the parts of all tiles are few enough to be pieces
pub record IsCutInParts (parts : ℕ) (tiles : List Tile) : Type 0 where
  pub some : 1 ≤ parts
  pub few : parts ≤ band_rows
  pub pieces : length tiles * parts ≤ MAX_PIECES
