-- How pairs of windows are cut into tiles: their diagonals in chunks, and the rows of a chunk in bands.
use Rattle.std.specs.Prelude.{ℕ, ◌+◌, ◌-◌, ◌*◌, ◌<◌, ◌≤◌, ◌==◌, ◌||◌, if◌then◌else◌, min, max, Bool, nat_le, List, map}
use Rattle.std.specs.Prelude.{filter, flat_map}
use Rattle.std.specs.List.{range_with_len}
use Rattle.std.specs.Int.{div_ceil}
use Rattle.mp_defs.specs.Limits.{max_samples}
use Rattle.mp_cuts.specs.declared.cuts.Tile.{Tile}
use Rattle.mp_cuts.specs.declared.cuts.Region.{Region}
use Rattle.mp_cuts.specs.Limits.{band_rows, max_tile}

-- how many chunks of diagonals there are, each as wide as the region says but for the last
abbrev pub chunks_of : Region → ℕ
chunks_of r = div_ceil (r.end - r.first) r.width

-- how many bands of rows there are: a band goes from one multiple of so many rows up to the next
abbrev pub bands_of : Region → ℕ
bands_of r = div_ceil r.rows band_rows

-- some diagonals in a band: their rows from the least to the greatest that any of them has, as far as they lie in it
abbrev pub in_band : Region → ℕ → ℕ → ℕ → Tile
in_band r band first last = record {
  first = first;
  last = last;
  first_row = max (r.origin - last) (band * band_rows);
  last_row = min (min r.rows (r.end - first)) (band * band_rows + band_rows) - 1;
}

-- chunk k in a band
abbrev pub tile_at : Region → ℕ → ℕ → Tile
tile_at r band k = in_band r band (r.first + k * r.width) (min (r.first + k * r.width + r.width) r.end - 1)

-- a tile has a row
abbrev pub has_rows : Tile → Bool
has_rows tile = nat_le tile.first_row tile.last_row

-- the tiles of a band: each chunk that has rows in it, by rising diagonals
abbrev pub tiles_in : Region → ℕ → List Tile
tiles_in r band = filter has_rows (map (tile_at r band) (range_with_len 0 (chunks_of r)))

-- the tiles of all bands, one band after another
abbrev pub tiles_of : Region → List Tile
tiles_of r = flat_map (tiles_in r) (range_with_len 0 (bands_of r))

-- the pairs of w windows that lie outside the exclusion zone
abbrev pub own_region : ℕ → ℕ → ℕ → Region
own_region w excl width = record { first = excl + 1; end = w; origin = 0; rows = w; width = width }

-- cut into tiles
abbrev pub own_tiles : ℕ → ℕ → ℕ → List Tile
own_tiles w excl width = tiles_of (own_region w excl width)

-- how many diagonals there are between windows of two series
abbrev pub diagonals_between : ℕ → ℕ → ℕ
diagonals_between wa wb = if (wa == 0) || (wb == 0) then 0 else wa + wb - 1

-- all pairs of windows of two series
abbrev pub both_region : ℕ → ℕ → ℕ → Region
both_region wa wb width =
    record { first = 0; end = diagonals_between wa wb; origin = wa - 1; rows = wa; width = width }

-- cut into tiles
abbrev pub both_tiles : ℕ → ℕ → ℕ → List Tile
both_tiles wa wb width = tiles_of (both_region wa wb width)

-- what the numbers of a cut keep to
pub record IsRegion (r : Region) : Type 0 where
  pub wide : 0 < r.width
  pub narrow : r.width ≤ max_tile
  pub few_rows : r.rows ≤ max_samples
  pub few_diagonals : r.end ≤ max_samples + max_samples - 1
  pub origin_row : 0 < r.rows → r.origin < r.rows
  pub origin_diagonal : 0 < r.end → r.origin < r.end
