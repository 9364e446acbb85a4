-- What tiles give together of several channels.
use Rattle.std.specs.Prelude.{◌≡◌, ℕ, ◌<◌, List, [], ◌∷◌, length, slice_index_or, Bool}
use Rattle.mp_defs.specs.Series.{Series}
use Rattle.mp_defs.specs.Window.{excl}
use Rattle.mp_defs.specs.Laws.{IsIrreflexive, IsSymmetric}
use Rattle.mp_results.specs.Multi.{windows_in, pair_value, multi_of}
use Rattle.mp_partial.specs.Values.{Value, merged_columns, empty_columns, merged_below}
use Rattle.mp_cuts.specs.declared.cuts.Tile.{Tile}
use Rattle.mp_cuts.specs.Pairs.{has_pair, no_tile}
use Rattle.mp_cuts.specs.Cutting.{own_tiles}
use Rattle.mp_cuts.specs.Laws.{HoldEachOnce}
use Rattle.mp_multi.specs.Among.{least_column, multi_among}

-- the value of a tile: the multidimensional profile of its pairs
abbrev pub tile_value : ℕ → ℕ → List Series → List Tile → ℕ → Value
tile_value m k channels tiles n = multi_among (has_pair 0 (slice_index_or tiles n no_tile)) m k channels ∷ []

-- the values of all tiles together
abbrev pub tiles_value : ℕ → ℕ → List Series → List Tile → Value
tiles_value m k channels tiles =
    merged_below merged_columns (empty_columns 1 (windows_in m channels)) (tile_value m k channels tiles) (length tiles)

-- they are the multidimensional profile
pub record TilesMakeTheMulti : Type 0 where
  -- by any test of pairs, whatever tiles hold each pair once
  pub any : (may : ℕ → ℕ → Bool) → IsIrreflexive may → IsSymmetric may → (m k : ℕ) (channels : List Series)
      (tiles : List Tile) → HoldEachOnce may (windows_in m channels) tiles
      → tiles_value m k channels tiles ≡ least_column may (pair_value m k channels) (windows_in m channels) ∷ []
  -- and so of the cut outside the exclusion zone, however wide its tiles are
  pub own : (m k width : ℕ) (channels : List Series) → 0 < width
      → tiles_value m k channels (own_tiles (windows_in m channels) (excl m) width) ≡ multi_of m k channels ∷ []
