-- What tiles give together.
use Rattle.std.specs.Prelude.{◌≡◌, ℕ, ◌-◌, ◌<◌, List, [], ◌∷◌, length, slice_index_or, Bool}
use Rattle.mp_defs.specs.Series.{Series}
use Rattle.mp_defs.specs.Window.{excl}
use Rattle.mp_defs.specs.Profile.{windows_of, nearest_column, profile, matrix_profile, ab_join}
use Rattle.mp_defs.specs.Laws.{IsIrreflexive, IsSymmetric}
use Rattle.mp_partial.specs.Values.{Value, merged_column, merged_columns, empty_columns, merged_below}
use Rattle.mp_cuts.specs.declared.cuts.Tile.{Tile}
use Rattle.mp_cuts.specs.Pairs.{has_pair, no_tile}
use Rattle.mp_cuts.specs.Cutting.{own_tiles, both_tiles}
use Rattle.mp_cuts.specs.Laws.{HoldEachOnce, HoldEveryPairOnce}
use Rattle.mp_tiles.specs.Among.{profile_among, columns_value}

-- the value of a tile: the profile of its pairs
abbrev pub tile_value : ℕ → Series → List Tile → ℕ → Value
tile_value m a tiles k = columns_value (profile_among (has_pair 0 (slice_index_or tiles k no_tile)) m a)

-- the values of all tiles together
abbrev pub tiles_value : ℕ → Series → List Tile → Value
tiles_value m a tiles =
    merged_below merged_columns (empty_columns 3 (windows_of m a)) (tile_value m a tiles) (length tiles)

-- they are the profile
pub record TilesMakeTheProfile : Type 0 where
  -- by any test of pairs, whatever tiles hold each pair once
  pub any : (may : ℕ → ℕ → Bool) → IsIrreflexive may → IsSymmetric may → (m : ℕ) (a : Series) (tiles : List Tile)
      → HoldEachOnce may (windows_of m a) tiles → tiles_value m a tiles ≡ columns_value (profile may m a)
  -- and so of the cut outside the exclusion zone, however wide its tiles are
  pub own : (m width : ℕ) (a : Series) → 0 < width
      → tiles_value m a (own_tiles (windows_of m a) (excl m) width) ≡ columns_value (matrix_profile m a)

-- ---- both sides

-- the nearest window is the lesser of the nearest ones on both sides
pub record ProfilesAreOfBothSides : Type 0 where
  -- by any test of pairs that compares no window with itself
  pub any : (may : ℕ → ℕ → Bool) → IsIrreflexive may → (m : ℕ) (a : Series)
      → (profile may m a).all ≡ merged_column (profile may m a).left (profile may m a).right
  -- and so in the matrix profile
  pub own : (m : ℕ) (a : Series)
      → (matrix_profile m a).all ≡ merged_column (matrix_profile m a).left (matrix_profile m a).right

-- ---- from one series to another

-- the value of a tile: for each window of a the nearest of those of b that make a pair with it
abbrev pub join_tile_value : ℕ → Series → Series → List Tile → ℕ → Value
join_tile_value m a b tiles k =
    nearest_column (has_pair (windows_of m a - 1) (slice_index_or tiles k no_tile)) m a b ∷ []

-- the values of all tiles together
abbrev pub join_tiles_value : ℕ → Series → Series → List Tile → Value
join_tiles_value m a b tiles =
    merged_below merged_columns (empty_columns 1 (windows_of m a)) (join_tile_value m a b tiles) (length tiles)

-- they are the AB-join
pub record TilesMakeTheJoin : Type 0 where
  -- whatever tiles hold each pair once
  pub any : (m : ℕ) (a b : Series) (tiles : List Tile) → HoldEveryPairOnce (windows_of m a) (windows_of m b) tiles
      → join_tiles_value m a b tiles ≡ ab_join m a b ∷ []
  -- and so of the cut of all pairs, however wide its tiles are
  pub both : (m width : ℕ) (a b : Series) → 0 < width
      → join_tiles_value m a b (both_tiles (windows_of m a) (windows_of m b) width) ≡ ab_join m a b ∷ []
