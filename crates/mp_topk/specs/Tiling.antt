-- The tiles of a series as the pieces of a kernel that keeps ranks.
use Rattle.std.specs.Prelude.{◌≡◌, ℕ, ◌<◌, Bool, List, length, map, slice_index_or}
use Rattle.mp_defs.specs.Series.{Series, series_of}
use Rattle.mp_defs.specs.Window.{excl}
use Rattle.mp_defs.specs.Profile.{windows_of}
use Rattle.mp_partial.specs.Values.{Value, merged_below}
use Rattle.mp_cuts.specs.declared.cuts.Tile.{Tile}
use Rattle.mp_cuts.specs.Pairs.{has_pair, no_tile}
use Rattle.mp_cuts.specs.Cutting.{own_tiles}
use Rattle.mp_tiles.specs.Among.{either_way}
use Rattle.mp_tiles.specs.Pieces.{OwnTiling, own_size}
use Rattle.mp_results.specs.Ranks.{ranks_of}
use Rattle.mp_topk.specs.Ranking.{merged_ranks, no_ranks, slots_of}
use Rattle.mp_topk.specs.Taking.{lists_among}

-- the ranks that windows have by a test of pairs, as the value of a part
abbrev pub among_value : ℕ → (ℕ → ℕ → Bool) → ℕ → Series → Value
among_value k may m a = map slots_of (lists_among k may m a)

-- the value of a tile: the ranks by its pairs
abbrev pub tile_value : ℕ → ℕ → Series → List Tile → ℕ → Value
tile_value k m a tiles n = among_value k (either_way (has_pair 0 (slice_index_or tiles n no_tile))) m a

-- the values of all tiles together
abbrev pub tiles_value : ℕ → ℕ → Series → List Tile → Value
tiles_value k m a tiles =
    merged_below (merged_ranks k) (no_ranks (windows_of m a)) (tile_value k m a tiles) (length tiles)

-- of the cut outside the exclusion zone they are the ranks of the windows, however wide its tiles are
abbrev pub TilesMakeTheRanks : Type 0
TilesMakeTheRanks = (k m width : ℕ) (a : Series) → 0 < width
    → tiles_value k m a (own_tiles (windows_of m a) (excl m) width) ≡ map slots_of (ranks_of k m a)

-- the value of piece n
abbrev pub rank_value : ℕ → OwnTiling → ℕ → Value
rank_value k own n = tile_value k own.m (series_of own.samples) own.tiles n

-- the values of all pieces together
abbrev pub ranks_together : ℕ → OwnTiling → Value
ranks_together k own =
    merged_below (merged_ranks k) (no_ranks (own_size own)) (rank_value k own) (length own.tiles)

-- the ranks of all windows
abbrev pub ranks_whole : ℕ → OwnTiling → Value
ranks_whole k own = map slots_of (ranks_of k own.m (series_of own.samples))
