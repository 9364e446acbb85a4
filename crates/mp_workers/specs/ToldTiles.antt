-- Tiles whose pairs workers tell each other of as soon as they find them.
use Rattle.std.specs.Prelude.{◌≡◌, ℕ, ◌+◌, ◌<◌, ◌≤◌, Bool, true, Some, slice_index_or}
use Rattle.mp_defs.specs.Series.{series_of}
use Rattle.mp_defs.specs.Window.{is_allowed}
use Rattle.mp_defs.specs.Distance.{distance}
use Rattle.mp_cuts.specs.Pairs.{has_pair, no_tile}
use Rattle.mp_tiles.specs.Pieces.{OwnTiling}
use Rattle.mp_workers.specs.Entries.{EntriesAt, EntriesState, Told, count_of, whole_of}
use Rattle.mp_workers.specs.SharedTiles.{series_in}
use Rattle.mp_workers.specs.Tellers.{AreShort, IsKnown}

-- the pairs of a piece
abbrev pub pairs_in : OwnTiling → ℕ → ℕ → ℕ → Bool
pairs_in own piece = has_pair 0 (slice_index_or own.tiles piece no_tile)

-- what its pairs that are compared give is known
pub record IsPieceTold (own : OwnTiling) (told : Told) (piece : ℕ) : Type 0 where
  pub right : (i j d : ℕ) → i < count_of (series_in own) → j < count_of (series_in own)
      → pairs_in own piece i j ≡ true → is_allowed own.m i j ≡ true
      → distance own.m (series_of own.samples) i (series_of own.samples) j ≡ Some d
      → IsKnown told (whole_of (series_in own)) (count_of (series_in own) + i) j d
  pub left : (i j d : ℕ) → i < count_of (series_in own) → j < count_of (series_in own)
      → pairs_in own piece i j ≡ true → is_allowed own.m i j ≡ true
      → distance own.m (series_of own.samples) i (series_of own.samples) j ≡ Some d
      → IsKnown told (whole_of (series_in own)) j i d

-- entries are of the tiles' series, whose distances fit words, and which has a window
pub record AreToldOf (own : OwnTiling) (series : EntriesState) : Type 0 where
  pub series_is : series ≡ series_in own
  pub short : AreShort own.m (series_of own.samples)
  pub some : 1 ≤ count_of (series_in own)

-- the tiles as pieces, and the entries in which workers tell each other what they find
pub record ToldTiling : Type 0 where
  pub own : OwnTiling
  pub entries : EntriesAt
