-- Tiles that are drawn by workers which share what they find.
use Rattle.std.specs.Prelude.{◌≡◌, length, Option, IfSome}
use Rattle.mp_defs.specs.Series.{series_of}
use Rattle.mp_defs.specs.Profile.{Columns, matrix_profile}
use Rattle.mp_tiles.specs.Pieces.{OwnTiling, own_size, own_together, own_whole}
use Rattle.mp_tiles.specs.Sides.{Sided}
use Rattle.mp_workers.specs.Entries.{EntriesAt, EntriesState, entries_of, HasMore, IsWithinColumn}

-- the series of tiles
abbrev pub series_in : OwnTiling → EntriesState
series_in own = entries_of own.samples own.m

-- the tiles make the profile, and the entries are of their series
pub record AreShared (own : OwnTiling) (entries : Option EntriesAt) : Type 0 where
  pub together : own_together own ≡ own_whole own
  pub of_series : IfSome entries (λ e. e.series ≡ series_in own)

abbrev pub profile_of : OwnTiling → Columns
profile_of own = matrix_profile own.m (series_of own.samples)

-- nothing stands on either side that isn't in the profile
pub record AreWithinProfile (own : OwnTiling) (found : Sided) : Type 0 where
  pub size : length found.left ≡ own_size own
  pub left : IsWithinColumn (profile_of own).left found.left
  pub right : IsWithinColumn (profile_of own).right found.right

-- the new sides have what the old ones had, and nothing that isn't in the profile
pub record HaveMore (own : OwnTiling) (old new : Sided) : Type 0 where
  pub left : HasMore (profile_of own).left old.left new.left
  pub right : HasMore (profile_of own).right old.right new.right
  pub room : new.room ≡ old.room
