-- What a scan makes of what keeps the nearest windows.
use Rattle.std.specs.Prelude.{◌≡◌, ℕ, Bool, length, slice_index_or, slice_set, Option, None}
use Rattle.mp_nums.specs.declared.nearest.Near.{Near}
use Rattle.mp_nums.specs.Near.{nearer_of}
use Rattle.mp_defs.specs.Series.{Series}
use Rattle.mp_partial.specs.Values.{Column, merged_column}
use Rattle.mp_partial.specs.Profiled.{Profiled}
use Rattle.mp_tiles.specs.Among.{profile_among}
use Rattle.mp_tiles.specs.Sides.{Sided, HaveSides, sides_of}

-- the profile has so many windows
pub record HasPlaces (w : ℕ) (p : Profiled) : Type 0 where
  pub all : length p.all ≡ w
  pub sides : HaveSides w (sides_of p)

-- the new sides are the old ones with what these pairs give, in the same memory
pub record AreSided (pairs : ℕ → ℕ → Bool) (m : ℕ) (a : Series) (old new : Sided) : Type 0 where
  pub left : new.left ≡ merged_column old.left (profile_among pairs m a).left
  pub right : new.right ≡ merged_column old.right (profile_among pairs m a).right
  pub room : new.room ≡ old.room

-- the new profile is the old one with what these pairs give
pub record IsScanned (pairs : ℕ → ℕ → Bool) (m : ℕ) (a : Series) (old new : Profiled) : Type 0 where
  pub all : new.all ≡ merged_column old.all (profile_among pairs m a).all
  pub sides : AreSided pairs m a (sides_of old) (sides_of new)
  pub spare : new.spare ≡ old.spare

-- place i takes a window that may be there
abbrev pub taken : Column → ℕ → Option Near → Column
taken old i found = slice_set old i (nearer_of (slice_index_or old i None) found)
