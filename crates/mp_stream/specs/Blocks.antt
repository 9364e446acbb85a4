-- Blocks of windows, which are marked where an entry may have changed.
use Rattle.std.specs.Prelude.{◌≡◌, ℕ, ◌+◌, ◌/◌, List, Bool, false, length, slice_index_or, Option, Some}
use Rattle.std.specs.Prelude.{None}
use Rattle.mp_nums.specs.declared.nearest.Near.{Near}
use Rattle.mp_partial.specs.Values.{Column}

-- how many windows are marked together
abbrev pub block_len : ℕ
block_len = 32

-- how many blocks so many windows fill, the last one perhaps in part
abbrev pub block_count : ℕ → ℕ
block_count windows = (windows + 31) / block_len

-- what is seen of the columns of some windows: for how many more windows there is room, for each block whether it is
-- marked, and the number of the first window, where there were others before it
pub record Marked : Type 0 where
  pub all : Column
  pub left : Column
  pub right : Column
  pub spare : ℕ
  pub changed : List Bool
  pub first : Option ℕ

-- the number of the window at a place, by that of the first window
abbrev pub numbered : Option ℕ → ℕ → ℕ
numbered None place = place
numbered (Some first) place = first + place

-- a window that was found at a place, by its number
abbrev pub renumbered : Option ℕ → Option Near → Option Near
renumbered first None = None
renumbered first (Some found) = Some (record { dist = found.dist; index = numbered first found.index })

-- the entries of each window whose block isn't marked are known
pub record AreKnown (known column : Column) (changed : List Bool) : Type 0 where
  pub each : (i : ℕ) → slice_index_or changed (i / block_len) false ≡ false
      → slice_index_or column i None ≡ slice_index_or known i None

-- what was known of a profile is known of what it became
abbrev pub StayKnown : Marked → Marked → Type 0
StayKnown old new = (known : Column) → AreKnown known old.all old.changed → AreKnown known new.all new.changed

-- a profile has a place for each window in each column, and a mark for each block of them
pub record AreMarked (all left right : Column) (changed : List Bool) : Type 0 where
  pub blocks : length changed ≡ block_count (length all)
  pub left_places : length left ≡ length all
  pub right_places : length right ≡ length all
