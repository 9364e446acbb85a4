-- The slots of windows at some successive lengths: of each window four, one for each length.
use Rattle.std.specs.Prelude.{◌≡◌, ℕ, zero, suc, ◌+◌, ◌*◌, ◌<◌, ◌≤◌, Bool, ◌&&◌, if◌then◌else◌, length}
use Rattle.std.specs.Prelude.{slice_index_or, Option, Some, None}
use Rattle.mp_defs.specs.Series.{Series, series_of}
use Rattle.mp_defs.specs.Window.{is_allowed, windows}
use Rattle.mp_defs.specs.Distance.{distance}
use Rattle.mp_defs.specs.Least.{at_distance}
use Rattle.mp_defs.specs.Profile.{column, matrix_profile, windows_of}
use Rattle.mp_partial.specs.Values.{Column}
use Rattle.mp_results.specs.Discords.{with_entry}
use Rattle.mp_scans.specs.Slots.{Covers}
use Rattle.mp_tiles.specs.Among.{either_way}
use Rattle.mp_tiles.specs.PatchScanning.{HasTakenFrom}
use Rattle.mp_tiles.specs.Scanning.{taken}
use Rattle.mp_pan.specs.declared.lengths.Lengths.{Lengths}
use Rattle.mp_pan.specs.declared.offers.AtLengths.{AtLengths}

-- the slots of so many windows at the k-th length
abbrev pub column_at : ℕ → ℕ → Column → Column
column_at w k slots = column (λ i. slice_index_or slots (4 * i + k) None) w

-- ---- one pair

-- windows i and j are offered to each other at the k-th length, where there is a distance
abbrev pub pair_put : ℕ → ℕ → ℕ → Option ℕ → Column → Column
pair_put k i j d slots = taken (taken slots (4 * i + k) (at_distance j d)) (4 * j + k) (at_distance i d)

-- their distance at a length, where they lie apart
abbrev pub distance_apart : ℕ → Series → ℕ → ℕ → Option ℕ
distance_apart length a i j = if is_allowed length i j then distance length a i a j else None

-- and so at the first n lengths from m on
unfoldable pub all_put : ℕ → ℕ → Series → ℕ → ℕ → Column → Column
all_put zero m a i j slots = slots
all_put (suc n) m a i j slots = pair_put n i j (distance_apart (m + n) a i j) (all_put n m a i j slots)

-- ---- scans

-- those of some pairs that lie apart at a length, whichever of them stands first
abbrev pub pairs_at : (ℕ → ℕ → Bool) → ℕ → ℕ → ℕ → Bool
pairs_at pairs length i j = either_way pairs i j && is_allowed length i j

-- at each of so many lengths from m on the windows have taken what these pairs give
pub record AreTakenAt (count m : ℕ) (a : Series) (pairs : ℕ → ℕ → Bool) (old new : Column) : Type 0 where
  pub places : length new ≡ length old
  pub each : (k : ℕ) → k < count → HasTakenFrom (pairs_at pairs (m + k)) (m + k) a a 0
      (column_at (windows_of m a) k old) (column_at (windows_of m a) k new)

-- there are slots for the windows of the one series that is meant
pub record FitsLengths (m : ℕ) (a b : Series) (into : AtLengths) : Type 0 where
  pub series : a ≡ series_of into.lengths.samples.now
  pub same : a ≡ b
  pub least : into.lengths.least ≡ m
  pub places : length into.slots.now ≡ 4 * windows_of m a

abbrev pub may_lengths : AtLengths → ℕ → ℕ → ℕ → Type 0
may_lengths into row column dist = (row < column) × (4 * column + 4 ≤ length into.slots.now)

-- the windows of each pair are offered to each other at each of the lengths, and all else is as it was
pub record IsScannedAt (m : ℕ) (a b : Series) (pairs : ℕ → ℕ → Bool) (old new : AtLengths) : Type 0 where
  pub slots : AreTakenAt old.lengths.count m a pairs old.slots.now new.slots.now
  pub lengths : new.lengths ≡ old.lengths
  pub same_slots : new.slots.ghost_name ≡ old.slots.ghost_name

-- window j, at this distance from window i at the least of the lengths, gives it nothing at any of them
abbrev pub keeps_at : Lengths → Column → ℕ → ℕ → ℕ → Type 0
keeps_at lengths slots i j d =
    distance lengths.least (series_of lengths.samples.now) i (series_of lengths.samples.now) j ≡ Some d
    → (k more : ℕ) → k < lengths.count
    → distance (lengths.least + k) (series_of lengths.samples.now) i (series_of lengths.samples.now) j ≡ Some more
    → Covers (slice_index_or slots (4 * i + k) None) j more

abbrev pub keeps_lengths : AtLengths → ℕ → ℕ → ℕ → Type 0
keeps_lengths into i j d = keeps_at into.lengths into.slots.now i j d

-- ---- profiles

-- at each of the lengths the windows with an entry are those of the matrix profile
abbrev pub ArePlaced : Lengths → Column → Type 0
ArePlaced lengths slots = (k : ℕ) → k < lengths.count
    → with_entry (column_at (windows (length lengths.samples.now) lengths.least) k slots)
    ≡ with_entry (matrix_profile (lengths.least + k) (series_of lengths.samples.now)).all
