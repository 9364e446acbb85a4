-- What is kept of a series of which some diagonals are covered.
use Rattle.std.specs.Prelude.{◌≡◌, ℕ, ◌+◌, ◌-◌, ◌<◌, ◌≤◌, List, Bool, length, slice_index}
use Rattle.std.specs.Prelude.{All}
use Rattle.std.specs.Prelude.{◌==◌, ◌&&◌, take, true, false, min, [], ◌∷◌, ◌++◌, None}
use Rattle.std.specs.Int.{abs_diff}
use Rattle.mp_nums.specs.declared.samples.Sample.{Sample}
use Rattle.mp_defs.specs.Series.{Series, series_of}
use Rattle.mp_defs.specs.Distance.{squared_difference}
use Rattle.mp_defs.specs.Window.{excl, windows}
use Rattle.mp_series.specs.Samples.{Counted}
use Rattle.mp_partial.specs.Profiled.{Profiled}
use Rattle.mp_sums.specs.Sums.{IsSum, numbers_of}
use Rattle.mp_results.specs.Covering.{is_covered}
use Rattle.mp_results.specs.LazyProfile.{lazy_profile}
use Rattle.mp_series.specs.Samples.{numbers_in}
use Rattle.mp_sums.specs.Ranges.{AreWithin}
use Rattle.mp_tiles.specs.Scanning.{HasPlaces as HasEntries, IsScanned}
use Rattle.mp_anytime.specs.Limits.{AreLimits}
use Rattle.mp_anytime.specs.Sums.{HavePlaces, room_of as sums_room, sum_in}
use Rattle.mp_anytime.specs.declared.sums.Sums.{Sums}
use Rattle.mp_anytime.specs.Waiting.{AreWaiting, IsCounted}
use Rattle.mp_anytime.specs.declared.coverage.Coverage.{Coverage}

-- the sum of windows i and j of a series, in which a missing sample counts as 0
abbrev pub IsSumAt : ℕ → Series → ℕ → ℕ → ℕ → Type 0
IsSumAt m a i j sum = IsSum m (numbers_of a) i (numbers_of a) j sum

-- the squared difference of samples i and j
abbrev pub square_at : Series → ℕ → ℕ → ℕ
square_at a i j = squared_difference (numbers_of a i) (numbers_of a j)

-- for each of some diagonals the sum of its pair with window j
pub record AreSums (m : ℕ) (a : Series) (covered : List ℕ) (j : ℕ) (sums : Sums) : Type 0 where
  pub each : (k : ℕ) → k < length covered
      → IsSumAt m a (j - slice_index covered k) j (sum_in sums (slice_index covered k))

-- no diagonal comes twice
pub record AreDistinct (covered : List ℕ) : Type 0 where
  pub each : (k : ℕ) → k < length covered → is_covered (take k covered) (slice_index covered k) ≡ false

-- the place of the last window
abbrev pub last_place : ℕ → List Sample → ℕ
last_place m items = windows (length items) m - 1

-- a diagonal lies behind the exclusion zone, and two of w windows start so far apart
abbrev pub IsDiagonal : ℕ → ℕ → ℕ → Type 0
IsDiagonal m w diagonal = (excl m < diagonal) × (diagonal < w)

-- a profile is that of the pairs of the covered diagonals
pub record IsAlongCovered (m : ℕ) (items : List Sample) (covered : List ℕ) (profile : Profiled) : Type 0 where
  pub left : profile.left ≡ (lazy_profile m covered (series_of items)).left
  pub right : profile.right ≡ (lazy_profile m covered (series_of items)).right

-- what is listed of the covered diagonals is of these samples
pub record IsListed (m : ℕ) (items : List Sample) (coverage : Coverage) : Type 0 where
  pub diagonals : All (IsDiagonal m (windows (length items) m)) coverage.covered.items
  pub distinct : AreDistinct coverage.covered.items
  pub lasts : AreSums m (series_of items) coverage.covered.items (last_place m items) coverage.sums
  pub places : HavePlaces (windows (length items) m) coverage.sums
  pub limits_are : length coverage.limits.items ≡ windows (length items) m
  pub range : 0 < length coverage.covered.items → AreWithin coverage.range (numbers_in items)
  pub waiting : AreWaiting m (windows (length items) m) coverage.covered.items coverage.waiting

-- and so is the profile, and no diagonal is covered twice
pub record IsOf (m : ℕ) (items : List Sample) (coverage : Coverage) : Type 0 where
  pub listed : IsListed m items coverage
  pub counted : IsCounted m (windows (length items) m) coverage.covered.items
  pub profile : IsAlongCovered m items coverage.covered.items coverage.profile
  pub limits : coverage.are_limits_known ≡ true → AreLimits coverage.profile.right coverage.limits.items

-- samples were read, and no more than so often
pub record OnlyReads (most : ℕ) (old new : Counted) : Type 0 where
  pub items : new.items ≡ old.items
  pub spare : new.spare ≡ old.spare
  pub reads_rise : old.reads ≤ new.reads
  pub reads : new.reads ≤ old.reads + most

-- windows i and j are the last one and one before it, on a covered diagonal
abbrev pub is_last_pair : List ℕ → ℕ → ℕ → ℕ → Bool
is_last_pair covered last i j = (j == last) && is_covered covered (abs_diff i j)

-- for how many more samples there is room
abbrev pub room_of : Coverage → ℕ
room_of coverage = min coverage.profile.spare (min coverage.limits.spare (sums_room coverage.sums))

abbrev pub without_last : List Sample → List Sample
without_last items = take (length items - 1) items

-- a window was added at the last place, whose pairs are still to be taken
pub record IsWaiting (m : ℕ) (items : List Sample) (last : ℕ) (coverage : Coverage) : Type 0 where
  pub within : last + m ≡ length items
  pub diagonals : All (IsDiagonal m last) coverage.covered.items
  pub distinct : AreDistinct coverage.covered.items
  pub lasts : AreSums m (series_of items) coverage.covered.items (last - 1) coverage.sums
  pub places : HavePlaces (last + 1) coverage.sums
  pub limits_are : length coverage.limits.items ≡ last + 1
  pub range : 0 < length coverage.covered.items → AreWithin coverage.range (numbers_in items)
  pub waits : AreWaiting m (last + 1) coverage.covered.items coverage.waiting
  pub windows_are : HasEntries (last + 1) coverage.profile
  pub limits : coverage.are_limits_known ≡ true → AreLimits coverage.profile.right coverage.limits.items

-- its pairs on covered diagonals were taken
pub record IsExtended (m : ℕ) (items : List Sample) (last : ℕ) (old new : Coverage) : Type 0 where
  pub covered : new.covered.items ≡ old.covered.items
  pub waiting : new.waiting ≡ old.waiting
  pub range : new.range ≡ old.range
  pub lasts : AreSums m (series_of items) old.covered.items last new.sums
  pub places : HavePlaces (last + 1) new.sums
  pub limits_are : length new.limits.items ≡ last + 1
  pub scanned : IsScanned (is_last_pair old.covered.items last) m (series_of items) old.profile new.profile
  pub limits : new.are_limits_known ≡ true → AreLimits new.profile.right new.limits.items

-- a window was added that has no pairs yet
pub record IsGrown (m : ℕ) (old new : Coverage) : Type 0 where
  pub covered : new.covered.items ≡ old.covered.items
  pub range : new.range ≡ old.range
  pub left : new.profile.left ≡ old.profile.left ++ None ∷ []
  pub right : new.profile.right ≡ old.profile.right ++ None ∷ []
  pub windows_are : HasEntries (length old.profile.left + 1) new.profile
  pub places : HavePlaces (length old.profile.left + 1) new.sums
  pub sums : (d : ℕ) → d < length old.profile.left → sum_in new.sums d ≡ sum_in old.sums d
  pub limits_are : length new.limits.items ≡ length old.limits.items + 1
  pub known : new.are_limits_known ≡ old.are_limits_known
  pub limits : AreLimits old.profile.right old.limits.items → AreLimits new.profile.right new.limits.items
  pub waits : (covered : List ℕ) → is_covered covered (length old.profile.left) ≡ false
      → AreWaiting m (length old.profile.left) covered old.waiting
      → AreWaiting m (length old.profile.left + 1) covered new.waiting
