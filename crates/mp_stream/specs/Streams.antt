-- What is seen of a stream, and what it keeps of its windows.
use Rattle.std.specs.Prelude.{◌≡◌, ℕ, ◌+◌, ◌-◌, ◌^◌, ◌<◌, min, List, [], ◌∷◌, ◌++◌, length, take, drop, Bool, true}
use Rattle.std.specs.Prelude.{false}
use Rattle.std.specs.Prelude.{slice_index_or, None, Some, ℤ}
use Rattle.mp_nums.specs.declared.samples.Sample.{Sample}
use Rattle.mp_defs.specs.Series.{series_of}
use Rattle.mp_defs.specs.Window.{is_free, windows}
use Rattle.mp_defs.specs.Least.{near}
use Rattle.mp_defs.specs.Profile.{matrix_profile}
use Rattle.mp_series.specs.Samples.{numbers_in}
use Rattle.mp_partial.specs.Values.{Column}
use Rattle.mp_stream.specs.Blocks.{AreKnown, numbered, renumbered}
use Rattle.mp_sums.specs.Ranges.{AreWithin, SumsFit}
use Rattle.mp_stream.specs.Limits.{AreLimits, limit_by}
use Rattle.mp_stream.specs.Offers.{IsReady}
use Rattle.mp_stream.specs.Rows.{HavePlaces, IsBefore, IsRow, IsTaken, distance_from, last_place, row_candidate}
use Rattle.mp_stream.specs.Rows.{offered_before, with_best}
use Rattle.mp_stream.specs.declared.profiles.GrowingProfile.{GrowingProfile}
use Rattle.mp_stream.specs.declared.narrow.Narrow.{Narrow}
use Rattle.mp_stream.specs.declared.wide.Wide.{Wide}

-- its samples, its window length, how often samples were read, how many more it can take without memory, and for each
-- block of windows whether it is marked
pub record Streamed : Type 0 where
  pub items : List Sample
  pub m : ℕ
  pub reads : ℕ
  pub spare : ℕ
  pub changed : List Bool

-- the nearest windows of those whose block isn't marked are known
abbrev pub IsKnown : Column → Streamed → Type 0
IsKnown known stream =
    AreKnown known (matrix_profile stream.m (series_of stream.items)).all stream.changed

-- a profile is that of some samples
pub record IsProfile (m : ℕ) (items : List Sample) (left right : Column) : Type 0 where
  pub left_is : left ≡ (matrix_profile m (series_of items)).left
  pub right_is : right ≡ (matrix_profile m (series_of items)).right

-- for how many more windows there is room
abbrev pub narrow_room : Narrow → ℕ
narrow_room narrow = min narrow.sums.spare narrow.next.spare

abbrev pub wide_room : Wide → ℕ
wide_room wide = min wide.sums.spare wide.next.spare

abbrev pub room_of : GrowingProfile → ℕ
room_of growing =
    min growing.entries.profile.spare (min growing.free.spare
    (min growing.entries.limits.spare (min (narrow_room growing.narrow) (wide_room growing.wide))))

-- the rows have a place for each of so many windows, whether they are used or not
pub record HaveRows (count : ℕ) (growing : GrowingProfile) : Type 0 where
  pub narrow : HavePlaces count growing.narrow.sums.items growing.narrow.next.items
  pub wide : HavePlaces count growing.wide.sums.items growing.wide.next.items

-- what is kept beside the nearest windows is that of the windows of some samples: which of them are free, from which
-- number up to which the samples reach, the limits of the right entries, and the sums of all windows with the last one:
-- in 64 bits only where these hold those of the range
pub record HasRowOf (m : ℕ) (items : List Sample) (growing : GrowingProfile) : Type 0 where
  pub frees : length growing.free.items ≡ windows (length items) m
  pub free : (i : ℕ) → i < windows (length items) m
      → slice_index_or growing.free.items i false ≡ is_free m (series_of items) i
  pub range : AreWithin growing.range (numbers_in items)
  pub limits : AreLimits (limit_by growing.is_narrow) growing.entries.profile.right growing.entries.limits.items
  pub rows : HaveRows (windows (length items) m) growing
  pub fits : growing.is_narrow ≡ true → SumsFit m 63 growing.range
  pub narrow : growing.is_narrow ≡ true → IsRow (numbers_in items) m (last_place m items) growing.narrow.sums.items
  pub wide : growing.is_narrow ≡ false → IsRow (numbers_in items) m (last_place m items) growing.wide.sums.items

-- the same, with the matrix profile of the samples, in 64 bits exactly there, as where there are no samples
pub record IsOf (m : ℕ) (items : List Sample) (growing : GrowingProfile) : Type 0 where
  pub first : growing.entries.profile.first ≡ None
  pub left : growing.entries.profile.left ≡ (matrix_profile m (series_of items)).left
  pub right : growing.entries.profile.right ≡ (matrix_profile m (series_of items)).right
  pub row : HasRowOf m items growing
  pub exact : SumsFit m 63 growing.range → growing.is_narrow ≡ true
  pub none : length items ≡ 0 → SumsFit m 63 growing.range

abbrev pub without_last : List Sample → List Sample
without_last items = take (length items - 1) items

-- ---- one window less

-- the first window is gone, and nothing else changed
pub record IsDropped (old new : GrowingProfile) : Type 0 where
  pub left : new.entries.profile.left ≡ drop 1 old.entries.profile.left
  pub right : new.entries.profile.right ≡ drop 1 old.entries.profile.right
  pub first : new.entries.profile.first ≡ Some (numbered old.entries.profile.first 1)
  pub free : new.free.items ≡ drop 1 old.free.items
  pub range : new.range ≡ old.range
  pub is_narrow : new.is_narrow ≡ old.is_narrow
  pub limits : new.entries.limits.items ≡ drop 1 old.entries.limits.items
  pub narrow : new.narrow.sums.items ≡ drop 1 old.narrow.sums.items
  pub wide : new.wide.sums.items ≡ drop 1 old.wide.sums.items
  pub narrow_next : new.narrow.next.items ≡ drop 1 old.narrow.next.items
  pub wide_next : new.wide.next.items ≡ drop 1 old.wide.next.items

-- ---- one window more

-- the last window has its places, without distances
pub record IsGrown (last_free : Bool) (before grown : GrowingProfile) : Type 0 where
  pub left : grown.entries.profile.left ≡ before.entries.profile.left ++ None ∷ []
  pub right : grown.entries.profile.right ≡ before.entries.profile.right ++ None ∷ []
  pub first : grown.entries.profile.first ≡ before.entries.profile.first
  pub free : grown.free.items ≡ before.free.items ++ last_free ∷ []
  pub range : grown.range ≡ before.range
  pub is_narrow : grown.is_narrow ≡ before.is_narrow
  pub limits : grown.entries.limits.items ≡ before.entries.limits.items ++ 2 ^ 63 ∷ []
  pub narrow : grown.narrow.sums.items ≡ before.narrow.sums.items ++ 0 ∷ []
  pub wide : grown.wide.sums.items ≡ before.wide.sums.items ++ 0 ∷ []
  pub narrow_next : length grown.narrow.next.items ≡ length before.narrow.next.items + 1
  pub wide_next : length grown.wide.next.items ≡ length before.wide.next.items + 1

-- before the last window, which has its places, everything stands, and it can be offered
pub record IsWaiting (m : ℕ) (xs : List ℤ) (last : ℕ) (growing : GrowingProfile) : Type 0 where
  pub frees : length growing.free.items ≡ last + 1
  pub range : AreWithin growing.range xs
  pub rows : HaveRows (last + 1) growing
  pub ready : IsReady (limit_by growing.is_narrow) last growing.entries
  pub fits : growing.is_narrow ≡ true → SumsFit m 63 growing.range
  pub narrow : growing.is_narrow ≡ true → IsBefore m xs last growing.narrow.sums.items growing.narrow.next.items
  pub wide : growing.is_narrow ≡ false → IsBefore m xs last growing.wide.sums.items growing.wide.next.items

-- the row in 64 bits is that of the last window, with the room that it had
pub record IsTurned (m : ℕ) (xs : List ℤ) (last : ℕ) (old new : Narrow) : Type 0 where
  pub row : IsRow xs m last new.sums.items
  pub places : HavePlaces (last + 1) new.sums.items new.next.items
  pub room : narrow_room new ≡ narrow_room old

-- the last window was offered to the windows before it, and the nearest of these to it, and a row is that of it
pub record IsOffered (m : ℕ) (xs : List ℤ) (last : ℕ) (last_free : Bool) (grown after : GrowingProfile) : Type 0 where
  pub right : IsTaken grown.free.items (distance_from m xs last) (numbered grown.entries.profile.first last) 0
      (offered_before last_free m last) grown.entries.profile.right after.entries.profile.right
  pub left : after.entries.profile.left ≡ with_best grown.entries.profile.left last
      (renumbered grown.entries.profile.first
      (near (row_candidate grown.free.items (distance_from m xs last)) (offered_before last_free m last)))
  pub first : after.entries.profile.first ≡ grown.entries.profile.first
  pub free : after.free ≡ grown.free
  pub range : after.range ≡ grown.range
  pub is_narrow : after.is_narrow ≡ grown.is_narrow
  pub limits : AreLimits (limit_by grown.is_narrow) after.entries.profile.right after.entries.limits.items
  pub rows : HaveRows (last + 1) after
  pub narrow : grown.is_narrow ≡ true → IsRow xs m last after.narrow.sums.items
  pub wide : grown.is_narrow ≡ false → IsRow xs m last after.wide.sums.items
