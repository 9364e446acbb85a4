-- What a store keeps of the windows that lie in the last samples.
use Rattle.std.specs.Prelude.{◌≡◌, ℕ, ◌+◌, ◌-◌, ◌<◌, ◌≤◌, List, [], ◌∷◌, ◌++◌, length, Some, None}
use Rattle.mp_nums.specs.declared.samples.Sample.{Sample}
use Rattle.mp_defs.specs.Limits.{min_window, max_window, max_samples}
use Rattle.mp_defs.specs.Series.{series_of}
use Rattle.mp_defs.specs.Window.{is_free, windows}
use Rattle.mp_defs.specs.Least.{near}
use Rattle.mp_series.specs.HeldSamples.{Held}
use Rattle.mp_series.specs.Samples.{numbers_in}
use Rattle.mp_stream.specs.Blocks.{numbered, renumbered}
use Rattle.mp_stream.specs.Limits.{AllStartAtMost}
use Rattle.mp_stream.specs.Rows.{IsTaken, distance_from, last_place, offered_before, row_candidate, with_best}
use Rattle.mp_defs.specs.Limits.{max_appended}
use Rattle.mp_stream.specs.Streams.{HasRowOf, room_of}
use Rattle.mp_stream.specs.declared.profiles.GrowingProfile.{GrowingProfile}

-- what is kept is that of the windows of the held samples, before which so many were dropped
pub record IsOfLast (m : ℕ) (held : List Sample) (dropped : ℕ) (growing : GrowingProfile) : Type 0 where
  pub first : growing.entries.profile.first ≡ Some dropped
  pub lefts : length growing.entries.profile.left ≡ windows (length held) m
  pub rights : length growing.entries.profile.right ≡ windows (length held) m
  pub starts : AllStartAtMost (dropped + windows (length held) m) growing.entries.profile.right
  pub row : HasRowOf m held growing

-- how many windows the last one of the held samples is offered to
abbrev pub offered_in : ℕ → List Sample → ℕ
offered_in m held = offered_before (is_free m (series_of held) (last_place m held)) m (last_place m held)

-- the last window of the held samples was added, and offered to the windows before it, and the nearest of these to it
pub record IsAdded (m : ℕ) (held : List Sample) (old new : GrowingProfile) : Type 0 where
  pub right : IsTaken new.free.items (distance_from m (numbers_in held) (last_place m held))
      (numbered old.entries.profile.first (last_place m held)) 0 (offered_in m held)
      (old.entries.profile.right ++ None ∷ []) new.entries.profile.right
  pub left : new.entries.profile.left ≡ with_best (old.entries.profile.left ++ None ∷ []) (last_place m held)
      (renumbered old.entries.profile.first
      (near (row_candidate new.free.items (distance_from m (numbers_in held) (last_place m held))) (offered_in m held)))

-- held samples were read, and no more than so often
pub record OnlyRingReads (most : ℕ) (old new : Held) : Type 0 where
  pub items : new.items ≡ old.items
  pub capacity : new.capacity ≡ old.capacity
  pub dropped : new.dropped ≡ old.dropped
  pub reads_rise : old.reads ≤ new.reads
  pub reads : new.reads ≤ old.reads + most

-- how many of the held samples are dropped when the next one comes
abbrev pub leaving : ℕ → List Sample → ℕ
leaving keep held = length held + 1 - keep

-- a store's ring and what it keeps of its windows go together: there is room for all windows of as many samples as are
-- kept
pub record IsKept (m keep : ℕ) (ring : Held) (growing : GrowingProfile) : Type 0 where
  pub shortest : min_window ≤ m
  pub longest : m ≤ max_window
  pub least : m ≤ keep
  pub greatest : keep ≤ max_samples
  pub capacity : ring.capacity ≡ keep
  pub held : length ring.items ≤ keep
  pub dropped : length ring.items < keep → ring.dropped ≡ 0
  pub appended : length ring.items + ring.dropped ≤ max_appended
  pub is_of : IsOfLast m ring.items ring.dropped growing
  pub room : windows keep m ≤ windows (length ring.items) m + room_of growing
