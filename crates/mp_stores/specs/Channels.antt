-- What a channel keeps of its arcs, and what it becomes as samples are added.
use Rattle.std.specs.Prelude.{◌≡◌, ℕ, ◌+◌, ◌*◌, ◌/◌, ◌<◌, ◌≤◌, List, [], ◌++◌, length, slice_index_or, Bool, false}
use Rattle.std.specs.Prelude.{Option, None}
use Rattle.mp_nums.specs.declared.nearest.Near.{Near}
use Rattle.mp_nums.specs.declared.samples.Sample.{Sample}
use Rattle.mp_defs.specs.Limits.{max_samples, min_window}
use Rattle.mp_defs.specs.Series.{series_of}
use Rattle.mp_defs.specs.Window.{windows}
use Rattle.mp_defs.specs.Profile.{matrix_profile}
use Rattle.mp_results.specs.Arcs.{index_of, indices_of}
use Rattle.mp_results.specs.Covering.{Covering, advanced}
use Rattle.mp_stores.specs.Stores.{Held, Open, Kept, Lazy, nothing}
use Rattle.mp_stream.specs.Blocks.{block_len}
use Rattle.mp_stream.specs.Kept.{Keeping, StandsFor}
use Rattle.mp_stream.specs.Streams.{IsKnown, Streamed}
use Rattle.mp_partial.specs.Values.{Column}

-- each window names its nearest one in the profile of the samples, of which there are not too many
pub record NameNearest (m : ℕ) (items : List Sample) (indices : List (Option ℕ)) : Type 0 where
  pub shortest : min_window ≤ m
  pub within : length items ≤ max_samples
  pub named : indices ≡ indices_of (matrix_profile m (series_of items)).all

-- no block of windows is marked
abbrev pub IsClear : List Bool → Type 0
IsClear changed = (block : ℕ) → slice_index_or changed block false ≡ false

-- the windows whose block isn't marked name their nearest ones in a profile
abbrev pub NameUnmarked : List (Option Near) → List Bool → List (Option ℕ) → Type 0
NameUnmarked column changed indices = (i : ℕ) → slice_index_or changed (i / block_len) false ≡ false
    → slice_index_or indices i None ≡ index_of (slice_index_or column i None)

-- the windows from first on and before end name their nearest ones in a profile, and the others what they named before
pub record IsNamed (column : List (Option Near)) (first end : ℕ) (old new : List (Option ℕ)) : Type 0 where
  pub as_long : length new ≡ length old
  pub within : (i : ℕ) → first ≤ i → i < end
      → slice_index_or new i None ≡ index_of (slice_index_or column i None)
  pub before : (i : ℕ) → i < first → slice_index_or new i None ≡ slice_index_or old i None
  pub behind : (i : ℕ) → end ≤ i → slice_index_or new i None ≡ slice_index_or old i None

-- the most reads by which so many samples more raise a count, of a channel of n samples
abbrev pub reads_for : ℕ → ℕ → ℕ → ℕ
reads_for m n more = more * (4 * (windows (n + more) m + m))

-- samples were added to a channel
pub record HasGrown (samples : List Sample) (old new : Streamed) : Type 0 where
  pub items_are : new.items ≡ old.items ++ samples
  pub window_is : new.m ≡ old.m
  pub rise : old.reads ≤ new.reads
  pub most_reads : new.reads ≤ old.reads + reads_for old.m (length old.items) (length samples)

-- what was known of the nearest windows of a stream is known of what it became
abbrev pub StaysKnown : Streamed → Streamed → Type 0
StaysKnown old new = (known : Column) → IsKnown known old → IsKnown known new

-- to each channel its own
pub record HaveGrown (added : List (List Sample)) (old new : List Streamed) : Type 0 where
  pub count : length new ≡ length old
  pub each : (k : ℕ) → k < length old
      → HasGrown (slice_index_or added k []) (slice_index_or old k nothing) (slice_index_or new k nothing)

-- samples were added to what is kept
pub record KeptHasGrown (samples : List Sample) (old new : Keeping) : Type 0 where
  pub stands : (before : List Sample) → StandsFor before old → StandsFor (before ++ samples) new
  pub keep_is : new.keep ≡ old.keep
  pub window_is : new.m ≡ old.m
  pub rise : old.reads ≤ new.reads
  pub most_reads : new.reads ≤ old.reads + length samples * (4 * (old.keep + old.m))

-- samples were added to a series whose profile is made in parts
pub record PartHasGrown (samples : List Sample) (old new : Covering) : Type 0 where
  pub items_are : new.items ≡ old.items ++ samples
  pub covered_are : new.covered ≡ old.covered
  pub window_is : new.m ≡ old.m
  pub rise : old.reads ≤ new.reads
  pub most_reads : new.reads ≤ old.reads + reads_for old.m (length old.items) (length samples)

-- and to a slot that isn't closed
abbrev pub HasGrownBy : List (List Sample) → Held → Held → Type 0
HasGrownBy added (Open old) (Open new) = HaveGrown added old new
HasGrownBy added (Kept old) (Kept new) = KeptHasGrown (slice_index_or added 0 []) old new
HasGrownBy added (Lazy old) (Lazy new) = PartHasGrown (slice_index_or added 0 []) old new
HasGrownBy added old new = ⊥

-- reads aside, the next diagonals of a series are covered, so many of them or all that are left
pub record PartHasAdvanced (count : ℕ) (old new : Covering) : Type 0 where
  pub items_are : new.items ≡ old.items
  pub covered_are : new.covered ≡ advanced old.m (windows (length old.items) old.m) count old.covered
  pub window_is : new.m ≡ old.m

-- and those of a slot
abbrev pub HasAdvanced : ℕ → Held → Held → Type 0
HasAdvanced count (Lazy old) (Lazy new) = PartHasAdvanced count old new
HasAdvanced count old new = ⊥
