-- Entries that workers share.
use Rattle.std.specs.Prelude.{◌≡◌, ℕ, ◌<◌, ◌≤◌, ◌++◌, List, [], ◌∷◌, length, slice_index, slice_index_or, Option, None}
use Rattle.std.specs.Prelude.{⊤}
use Rattle.mp_nums.specs.declared.nearest.Near.{Near}
use Rattle.mp_nums.specs.declared.samples.Sample.{Sample}
use Rattle.mp_nums.specs.Near.{nearer_of}
use Rattle.mp_defs.specs.Series.{series_of}
use Rattle.mp_defs.specs.Window.{windows}
use Rattle.mp_defs.specs.Profile.{matrix_profile}
use Rattle.mp_partial.specs.Values.{Column, merged_column}
use Rattle.mp_series.specs.declared.limits.TheConstants.{MAX_SAMPLES}
use Rattle.mp_tiles.specs.Compact.{slot_of_word}
use Rattle.mp_workers.specs.declared.entries.EntriesView.{EntriesView}
use Rattle.atomic_table.specs.Seated.{TableId}
use Rattle.atomic_table.specs.Table.{State, Me, Step}
use lib.ListN.{get_elem?}
use mathlib.Core.Option.{some}

-- the word that tells no window: 2^64 - 1
abbrev pub no_word : ℕ
no_word = 18446744073709551615

-- the series that entries are of, and the length of a window
pub record EntriesState : Type 0 where
  pub samples : List Sample
  pub m : ℕ

-- entries: the table of their words, and their series
pub record EntriesAt : Type 0 where
  pub table : TableId
  pub series : EntriesState

abbrev pub entries_of : List Sample → ℕ → EntriesState
entries_of samples m = record { samples = samples; m = m }

-- for each window the nearest one before it
abbrev pub left_of : EntriesState → Column
left_of s = (matrix_profile s.m (series_of s.samples)).left

-- and behind it
abbrev pub right_of : EntriesState → Column
right_of s = (matrix_profile s.m (series_of s.samples)).right

-- the number of windows
abbrev pub count_of : EntriesState → ℕ
count_of s = windows (length s.samples) s.m

-- both sides, one behind the other
abbrev pub whole_of : EntriesState → Column
whole_of s = left_of s ++ right_of s

-- places with words that those which stand there are at most
abbrev pub Told : Type 0
Told = List (ℕ × ℕ)

-- what a worker knows that has told nothing yet
abbrev pub view_of : EntriesState → EntriesView
view_of s = record { whole = whole_of s; told = [] }

-- and one that knows a word more
abbrev pub with_word : EntriesView → ℕ → ℕ → EntriesView
with_word view place word = record { whole = view.whole; told = (place, word) ∷ view.told }

-- the window that a word tells isn't nearer than the one in a slot, and where it is as near it starts no earlier
abbrev pub IsWithin : ℕ → Option Near → Type 0
IsWithin word slot = nearer_of (slot_of_word word) slot ≡ slot

-- there is a word for each place of the whole, which is within what stands there
pub record AreWithin (whole : Column) (words : List ℕ) : Type 0 where
  pub places : length words ≡ length whole
  pub each : (k : ℕ) → k < length whole → IsWithin (slice_index words k) (slice_index_or whole k None)

-- what is told of words holds of them
abbrev pub HoldOf : List ℕ → Told → Type 0
HoldOf words [] = ⊤
HoldOf words (fact ∷ rest) = (slice_index words fact.0 ≤ fact.1) × HoldOf words rest

-- a word is at most all that is told of its place
abbrev pub IsAtMost : ℕ → ℕ → Told → Type 0
IsAtMost word place [] = ⊤
IsAtMost word place (fact ∷ rest) = (fact.0 ≡ place → word ≤ fact.1) × IsAtMost word place rest

-- the words are within the whole, and what any worker knows holds of them
pub record AreEntriesOf (s : EntriesState) (entries : State (Unit {0}) EntriesView) : Type 0 where
  pub within : AreWithin (whole_of s) entries.words
  pub told : (seat : ℕ) (view : EntriesView) → get_elem? entries.views seat ≡ some view
      → HoldOf entries.words view.told

-- the table has a word for each window and side
pub record AreEntries (words : ℕ) (s : EntriesState) : Type 0 where
  pub words_are : words ≡ length (whole_of s)
  pub least : 1 ≤ s.m
  pub few : length s.samples ≤ MAX_SAMPLES

-- ---- what the steps do

-- the word found is within what stands at its place
pub record Finds (step : Step (Unit {0})) (before : Me (Unit {0}) EntriesView) (found : ℕ)
    (after : Me (Unit {0}) EntriesView) : Type 0 where
  pub within : IsWithin found (slice_index_or before.0.whole step.word None)
  pub same : after ≡ before

-- it is, and at most what the worker knew of it. The worker knows it then
pub record Looks (step : Step (Unit {0})) (before : Me (Unit {0}) EntriesView) (found : ℕ)
    (after : Me (Unit {0}) EntriesView) : Type 0 where
  pub within : IsWithin found (slice_index_or before.0.whole step.word None)
  pub least : IsAtMost found step.word before.0.told
  pub view : after.0 ≡ with_word before.0 step.word found
  pub slots : after.1 ≡ before.1

-- a worker that lowers a word knows that it is at most the new one
pub record Lowers (step : Step (Unit {0})) (before : Me (Unit {0}) EntriesView) (found : ℕ)
    (after : Me (Unit {0}) EntriesView) : Type 0 where
  pub view : after.0 ≡ with_word before.0 step.word step.first
  pub slots : after.1 ≡ before.1

-- what one worker knows as before, and another one like it
abbrev pub still_told : EntriesView → EntriesView
still_told view = view

-- what two workers know
abbrev pub both_told : EntriesView → EntriesView → EntriesView
both_told view other = record { whole = view.whole; told = view.told ++ other.told }

-- and what one knows that is no more
abbrev pub nothing_told : EntriesView
nothing_told = record { whole = []; told = [] }

-- ---- what a worker has found

-- nothing stands in a column that isn't in the whole one
abbrev pub IsWithinColumn : Column → Column → Type 0
IsWithinColumn whole column = merged_column column whole ≡ whole

-- the new column has what the old one had, and nothing that isn't in the whole one
pub record HasMore (whole old new : Column) : Type 0 where
  pub within : IsWithinColumn whole new
  pub more : merged_column new old ≡ new
  pub places : length new ≡ length old
