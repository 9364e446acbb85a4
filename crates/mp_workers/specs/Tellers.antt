-- Workers that tell each other what they find as soon as they find it.
use Rattle.std.specs.Prelude.{◌≡◌, ℕ, ◌+◌, ◌<◌, ◌≤◌, [], ◌∷◌, Bool, true, Option, Some, None, slice_index_or, ◌⊎◌}
use Rattle.mp_nums.specs.declared.nearest.Near.{Near}
use Rattle.mp_nums.specs.Near.{comes_before, nearer_of}
use Rattle.mp_defs.specs.Series.{Series, series_of}
use Rattle.mp_defs.specs.Window.{is_allowed, excl}
use Rattle.mp_defs.specs.Distance.{distance}
use Rattle.mp_defs.specs.Least.{near_at}
use Rattle.mp_defs.specs.Profile.{windows_of}
use Rattle.mp_partial.specs.Values.{Column}
use Rattle.mp_tiles.specs.Compact.{slot_of_word}
use Rattle.mp_workers.specs.declared.entries.EntriesView.{EntriesView}
use Rattle.mp_workers.specs.Entries.{AreEntries, EntriesAt, EntriesState, Told, count_of, no_word, whole_of}
use Rattle.atomic_table.specs.Seated.{TableId}
use Rattle.atomic_table.specs.Table.{Me}

-- the table of the words, the series that they are of, and what the worker knows of them
pub record TellerState : Type 0 where
  pub table : TableId
  pub series : EntriesState
  pub told : Told

-- a hold: the table that it is of, the whole of what may stand there, and what is known by it
pub record HoldState : Type 0 where
  pub table : TableId
  pub whole : Column
  pub told : Told

-- it is of these entries
pub record IsHold (entries : EntriesAt) (hold : HoldState) : Type 0 where
  pub table_is : hold.table ≡ entries.table
  pub whole_is : hold.whole ≡ whole_of entries.series

-- the seat is at the table, which has a word for each window and side, and takes no slot
pub record IsTeller (table : TableId) (key : EntriesState) (of : TableId) (me : Me (Unit {0}) EntriesView)
    (count apart : ℕ) : Type 0 where
  pub of_table : of ≡ table
  pub slots : me.1 ≡ []
  pub whole : me.0.whole ≡ whole_of key
  pub entries : AreEntries table.words key
  pub count_is : count ≡ count_of key
  pub apart_is : apart ≡ excl key.m + 1

-- the first comes before the other one, or is the same. None comes after all
abbrev pub IsNoLater : Option Near → Option Near → Type 0
IsNoLater a b = nearer_of a b ≡ a

-- a word that is told of a place tells a window that comes no later
abbrev pub IsTold : Told → ℕ → Near → Type 0
IsTold [] place near = ⊥
IsTold (fact ∷ rest) place near =
    ((fact.0 ≡ place) × ((fact.1 ≤ no_word) × IsNoLater (slot_of_word fact.1) (Some near)))
    ⊎ IsTold rest place near

-- every window of the whole is told of
abbrev pub IsWholeTold : EntriesState → Told → Type 0
IsWholeTold s told = (place : ℕ) (near : Near) → slice_index_or (whole_of s) place None ≡ Some near
    → IsTold told place near

-- what stands in a slot comes before window j at a distance
abbrev pub ComesBefore : Option Near → ℕ → ℕ → Type 0
ComesBefore None j d = ⊥
ComesBefore (Some near) j d = comes_before near (near_at j d) ≡ true

-- window j at a distance is told of at a place, or what stands there in the whole comes before it
abbrev pub IsKnown : Told → Column → ℕ → ℕ → ℕ → Type 0
IsKnown told whole place j d = IsTold told place (near_at j d) ⊎ ComesBefore (slice_index_or whole place None) j d

-- a distance that a word holds, and more
abbrev pub most_told : ℕ
most_told = 70368744177663

-- the distances of a series fit words
abbrev pub AreShort : ℕ → Series → Type 0
AreShort m a = (i j d : ℕ) → distance m a i a j ≡ Some d → d < most_told

-- the words are of this series, with itself, and its distances fit them
pub record FitsTeller (m : ℕ) (a b : Series) (teller : TellerState) : Type 0 where
  pub window : m ≡ teller.series.m
  pub rows : a ≡ series_of teller.series.samples
  pub columns : b ≡ series_of teller.series.samples
  pub short : AreShort teller.series.m (series_of teller.series.samples)

-- a row and a column of the series are at this distance, which fits a word
pub record MayTell (teller : TellerState) (row column d : ℕ) : Type 0 where
  pub order : row < column
  pub place : column < count_of teller.series
  pub is : distance teller.series.m (series_of teller.series.samples) row (series_of teller.series.samples) column
      ≡ Some d
  pub short : d < most_told

-- what a worker knows that knew less, of pairs of windows that are compared
pub record AreTold (m : ℕ) (a b : Series) (pairs : ℕ → ℕ → Bool) (old new : TellerState) : Type 0 where
  pub table : new.table ≡ old.table
  pub series : new.series ≡ old.series
  pub more : (place : ℕ) (near : Near) → IsTold old.told place near → IsTold new.told place near
  pub right : (i j d : ℕ) → i < windows_of m a → j < windows_of m b → pairs i j ≡ true
      → is_allowed m i j ≡ true → distance m a i b j ≡ Some d
      → IsKnown new.told (whole_of old.series) (count_of old.series + i) j d
  pub left : (i j d : ℕ) → i < windows_of m a → j < windows_of m b → pairs i j ≡ true
      → is_allowed m i j ≡ true → distance m a i b j ≡ Some d → IsKnown new.told (whole_of old.series) j i d

-- a column at a distance gives the row nothing
abbrev pub keeps_row_told : TellerState → ℕ → ℕ → ℕ → Type 0
keeps_row_told teller i j d =
    ComesBefore (slice_index_or (whole_of teller.series) (count_of teller.series + i) None) j d

-- a row at a distance gives the column nothing
abbrev pub keeps_column_told : TellerState → ℕ → ℕ → ℕ → Type 0
keeps_column_told teller j i d = ComesBefore (slice_index_or (whole_of teller.series) j None) i d
