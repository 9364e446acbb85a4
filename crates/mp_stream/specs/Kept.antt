-- A series of which the last samples are kept, and the profile of the windows that lie in them.
use Rattle.std.specs.Prelude.{◌≡◌, ℕ, ◌+◌, ◌-◌, ◌^◌, min, List, length, drop}
use Rattle.mp_nums.specs.declared.samples.Sample.{Sample}
use Rattle.mp_defs.specs.Series.{series_of}
use Rattle.mp_defs.specs.Band.{first_kept, is_allowed_in, live_column}
use Rattle.mp_defs.specs.Profile.{entry, left_entry, right_entry}
use Rattle.mp_partial.specs.Values.{Column}
use Rattle.mp_stream.specs.declared.kept.Column.{Column as Asked}
use Rattle.mp_stream.specs.declared.kept.Column.TheVariants.{All, Left, Right}

-- the samples that are held, how many were ever appended, the window length, how many samples are held at most, the
-- columns of the live windows, and how often samples were read
pub record Keeping : Type 0 where
  pub held : List Sample
  pub count : ℕ
  pub m : ℕ
  pub keep : ℕ
  pub all : Column
  pub left : Column
  pub right : Column
  pub reads : ℕ

-- the last samples of a list, or all where there are fewer
abbrev pub last_samples : ℕ → List Sample → List Sample
last_samples keep samples = drop (first_kept keep (length samples)) samples

-- a store stands for a list of samples: it has as many, it holds the last ones, and the columns of the live windows are
-- those of the whole list
pub record StandsFor (samples : List Sample) (store : Keeping) : Type 0 where
  pub count : length samples ≡ store.count
  pub held : store.held ≡ last_samples store.keep samples
  pub all : store.all
      ≡ live_column (entry (is_allowed_in store.keep store.m) store.m (series_of samples)) store.keep store.m
      store.count
  pub left : store.left
      ≡ live_column (left_entry (is_allowed_in store.keep store.m) store.m (series_of samples)) store.keep store.m
      store.count
  pub right : store.right
      ≡ live_column (right_entry (is_allowed_in store.keep store.m) store.m (series_of samples)) store.keep store.m
      store.count

-- so many reads more, where the count stays at the greatest number of 128 bits
abbrev pub kept_after_reads : Keeping → ℕ → Keeping
kept_after_reads store n = record store { reads = min (store.reads + n) (2 ^ 128 - 1) }

-- a column of a store
abbrev pub column_of : Asked → Keeping → Column
column_of All store = store.all
column_of Left store = store.left
column_of Right store = store.right
