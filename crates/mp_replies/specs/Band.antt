-- The windows of a series of which the last samples are kept, and their columns.
use Rattle.std.specs.Prelude.{ℕ, Bool, ◌||◌, nat_le, nat_lt, length}
use Rattle.mp_defs.specs.Series.{Series}
use Rattle.mp_defs.specs.Window.{windows}
use Rattle.mp_defs.specs.Band.{first_kept, is_allowed_in, live_column}
use Rattle.mp_defs.specs.Profile.{Columns, entry, left_entry, right_entry}

-- no live window starts there
abbrev pub is_dropped : ℕ → ℕ → ℕ → ℕ → Bool
is_dropped keep m count start = nat_lt start (first_kept keep count) || nat_le (windows count m) start

-- the columns of the live windows of a series
abbrev pub live_profile : ℕ → ℕ → Series → Columns
live_profile keep m a = record {
  all = live_column (entry (is_allowed_in keep m) m a) keep m (length a);
  left = live_column (left_entry (is_allowed_in keep m) m a) keep m (length a);
  right = live_column (right_entry (is_allowed_in keep m) m a) keep m (length a);
}
