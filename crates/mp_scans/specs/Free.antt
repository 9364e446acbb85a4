-- Marks of the windows of which no sample is missing.
use Rattle.std.specs.Prelude.{◌≡◌, ℕ, ◌+◌, ◌<◌, ◌≤◌, List, length, slice_index_or, Bool, true, false, is_some}
use Rattle.mp_defs.specs.Series.{Series, number_at}
use Rattle.mp_defs.specs.Window.{is_free}

-- the marks of the windows from start on
pub record AreFree (m : ℕ) (a : Series) (start : ℕ) (marks : List Bool) : Type 0 where
  pub each : (k : ℕ) → k < length marks → slice_index_or marks k false ≡ is_free m a (start + k)

-- of the samples from one on and before an end, none is missing from clear on, and the one before that is
pub record IsClear (a : Series) (from clear end : ℕ) : Type 0 where
  pub after : from ≤ clear
  pub within : clear ≤ end
  pub present : (t : ℕ) → clear ≤ t → t < end → is_some (number_at a t) ≡ true
  pub missing : (t : ℕ) → from ≤ t → clear ≡ t + 1 → is_some (number_at a t) ≡ false
