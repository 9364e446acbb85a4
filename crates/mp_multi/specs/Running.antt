-- What is kept of two windows of each channel while both move on.
use Rattle.std.specs.Prelude.{◌≡◌, ℕ, ◌<◌, List, [], length, slice_index_or}
use Rattle.mp_nums.specs.declared.samples.Sample.{Sample}
use Rattle.mp_defs.specs.Series.{Series, series_of}
use Rattle.mp_sums.specs.Sums.{numbers_of, IsSum}
use Rattle.mp_multi.specs.declared.running.Running.{Running}
use Rattle.mp_multi.specs.Missing.{count_missing}

-- this is kept of windows i and j of a series
pub record IsRunning (m : ℕ) (a : Series) (i j : ℕ) (running : Running) : Type 0 where
  pub sum : IsSum m (numbers_of a) i (numbers_of a) j running.sum
  pub missing : running.missing ≡ count_missing m a i j

-- this is kept of windows i and j of each channel
abbrev pub AreRunning : ℕ → List (List Sample) → ℕ → ℕ → List Running → Type 0
AreRunning m channels i j running = (c : ℕ) (past : Running) → c < length running
    → IsRunning m (series_of (slice_index_or channels c [])) i j (slice_index_or running c past)
