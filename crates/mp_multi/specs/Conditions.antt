-- What is asked of channels.
use Rattle.std.specs.Prelude.{◌≡◌, ℕ, ◌≤◌, List, [], length, slice_index_or, All}
use Rattle.mp_nums.specs.declared.samples.Sample.{Sample}
use Rattle.mp_defs.specs.Limits.{max_samples, max_window, min_window}
use Rattle.mp_multi.specs.declared.limits.TheConstants.{MAX_CHANNELS}

-- they have as many samples as the first one
abbrev pub HaveOneLength : List (List Sample) → Type 0
HaveOneLength channels = All (λ channel. length channel ≡ length (slice_index_or channels 0 [])) channels

-- they are compared at window length m, k of them together
pub record AreChannels (channels : List (List Sample)) (m k : ℕ) : Type 0 where
  pub shortest : min_window ≤ m
  pub longest : m ≤ max_window
  pub one : 1 ≤ length channels
  pub few : length channels ≤ MAX_CHANNELS
  pub one_length : HaveOneLength channels
  pub samples : length (slice_index_or channels 0 []) ≤ max_samples
  pub some : 1 ≤ k
  pub present : k ≤ length channels
