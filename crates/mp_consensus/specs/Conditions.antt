-- What is asked of several series.
use Rattle.std.specs.Prelude.{ℕ, ◌≤◌, List, length, All}
use Rattle.mp_nums.specs.declared.samples.Sample.{Sample}
use Rattle.mp_defs.specs.Limits.{max_samples, max_window, min_window}

-- they are compared at window length m
pub record MayBeCompared (list : List (List Sample)) (m : ℕ) : Type 0 where
  pub shortest : min_window ≤ m
  pub longest : m ≤ max_window
  pub two : 2 ≤ length list
  pub few : length list ≤ 64
  pub samples : All (λ series. length series ≤ max_samples) list
