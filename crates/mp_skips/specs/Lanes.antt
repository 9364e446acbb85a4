-- Vectors of eight numbers, lane by lane.
use Rattle.std.specs.Prelude.{◌≡◌, ℕ, ◌<◌, List, length}
use Rattle.mp_skips.specs.Sums.{number_in}

-- the lanes are these
pub record HasLanes (v : List ℕ) (f : ℕ → ℕ) : Type 0 where
  pub count : length v ≡ 8
  pub each : (t : ℕ) → t < 8 → number_in v t ≡ f t
