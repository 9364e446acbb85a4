-- The samples of a series in 16 bits.
use Rattle.std.specs.Prelude.{◌≡◌, ℕ, ◌+◌, ◌<◌, ◌≤◌, List, Bool, length, ℤ, pos, ◌-ℤ◌, true, false, slice_index_or}
use Rattle.std.specs.Prelude.{FitsSigned}
use Rattle.std.specs.Int.{w16, w32, int_wrap}
use Rattle.mp_sums.specs.Residues.{item}
use Rattle.mp_scans.specs.declared.plans.Plan.{Plan}
use Rattle.mp_anytime.specs.Rounded.{rounded_in, series_in}
use Rattle.mp_anytime.specs.Scanning.{AreFree}

-- 16 bits hold the difference of each two of the first n numbers
pub record LieNear (n : ℕ) (x : ℕ → ℤ) : Type 0 where
  pub each : (i j : ℕ) → i < n → j < n → FitsSigned w16 (x i -ℤ x j)

-- they do, and these are the first n numbers, as far as 16 bits hold them
pub record AreNarrow (n : ℕ) (x : ℕ → ℤ) (numbers : List ℤ) : Type 0 where
  pub near : LieNear n x
  pub each : (k : ℕ) → k < n → item numbers k ≡ int_wrap w16 (x k)

-- a sum, as far as 32 bits hold it
abbrev pub wrapped : ℕ → ℤ
wrapped sum = int_wrap w32 (pos sum)

-- the numbers of a plan for one series, whose residues tell the distances, and which windows are free
pub record IsNarrow (plan : Plan) (numbers : List ℤ) (free : List Bool) : Type 0 where
  pub exact : plan.is_exact ≡ true
  pub own : plan.grid.columns.now ≡ plan.grid.rows.now
  pub marks : AreFree plan.grid.m (series_in plan) free
  pub narrow : AreNarrow (length plan.grid.rows.now) (rounded_in plan.rounding.shift (series_in plan)) numbers
  pub all_numbers : length plan.grid.rows.now + 32 ≤ length numbers

-- a stretch of marks that are the same ends there
pub record IsTurn (marks : List Bool) (place turn : ℕ) : Type 0 where
  pub later : place < turn
  pub within : turn ≤ length marks
  pub same : (k : ℕ) → place ≤ k → k < turn → slice_index_or marks k false ≡ slice_index_or marks place false

-- the same for each mark
pub record AreTurns (marks : List Bool) (turns : List ℕ) : Type 0 where
  pub places : length turns ≡ length marks
  pub each : (k : ℕ) → k < length marks → IsTurn marks k (slice_index_or turns k 0)

-- the rows from first on and before end and the columns so far behind them are free
abbrev pub HaveFree : List Bool → ℕ → ℕ → ℕ → Type 0
HaveFree free offset first end = (k : ℕ) → first ≤ k → k < end
    → (slice_index_or free k false ≡ true) × (slice_index_or free (k + offset) false ≡ true)
