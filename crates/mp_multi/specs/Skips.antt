-- What coarse sums of several channels tell of the values of many pairs at once.
use Rattle.std.specs.Prelude.{◌≡◌, ℕ, ◌+◌, ◌*◌, ◌<◌, ◌≤◌, List, [], length, slice_index_or, map, sum, take}
use Rattle.std.specs.Prelude.{Option, Some, None, Bool}
use Rattle.mp_nums.specs.declared.nearest.Near.{Near}
use Rattle.mp_nums.specs.Listed.{Listed}
use Rattle.mp_nums.specs.declared.samples.Sample.{Sample}
use Rattle.mp_defs.specs.Series.{series_of}
use Rattle.mp_results.specs.Multi.{distance_in, pair_value}
use Rattle.mp_results.specs.Rising.{rising}
use Rattle.mp_partial.specs.Values.{Column}
use Rattle.mp_scans.specs.Slots.{Covers}
use Rattle.mp_skips.specs.declared.sums.Coarse.{Coarse}
use Rattle.mp_skips.specs.declared.sums.Units.{Units}
use Rattle.mp_skips.specs.declared.summed.Summed.{Summed}
use Rattle.mp_skips.specs.declared.sums.TheConstants.{NO_NEED}
use Rattle.mp_skips.specs.Sums.{number_in}
use Rattle.mp_multi.specs.Blocks.{AreScannedBy}
use Rattle.mp_multi.specs.Tiling.{window_count}
use Rattle.mp_multi.specs.declared.plans.MultiPlan.{MultiPlan}

-- a channel with itself in coarse sums of these units
pub record IsCoarseOf (samples : List Sample) (m : ℕ) (units : Units) (coarse : Coarse) : Type 0 where
  pub rows : coarse.plan.grid.rows.now ≡ samples
  pub columns : coarse.plan.grid.columns.now ≡ samples
  pub length_is : coarse.plan.grid.m ≡ m
  pub units_are : coarse.rows.units ≡ units

-- the same of each channel
pub record AreCoarse (m : ℕ) (channels : List (List Sample)) (units : Units) (coarse : List Coarse) : Type 0 where
  pub count : length coarse ≡ length channels
  pub each : (c : ℕ) (past : Coarse) → c < length coarse
      → IsCoarseOf (slice_index_or channels c []) m units (slice_index_or coarse c past)

-- the sums of a channel in these units
pub record IsSummedOf (samples : List Sample) (m : ℕ) (units : Units) (summed : Summed) : Type 0 where
  pub rows : summed.plan.grid.rows.now ≡ samples
  pub columns : summed.plan.grid.columns.now ≡ samples
  pub length_is : summed.plan.grid.m ≡ m
  pub units_are : summed.units ≡ units

-- those of each channel
pub record AreSummed (m : ℕ) (channels : List (List Sample)) (units : Units) (sums : List Summed) : Type 0 where
  pub count : length sums ≡ length channels
  pub each : (c : ℕ) (past : Summed) → c < length sums
      → IsSummedOf (slice_index_or channels c []) m units (slice_index_or sums c past)

-- a distance or a value is so large that a coarse sum of squares up to the given one tells nothing against it
abbrev pub ReachesIn : Units → ℕ → ℕ → Type 0
ReachesIn units need v = need * (units.grain.size * units.grain.size) ≤ 8 * units.eights * v

-- in channel c all pairs that have a distance reach a coarse sum, of those of the rows from i on, as many as a block
-- has, on the diagonals of n successive columns from j on
pub record AreFarIn (plan : MultiPlan) (units : Units) (c i j n need : ℕ) : Type 0 where
  pub each : (r u d : ℕ) → r < 8 * units.eights → u < n
      → distance_in plan.channels.m (map series_of plan.channels.list.now) (i + r) (j + u + r) c ≡ Some d
      → ReachesIn units need d

-- the same of the values of pairs
pub record AreFar (plan : MultiPlan) (units : Units) (i j n need : ℕ) : Type 0 where
  pub each : (r u v : ℕ) → r < 8 * units.eights → u < n
      → pair_value plan.channels.m plan.channels.k (map series_of plan.channels.list.now) (i + r) (j + u + r)
      ≡ Some v
      → ReachesIn units need v

-- in each channel the distances of so many successive rows and columns that have one
pub record AreDistancesIn (plan : MultiPlan) (i j count channels : ℕ) (dists : List (List ℕ)) : Type 0 where
  pub each : (c r d : ℕ) → c < channels → r < count
      → distance_in plan.channels.m (map series_of plan.channels.list.now) (i + r) (j + r) c ≡ Some d
      → number_in (slice_index_or dists c []) r ≡ d

-- a lane of some vectors
abbrev pub lane_of : ℕ → List (List ℕ) → List ℕ
lane_of t vectors = map (λ v. number_in v t) vectors

-- the numbers of channels in a lane
abbrev pub lane_numbers : List (List ℕ) → ℕ → ℕ → Option ℕ
lane_numbers sums t c = Some (number_in (slice_index_or sums c []) t)

-- the sum of the k least numbers of channels at a place
abbrev pub least_at : ℕ → ℕ → List (List ℕ) → ℕ → ℕ
least_at k channels dists r = sum (take k (rising (lane_numbers dists r) channels))

-- the first n numbers of each channel lie below a number
pub record AreBelow (most channels n : ℕ) (dists : List (List ℕ)) : Type 0 where
  pub each : (c r : ℕ) → c < channels → r < n → number_in (slice_index_or dists c []) r < most

-- whatever window from first on reaches the need gives a window nothing
pub record IsWindowNeed (plan : MultiPlan) (units : Units) (slots : Column) (first window need : ℕ) : Type 0 where
  pub nothing : (other v : ℕ) → window < window_count plan.channels.m plan.channels.list.now → first ≤ other
      → pair_value plan.channels.m plan.channels.k (map series_of plan.channels.list.now) window other ≡ Some v
      → need < NO_NEED → ReachesIn units need v → Covers (slice_index_or slots window None) other v

-- one need does for n successive windows
pub record IsNeedOfAll (plan : MultiPlan) (units : Units) (slots : Column) (first window n need : ℕ) : Type 0 where
  pub each : (r : ℕ) → r < n → IsWindowNeed plan units slots first (window + r) need

-- the need of each of n groups of eight does for all columns that its blocks reach
pub record AreGroupNeeds (plan : MultiPlan) (units : Units) (slots : Column) (first group n : ℕ) (needs : List ℕ)
    : Type 0 where
  pub each : (g : ℕ) → g < n
      → IsNeedOfAll plan units slots first (8 * (group + g)) (8 + 8 * units.eights) (number_in needs g)
  pub small : (g : ℕ) → g < n → number_in needs g ≤ NO_NEED

-- what these pairs make of the new slots they make of the old ones too
pub record IsAheadOf (plan : MultiPlan) (pairs : ℕ → ℕ → Bool) (old new : Listed (Option Near)) : Type 0 where
  pub all : (after : Listed (Option Near)) → AreScannedBy plan pairs new after → AreScannedBy plan pairs old after
