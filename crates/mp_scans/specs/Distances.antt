-- Residues that tell distances.
use Rattle.std.specs.Prelude.{◌≡◌, ℕ, ◌<◌, length}
use Rattle.mp_sums.specs.declared.distances.Grid.{Grid}
use Rattle.mp_sums.specs.declared.ranges.Range.{Range}
use Rattle.mp_sums.specs.Grids.{DistancesFit}
use Rattle.mp_sums.specs.Ranges.{AreSamplesWithin, SumsFit}

-- residues are those of the distances themselves, and tell them
pub record AreDistances (grid : Grid) (shift : ℕ) : Type 0 where
  -- samples aren't rounded
  pub unrounded : shift ≡ 0
  pub few_bits : DistancesFit 31 grid

-- some range of the samples tells that residues are those of the distances
pub record MayBeDistances (grid : Grid) (shift : ℕ) : Type 0 where
  pub unrounded : shift ≡ 0
  pub some : 0 < length grid.rows.now
  pub range : Range
  pub rows : AreSamplesWithin range grid.rows.now
  pub columns : AreSamplesWithin range grid.columns.now
  pub fits : SumsFit grid.m 31 range
