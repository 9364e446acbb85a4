-- The tiles of several channels in coarse sums.
use Rattle.std.specs.Prelude.{◌≡◌, ℕ}
use Rattle.mp_multi.specs.Tiling.{MultiTiling, IsMultiTiling}
use Rattle.mp_multi.specs.declared.summed.MultiCoarse.{MultiCoarse}

-- tiles of so many channels, and the coarse sums of these
pub record IsSummedTiling (number : ℕ) (tiles : MultiTiling) (coarse : MultiCoarse) : Type 0 where
  pub tiling : IsMultiTiling number tiles
  pub channels : coarse.plan.channels.list.now ≡ tiles.channels
  pub length_is : coarse.plan.channels.m ≡ tiles.m
  pub together : coarse.plan.channels.k ≡ tiles.k
