-- What is seen of a profile.
use Rattle.std.specs.Prelude.{◌≡◌, ℕ, length}
use Rattle.mp_partial.specs.Values.{Column, merged_column}

-- its columns, for how many more windows there is room, and for how many more places in all columns together
pub record Profiled : Type 0 where
  pub all : Column
  pub left : Column
  pub right : Column
  pub spare : ℕ
  pub room : ℕ

-- the columns go together
pub record IsProfile (all left right : Column) : Type 0 where
  pub left_is : length left ≡ length all
  pub right_is : length right ≡ length all
  pub lesser : all ≡ merged_column left right
