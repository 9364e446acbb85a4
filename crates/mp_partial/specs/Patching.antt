-- What is seen of a patch, and how its slots stand to the columns of a profile.
use Rattle.std.specs.Prelude.{◌≡◌, ℕ, ◌+◌, ◌-◌, ◌<◌, nat_le, if◌then◌else◌, map, length, slice_index_or, Option, None}
use Rattle.std.specs.List.{range_with_len}
use Rattle.mp_nums.specs.declared.nearest.Near.{Near}
use Rattle.mp_nums.specs.Near.{nearer_of}
use Rattle.mp_partial.specs.Values.{Column}

-- the slots of successive windows as rows and of successive windows as columns, and the first of each
pub record Patched : Type 0 where
  pub first_row : ℕ
  pub rows : Column
  pub first_column : ℕ
  pub columns : Column

-- so many slots of a column from a place on. Past its last place there is none
abbrev pub slots_from : Column → ℕ → ℕ → Column
slots_from column first count = map (λ k. slice_index_or column (first + k) None) (range_with_len 0 count)

-- a column of this size that has these slots from a place on, and nothing elsewhere
abbrev pub placed : ℕ → ℕ → Column → Column
placed size first slots =
    map (λ k. if nat_le first k then slice_index_or slots (k - first) None else None) (range_with_len 0 size)

-- what gives a place of one column nothing gives that of the other nothing
abbrev pub IsCovered : Column → Column → Type 0
IsCovered side both = (k : ℕ) (found : Option Near) → k < length side
    → nearer_of (slice_index_or side k None) found ≡ slice_index_or side k None
    → nearer_of (slice_index_or both k None) found ≡ slice_index_or both k None
