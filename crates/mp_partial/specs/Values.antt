-- What a part stands for: columns of nearest windows.
use Rattle.std.specs.Prelude.{◌≡◌, ℕ, List, [], ◌∷◌, All, length, replicate, slice_index_or, slice_set, Option, Some}
use Rattle.std.specs.Prelude.{None}
use Rattle.std.specs.List.{range_with_len}
use Rattle.std.specs.Simd.Lanes.{zip2}
use Rattle.mp_nums.specs.declared.nearest.Near.{Near}
use Rattle.mp_nums.specs.Near.{nearer_of}

-- for each place its nearest window, or none
abbrev pub Column : Type 0
Column = List (Option Near)

abbrev pub Value : Type 0
Value = List Column

-- place by place, the lesser of the two
abbrev pub merged_column : Column → Column → Column
merged_column a b = zip2 nearer_of a b

-- the same, column by column
abbrev pub merged_columns : Value → Value → Value
merged_columns a b = zip2 merged_column a b

abbrev pub empty_column : ℕ → Column
empty_column size = replicate size None

-- so many columns in which nothing was found
abbrev pub empty_columns : ℕ → ℕ → Value
empty_columns count size = replicate count (empty_column size)

-- so many columns, each with as many places as the size
pub record HasColumns (count size : ℕ) (value : Value) : Type 0 where
  pub columns : length value ≡ count
  pub places : All (λ column. length column ≡ size) value

-- place i has the lesser of what it had and what was found
abbrev pub offered : Column → ℕ → Near → Column
offered column i found = slice_set column i (nearer_of (slice_index_or column i None) (Some found))

-- the values of some pieces together, by any merge and its unit
abbrev pub merged_over : (Value → Value → Value) → Value → (ℕ → Value) → List ℕ → Value
merged_over merged unit value [] = unit
merged_over merged unit value (k ∷ ks) = merged (value k) (merged_over merged unit value ks)

-- of the pieces with a number below the count
abbrev pub merged_below : (Value → Value → Value) → Value → (ℕ → Value) → ℕ → Value
merged_below merged unit value count = merged_over merged unit value (range_with_len 0 count)
