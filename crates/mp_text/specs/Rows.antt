-- Rows of samples, one behind the other, and the columns that they make.
use Rattle.std.specs.Prelude.{ℕ, ℤ, List, ◌∷◌, map, slice_index_or, Option, None, Result, Ok, Err}
use Rattle.std.specs.List.{range_with_len}
use Rattle.mp_defs.specs.Series.{Series}

-- one more in front of others, or the first fault
abbrev pub onto : {A E : Type 0} → Result A E → Result (List A) E → Result (List A) E
onto (Err fault) others = Err fault
onto (Ok x) (Err fault) = Err fault
onto (Ok x) (Ok xs) = Ok (x ∷ xs)

-- a sample for each column
abbrev pub Row : Type 0
Row = List (Option ℤ)

abbrev pub column_at : List Row → ℕ → Series
column_at rows column = map (λ row. slice_index_or row column None) rows

-- so many columns
abbrev pub columns_of : ℕ → List Row → List Series
columns_of count rows = map (column_at rows) (range_with_len 0 count)
