-- The values of a field, which commas part.
use Rattle.std.specs.Prelude.{ℕ, ◌==◌, Bool, List, [], Option, Some, None}
use Rattle.std.specs.List.{slice_split}
use Rattle.mp_bytes.specs.Bytes.{comma}

abbrev pub is_comma : ℕ → Bool
is_comma b = b == comma

-- what stands between commas, before the first and behind the last, also where it is empty
abbrev pub values_in : List ℕ → List (List ℕ)
values_in text = slice_split is_comma text

-- those of a text that may have ended
abbrev pub values_left : Option (List ℕ) → List (List ℕ)
values_left None = []
values_left (Some text) = values_in text
