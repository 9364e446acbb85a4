-- The fields of a line.
use Rattle.std.specs.Prelude.{ℕ, ◌-◌, ◌==◌, Bool, false, not, List, [], ◌∷◌, ◌++◌, length, filter, take, slice_index}
use Rattle.std.specs.Prelude.{if◌then◌else◌}
use Rattle.std.specs.List.{list_all}
use Rattle.mp_bytes.specs.Bytes.{carriage_return, space, number_sign, is_blank, is_empty, onto_first}

-- one CR at the end of a line is dropped
abbrev pub without_cr : List ℕ → List ℕ
without_cr line =
    if slice_index line (length line - 1) == carriage_return then take (length line - 1) line else line

-- what stands between blanks, and before the first and behind the last
abbrev pub pieces : List ℕ → List (List ℕ)
pieces [] = [] ∷ []
pieces (b ∷ bs) = if is_blank b then [] ∷ pieces bs else onto_first b (pieces bs)

-- the fields of a text: the pieces that aren't empty
abbrev pub fields_in : List ℕ → List (List ℕ)
fields_in text = filter (λ piece. not (is_empty piece)) (pieces text)

-- the fields of a line
abbrev pub fields : List ℕ → List (List ℕ)
fields line = fields_in (without_cr line)

-- fields with a space between each and the next
abbrev pub joined : List (List ℕ) → List ℕ
joined [] = []
joined (field ∷ []) = field
joined (field ∷ next ∷ others) = field ++ space ∷ joined (next ∷ others)

-- ---- lines that ask for nothing

-- nothing but spaces and tabs
abbrev pub is_blank_line : List ℕ → Bool
is_blank_line line = list_all is_blank (without_cr line)

-- the first byte that is no space and no tab is a #
abbrev pub opens_comment : List ℕ → Bool
opens_comment [] = false
opens_comment (b ∷ bs) = if is_blank b then opens_comment bs else b == number_sign

abbrev pub is_comment : List ℕ → Bool
is_comment line = opens_comment (without_cr line)
