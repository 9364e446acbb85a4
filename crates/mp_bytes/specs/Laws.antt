-- What holds of the lines of an input and of the fields of a text.
use Rattle.std.specs.Prelude.{◌≡◌, ◌≢◌, ℕ, false, List, [], ◌∷◌, ◌++◌, All, if◌then◌else◌}
use Rattle.mp_bytes.specs.Bytes.{line_feed, is_blank, is_empty}
use Rattle.mp_bytes.specs.Fields.{fields_in, joined}
use Rattle.mp_bytes.specs.Lines.{lines, ended_lines, with_ends}

abbrev pub HasNoLf : List ℕ → Type 0
HasNoLf line = All (λ b. b ≢ line_feed) line

-- The lines that an LF ends, each with its LF, and a rest without an LF are the input. The rest is the last line, where
-- it isn't empty.
pub record AreLinesOf (bytes : List ℕ) : Type 0 where
  pub rest : List ℕ
  pub whole : with_ends (ended_lines bytes) ++ rest ≡ bytes
  pub lines_are : lines bytes ≡ ended_lines bytes ++ (if is_empty rest then [] else rest ∷ [])
  pub ended_without : All HasNoLf (ended_lines bytes)
  pub rest_without : HasNoLf rest

abbrev pub LinesAreTheInput : Type 0
LinesAreTheInput = (bytes : List ℕ) → AreLinesOf bytes

pub record IsField (field : List ℕ) : Type 0 where
  pub some : is_empty field ≡ false
  pub no_blank : All (λ b. is_blank b ≡ false) field

-- no field is empty or holds a blank
abbrev pub FieldsHoldNoBlank : Type 0
FieldsHoldNoBlank = (text : List ℕ) → All IsField (fields_in text)

-- fields that are joined by spaces are found again
abbrev pub FieldsAreFoundAgain : Type 0
FieldsAreFoundAgain = (text : List ℕ) → fields_in (joined (fields_in text)) ≡ fields_in text
