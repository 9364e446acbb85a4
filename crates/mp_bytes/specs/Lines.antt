-- The lines of an input.
use Rattle.std.specs.Prelude.{ℕ, ◌==◌, List, [], ◌∷◌, ◌++◌, take, if◌then◌else◌}
use Rattle.mp_bytes.specs.Bytes.{line_feed, onto_first}

-- the most bytes of a line without its LF, with a CR at its end
abbrev pub max_line : ℕ
max_line = 1048576

-- the most bytes that are looked at in a line: one more than the longest has, so that a longer one shows
abbrev pub most_kept : ℕ
most_kept = 1048577

-- what is kept of a line
abbrev pub cut : List ℕ → List ℕ
cut line = take most_kept line

-- an input is cut at each LF. A last piece that no LF ends is a line where it isn't empty
abbrev pub lines : List ℕ → List (List ℕ)
lines [] = []
lines (b ∷ bs) = if b == line_feed then [] ∷ lines bs else onto_first b (lines bs)

-- a byte in front of the first of the lines, where there is one
abbrev pub onto_ended : ℕ → List (List ℕ) → List (List ℕ)
onto_ended b [] = []
onto_ended b (line ∷ rest) = (b ∷ line) ∷ rest

-- the lines that an LF ends
abbrev pub ended_lines : List ℕ → List (List ℕ)
ended_lines [] = []
ended_lines (b ∷ bs) = if b == line_feed then [] ∷ ended_lines bs else onto_ended b (ended_lines bs)

-- lines, each with an LF behind it
abbrev pub with_ends : List (List ℕ) → List ℕ
with_ends [] = []
with_ends (line ∷ rest) = line ++ line_feed ∷ with_ends rest
