-- How an input that comes in pieces is cut into lines.
use Rattle.std.specs.Prelude.{◌≡◌, ◌≢◌, ℕ, ◌+◌, ◌≤◌, ◌↔◌, Bool, true, false, not, ◌==◌, List, [], ◌∷◌, ◌++◌}
use Rattle.std.specs.Prelude.{length, drop, map, All, if◌then◌else◌}
use Rattle.std.specs.List.{list_any, position_or_len, before_first, concat}
use Rattle.mp_bytes.specs.Bytes.{line_feed, is_empty}
use Rattle.mp_bytes.specs.Lines.{most_kept, cut, lines, ended_lines}

-- what is held of the input: the bytes kept of a line, and whether it is a whole line
pub record Holding : Type 0 where
  pub kept : List ℕ
  pub whole : Bool

-- no byte of a line
abbrev pub nothing : Holding
nothing = record { kept = []; whole = false }

-- what can be kept of a line, which has no LF
pub record IsCutLine (bytes : List ℕ) : Type 0 where
  pub no_lf : All (λ b. b ≢ line_feed) bytes
  pub short : length bytes ≤ most_kept

abbrev pub is_lf : ℕ → Bool
is_lf b = b == line_feed

abbrev pub has_lf : List ℕ → Bool
has_lf piece = list_any is_lf piece

-- how many bytes of a piece are taken at once: up to and with its first LF, or all where it has none
abbrev pub used_of : List ℕ → ℕ
used_of piece = if has_lf piece then position_or_len is_lf piece + 1 else length piece

-- what is held after a piece: its bytes before the first LF belong to the line, which is whole where there is an LF
abbrev pub fed : Holding → List ℕ → Holding
fed holding piece = record { kept = cut (holding.kept ++ before_first is_lf piece); whole = has_lf piece }

-- what is held at the end of the input, where bytes without an LF are a line
abbrev pub ended : Holding → Holding
ended holding = record { kept = holding.kept; whole = not (is_empty holding.kept) }

-- the lines still to come, from what is held and the rest of the input
abbrev pub lines_left : Holding → List ℕ → List (List ℕ)
lines_left holding rest = map cut (lines (holding.kept ++ rest))

-- those of them that an LF ends
abbrev pub ended_lines_left : Holding → List ℕ → List (List ℕ)
ended_lines_left holding rest = map cut (ended_lines (holding.kept ++ rest))

-- the lines that come of calls, from what is held on: feed on what is left of each piece in turn, then end
pub data Gives : Holding → List (List ℕ) → List (List ℕ) → Type 0 where
  -- a piece is used up
  used_up : {holding : Holding} {pieces given : List (List ℕ)} → Gives holding pieces given
      → Gives holding ([] ∷ pieces) given
  -- feed takes all of a piece, which ends no line
  taken : {holding : Holding} {piece : List ℕ} {pieces given : List (List ℕ)} → (fed holding piece).whole ≡ false
      → Gives (fed holding piece) pieces given → Gives holding (piece ∷ pieces) given
  -- feed holds a line, next drops it, and the rest of the piece is left
  ended_by_lf : {holding : Holding} {piece : List ℕ} {pieces given : List (List ℕ)} → (fed holding piece).whole ≡ true
      → Gives nothing (drop (used_of piece) piece ∷ pieces) given
      → Gives holding (piece ∷ pieces) ((fed holding piece).kept ∷ given)
  -- end finds no line
  no_more : {holding : Holding} → (ended holding).whole ≡ false → Gives holding [] []
  -- end finds a last line
  last : {holding : Holding} → (ended holding).whole ≡ true → Gives holding [] ((ended holding).kept ∷ [])

-- the lines that come of an input in pieces are those of the whole input, each cut to what is kept
abbrev pub PiecesGiveTheLines : Type 0
PiecesGiveTheLines =
    (pieces given : List (List ℕ)) → Gives nothing pieces given ↔ (given ≡ map cut (lines (concat pieces)))
