-- What a reader of lines holds, and what it takes of a source.
use Rattle.std.specs.Prelude.{◌≡◌, ℕ, ◌+◌, ◌<◌, Bool, true, false, IsTrue, List, [], ◌∷◌, ◌++◌, length, take, Option}
use Rattle.std.specs.Prelude.{Some}
use Rattle.mp_feed.specs.Feeding.{Holding, nothing, lines_left, ended_lines_left}
use Rattle.mp_feed.specs.declared.readers.Next.{Next}
use Rattle.mp_feed.specs.declared.readers.Next.TheVariants.{Line, End, PastLimit}
use Rattle.mp_feed.specs.declared.readers.Piece.{Piece}

pub record Reading : Type 0 where
  -- what is held of a line
  pub holding : Holding
  -- bytes at hand that are to be cut
  pub unread : List ℕ
  -- how many more may be taken up to the limit
  pub left : ℕ
  -- whether a byte past the limit was taken
  pub past : Bool

abbrev pub at_start : ℕ → Reading
at_start limit = record { holding = nothing; unread = []; left = limit; past = false }

-- the line that was held is dropped
abbrev pub after_line : Reading → Reading
after_line reading = record reading { holding = nothing }

-- the line that is held was not ended yet
abbrev pub before_end : Reading → Reading
before_end reading = record reading { holding = record { kept = reading.holding.kept; whole = false } }

abbrev pub bit : Bool → ℕ
bit true = 1
bit false = 0

-- of what a source told was left these bytes were taken, and so many past the limit
pub record IsTakenOff (got : List ℕ) (overs : ℕ) (bytes : List ℕ) (later : Option (List ℕ)) : Type 0 where
  pub over : List ℕ
  pub rest : List ℕ
  pub over_count : length over ≡ overs
  pub later_is : later ≡ Some rest
  pub bytes_are : bytes ≡ got ++ (over ++ rest)

-- the piece was read to the front of the buffer, and at the end of the source alone is it empty
pub record IsReadOf (bytes buffer : List ℕ) (later : Option (List ℕ)) (piece : Piece) : Type 0 where
  pub off : IsTakenOff (take piece.count buffer) (bit piece.past_limit) bytes later
  pub at_end : piece.count + bit piece.past_limit ≡ 0 → off.rest ≡ []

-- Between two moments of a reader and its source these lines were given, each of them ended by an LF.
pub record Gave (given : List (List ℕ)) (old new : Reading) (left later : Option (List ℕ)) : Type 0 where
  -- the bytes within the limit that were taken, and how many past it
  pub got : List ℕ
  pub overs : ℕ
  -- the lines to come, of any rest, were these and those that are still to come
  pub lines_are : (rest : List ℕ)
      → lines_left old.holding (old.unread ++ (got ++ rest)) ≡ given ++ lines_left new.holding (new.unread ++ rest)
  pub ended_are : (rest : List ℕ)
      → ended_lines_left old.holding (old.unread ++ (got ++ rest))
      ≡ given ++ ended_lines_left new.holding (new.unread ++ rest)
  pub count : length got + new.left ≡ old.left
  pub overs_are : overs + bit old.past ≡ bit new.past
  pub full : 0 < overs → new.left ≡ 0
  pub source : (bytes : List ℕ) → left ≡ Some bytes → IsTakenOff got overs bytes later

-- no byte is at hand, and none of the lines to come is ended
pub record IsAtRest (reading : Reading) : Type 0 where
  pub unread : reading.unread ≡ []
  pub none_ended : ended_lines_left reading.holding [] ≡ []

-- the source, where it tells, has come to its end
abbrev pub IsDry : Option (List ℕ) → Option (List ℕ) → Type 0
IsDry left later = (bytes : List ℕ) → left ≡ Some bytes → later ≡ Some []

-- a line, which is held, is the next one
pub record IsLineNext (old new : Reading) (left later : Option (List ℕ)) : Type 0 where
  pub held : IsTrue new.holding.whole
  pub gave : Gave (new.holding.kept ∷ []) old (after_line new) left later

-- what is held without an LF is the last line
pub record IsLastNext (old new : Reading) (left later : Option (List ℕ)) : Type 0 where
  pub held : IsTrue new.holding.whole
  pub gave : Gave [] old (before_end new) left later
  pub rest : IsAtRest (before_end new)
  pub line_is : lines_left new.holding [] ≡ new.holding.kept ∷ []
  pub within : new.past ≡ false
  pub dry : IsDry left later

-- there is no line more
pub record IsEndNext (old new : Reading) (left later : Option (List ℕ)) : Type 0 where
  pub gave : Gave [] old new left later
  pub rest : IsAtRest new
  pub none_left : lines_left new.holding [] ≡ []
  pub within : new.past ≡ false
  pub dry : IsDry left later

-- a byte past the limit was taken, and no line was ended before it
pub record IsPastNext (old new : Reading) (left later : Option (List ℕ)) : Type 0 where
  pub gave : Gave [] old new left later
  pub rest : IsAtRest new
  pub past : new.past ≡ true

abbrev pub IsNext : Reading → Reading → Option (List ℕ) → Option (List ℕ) → Next → Type 0
IsNext old new left later (Line false) = IsLineNext old new left later
IsNext old new left later (Line true) = IsLastNext old new left later
IsNext old new left later End = IsEndNext old new left later
IsNext old new left later PastLimit = IsPastNext old new left later

-- a read failed, and the lines that are ended were given before
pub record IsFailed (old new : Reading) (left later : Option (List ℕ)) : Type 0 where
  pub gave : Gave [] old new left later
  pub rest : IsAtRest new
  pub within : new.past ≡ false
