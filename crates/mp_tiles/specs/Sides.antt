-- Of windows the nearest ones on both sides.
use Rattle.std.specs.Prelude.{◌≡◌, ℕ, zero, length, Option, Some, None, ⊤}
use Rattle.mp_partial.specs.Values.{Column, empty_column}
use Rattle.mp_partial.specs.Profiled.{Profiled}

-- for each window the nearest one, and for how much there is memory
pub record Stored : Type 0 where
  pub slots : Column
  pub room : ℕ

-- memory for so many windows, to which nothing was written, and for how much it is
pub record Unfilled : Type 0 where
  pub places : ℕ
  pub room : ℕ

-- for each window the nearest of those that start earlier, and of those that start later, and for how much there is
-- memory
pub record Sided : Type 0 where
  pub left : Column
  pub right : Column
  pub room : ℕ

-- both sides have so many windows
pub record HaveSides (w : ℕ) (s : Sided) : Type 0 where
  pub left : length s.left ≡ w
  pub right : length s.right ≡ w

-- both sides of a profile
abbrev pub sides_of : Profiled → Sided
sides_of p = record { left = p.left; right = p.right; room = p.room }

-- what was found, or nothing at so many places that aren't filled yet
abbrev pub sides_by : Option Unfilled → Sided → Sided
sides_by None found = found
sides_by (Some unfilled) found = record {
  left = empty_column unfilled.places;
  right = empty_column unfilled.places;
  room = unfilled.room;
}

-- as long as the room isn't filled there is no other memory
abbrev pub IsApart : Option Unfilled → Sided → Type 0
IsApart None found = ⊤
IsApart (Some unfilled) found = found.room ≡ zero
