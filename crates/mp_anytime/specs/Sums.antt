-- The sums of the last pairs of all diagonals.
use Rattle.std.specs.Prelude.{◌≡◌, ℕ, ◌+◌, ◌-◌, ◌*◌, ◌^◌, ◌<◌, ◌≤◌, List, length}
use Rattle.std.specs.Prelude.{slice_index, min, ℤ}
use Rattle.mp_defs.specs.Distance.{squared_difference}
use Rattle.mp_sums.specs.Residues.{item}
use Rattle.mp_sums.specs.Ranges.{AreWithin, SumsFit}
use Rattle.mp_sums.specs.declared.ranges.Range.{Range}
use Rattle.mp_anytime.specs.declared.sums.Sums.{Sums}

-- the sum of a diagonal
abbrev pub sum_in : Sums → ℕ → ℕ
sum_in sums d = slice_index sums.upper.items d * 2 ^ 64 + slice_index sums.lower.items d

-- there is a place for each of so many diagonals
pub record HavePlaces (count : ℕ) (sums : Sums) : Type 0 where
  pub lowers : length sums.lower.items ≡ count
  pub uppers : length sums.upper.items ≡ count

-- the sum of a diagonal was put, and no other changed
pub record IsPut (d sum : ℕ) (old new : Sums) : Type 0 where
  pub lowers : length new.lower.items ≡ length old.lower.items
  pub uppers : length new.upper.items ≡ length old.upper.items
  pub here : sum_in new d ≡ sum
  pub others : (q : ℕ) → (q ≡ d → ⊥) → sum_in new q ≡ sum_in old q

-- for how many more diagonals there is room
abbrev pub room_of : Sums → ℕ
room_of sums = min sums.lower.spare sums.upper.spare

-- ---- one place on

-- a sum has one square more and one less, where 64 bits hold it
pub record IsMoved (enters leaves sum moved : ℕ) : Type 0 where
  pub exact : sum + enters < 2 ^ 64 → leaves ≤ sum + enters → moved ≡ sum + enters - leaves

-- the square of a number and of the last one of a list, where the places are counted from the last one on
abbrev pub square_behind : List ℤ → ℕ → ℕ
square_behind xs d = squared_difference (item xs (length xs - 1 - d)) (item xs (length xs - 1))

-- each of them has less than 62 bits
abbrev pub AreClose : List ℤ → Type 0
AreClose xs = (d : ℕ) → d < length xs → square_behind xs d < 2 ^ 62

-- 63 bits hold the sum of m squared differences of any of these numbers
pub record LieClose (m : ℕ) (xs : List ℤ) : Type 0 where
  pub range : Range
  pub within : AreWithin range xs
  pub fits : SumsFit m 63 range

-- 63 bits hold the sum of the squared differences of these numbers and as many others in the same range
pub record AreNear (xs ys : List ℤ) : Type 0 where
  pub range : Range
  pub within : AreWithin range xs
  pub others_within : AreWithin range ys
  pub fits : SumsFit (length xs) 63 range
