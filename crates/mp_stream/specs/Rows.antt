-- The distances of one window to all windows, in which a missing sample counts as 0, and what they make of a profile.
use Rattle.std.specs.Prelude.{◌≡◌, ℕ, zero, suc, ◌+◌, ◌-◌, ◌<◌, ◌≤◌, Bool, false, if◌then◌else◌, List, length}
use Rattle.std.specs.Prelude.{slice_index}
use Rattle.std.specs.Prelude.{slice_index_or, ℤ, pos, Option, Some, None}
use Rattle.mp_nums.specs.declared.nearest.Near.{Near}
use Rattle.mp_nums.specs.Near.{nearer_of}
use Rattle.mp_defs.specs.Limits.{min_window, max_window}
use Rattle.mp_defs.specs.Window.{excl, windows}
use Rattle.mp_defs.specs.Distance.{squared_difference}
use Rattle.mp_defs.specs.Least.{near_at}
use Rattle.mp_partial.specs.Values.{Column, offered}
use Rattle.mp_sums.specs.Lists.{list_sum}
use Rattle.mp_sums.specs.Residues.{item}
use Rattle.mp_sums.specs.Ranges.{AreWithin, SumsFit}
use Rattle.mp_sums.specs.declared.ranges.Range.{Range}

-- ---- sums

-- the squared difference of the numbers at two places
abbrev pub square_at : List ℤ → ℕ → ℕ → ℕ
square_at xs i j = squared_difference (item xs i) (item xs j)

-- the sum of the squared differences of the m numbers from i and those from j on
abbrev pub sum_at : List ℤ → ℕ → ℕ → ℕ → ℕ
sum_at xs m i j = list_sum m xs i xs j

-- 63 bits hold the sum of m squared differences of any of these numbers
pub record LieClose (m : ℕ) (xs : List ℤ) : Type 0 where
  pub range : Range
  pub within : AreWithin range xs
  pub fits : SumsFit m 63 range

-- the sums of the first windows with window j
abbrev pub IsRow : List ℤ → ℕ → ℕ → List ℕ → Type 0
IsRow xs m j sums = (i : ℕ) → i < length sums → slice_index sums i ≡ sum_at xs m i j

-- ---- the last window

-- its place
abbrev pub last_place : {A : Type 0} → ℕ → List A → ℕ
last_place m items = windows (length items) m - 1

-- the distance of window j from window i
abbrev pub distance_from : ℕ → List ℤ → ℕ → ℕ → ℕ
distance_from m xs j i = sum_at xs m i j

-- two lists have a place for each of so many windows
pub record HavePlaces (count : ℕ) (sums next : List ℕ) : Type 0 where
  pub sums_are : length sums ≡ count
  pub next_are : length next ≡ count

-- the window at the last place has its places, and the windows before it have their sums with the window before it
pub record IsBefore (m : ℕ) (xs : List ℤ) (last : ℕ) (sums next : List ℕ) : Type 0 where
  pub least : min_window ≤ m
  pub width : m ≤ max_window
  pub long : length xs ≡ last + m
  pub places : HavePlaces (last + 1) sums next
  pub row : (i : ℕ) → i < last → slice_index sums i ≡ sum_at xs m i (last - 1)

-- ---- one place on

-- the sum of two windows one place on: with two numbers that enter, and without two that leave
abbrev pub next_of : ℕ → ℤ → ℤ → ℤ → ℤ → ℕ
next_of sum enters leaves last_enters last_leaves =
    sum + squared_difference last_enters enters - squared_difference last_leaves leaves

-- it can be computed below a limit
pub record CanStep (limit sum : ℕ) (enters leaves last_enters last_leaves : ℤ) : Type 0 where
  pub leaves_sum : squared_difference last_leaves leaves ≤ sum
  pub fits : sum + squared_difference last_enters enters < limit

abbrev pub last_of : List ℤ → ℤ
last_of xs = slice_index_or xs (length xs - 1) (pos 0)

-- the sum with the window one place behind i, from the sums of the windows before, the numbers that enter their
-- windows and those that leave them. The last of these are those of the last window
abbrev pub moved : List ℕ → List ℤ → List ℤ → ℕ → ℕ
moved before enters leaves i =
    next_of (slice_index before i) (slice_index_or enters i (pos 0)) (slice_index_or leaves i (pos 0))
    (last_of enters) (last_of leaves)

-- all of them can be computed below a limit
pub record CanMove (limit : ℕ) (before : List ℕ) (enters leaves : List ℤ) : Type 0 where
  pub enter : length enters ≡ length before
  pub leave : length leaves ≡ length before
  pub steps : (i : ℕ) → i < length before → CanStep limit (slice_index before i) (slice_index_or enters i (pos 0))
      (slice_index_or leaves i (pos 0)) (last_of enters) (last_of leaves)

-- the squared difference of each number that enters or leaves and of the last one is below a limit
pub record AreClose (limit : ℕ) (enters leaves : List ℤ) : Type 0 where
  pub entering : (i : ℕ) → i < length enters
      → squared_difference (last_of enters) (slice_index_or enters i (pos 0)) < limit
  pub leaving : (i : ℕ) → i < length leaves
      → squared_difference (last_of leaves) (slice_index_or leaves i (pos 0)) < limit

-- the sum of window i with the last one: the first is given, and the others are one place on
abbrev pub moved_row : ℕ → List ℕ → List ℤ → List ℤ → ℕ → ℕ
moved_row first before enters leaves zero = first
moved_row first before enters leaves (suc i) = moved before enters leaves i

-- ---- offers

-- window i, where it is free, at its distance
abbrev pub row_candidate : List Bool → (ℕ → ℕ) → ℕ → Option Near
row_candidate free dist i = if slice_index_or free i false then Some (near_at i (dist i)) else None

-- what window j makes of the nearest window to the right of window i
abbrev pub lowered : List Bool → (ℕ → ℕ) → ℕ → ℕ → Option Near → Option Near
lowered free dist j i old = if slice_index_or free i false then nearer_of old (Some (near_at j (dist i))) else old

-- window j was offered to the free windows from first on and before end, on the right
pub record IsTaken (free : List Bool) (dist : ℕ → ℕ) (j first end : ℕ) (old new : List (Option Near)) : Type 0 where
  pub places : length new ≡ length old
  pub within : (i : ℕ) → first ≤ i → i < end
      → slice_index_or new i None ≡ lowered free dist j i (slice_index_or old i None)
  pub before : (i : ℕ) → i < first → slice_index_or new i None ≡ slice_index_or old i None
  pub behind : (i : ℕ) → end ≤ i → slice_index_or new i None ≡ slice_index_or old i None

-- how many windows the last one is offered to: those before its exclusion zone, where it is free itself
abbrev pub offered_before : Bool → ℕ → ℕ → ℕ
offered_before is_free m last = if is_free then last - excl m else 0

-- a column to which the nearest window of window i was offered, where there is one
abbrev pub with_best : Column → ℕ → Option Near → Column
with_best column i None = column
with_best column i (Some best) = offered column i best
