-- What is found at the lengths of a range.
use Rattle.std.specs.Prelude.{◌≡◌, ℕ, ◌+◌, ◌*◌, ◌<◌, Bool, ◌&&◌, nat_le, nat_lt, if◌then◌else◌, [], ◌∷◌, length, min}
use Rattle.std.specs.Prelude.{Option, Some, None}
use Rattle.mp_nums.specs.declared.finds.Discord.{Discord}
use Rattle.mp_nums.specs.declared.nearest.Near.{Near}
use Rattle.mp_defs.specs.Series.{Series}
use Rattle.mp_defs.specs.Window.{excl}
use Rattle.mp_defs.specs.Profile.{column, matrix_profile}
use Rattle.mp_partial.specs.Values.{Column, HasColumns, Value, empty_columns, merged_column}
use Rattle.mp_results.specs.Best.{best_in, discord_in}
use Rattle.mp_pan.specs.declared.found.ByLength.{ByLength}
use Rattle.mp_pan.specs.declared.limits.TheConstants.{MAX_LENGTHS}

-- ---- one length

-- a window by the distance of its entry
abbrev pub start_slot : Option Discord → Option Near
start_slot None = None
start_slot (Some window) = Some (record { dist = window.near.dist; index = window.start })

-- its entry
abbrev pub near_slot : Option Discord → Option Near
near_slot None = None
near_slot (Some window) = Some window.near

-- both again
abbrev pub window_of : Option Near → Option Near → Option Discord
window_of None near = None
window_of (Some start) None = None
window_of (Some start) (Some near) = Some (record { start = start.index; near = near })

-- the best pair at the i-th length from lo on, and the first discord
abbrev pub best_at : ℕ → Series → ℕ → Option Discord
best_at lo a i = best_in (matrix_profile (lo + i) a).all

abbrev pub unusual_at : ℕ → Series → ℕ → Option Discord
unusual_at lo a i = discord_in (matrix_profile (lo + i) a).all (excl (lo + i))

-- ---- some lengths

abbrev pub from_to : ℕ → ℕ → ℕ → Bool
from_to first end i = nat_le first i && nat_lt i end

-- what there is at the lengths that pass a test
abbrev pub length_column : (ℕ → Bool) → (ℕ → Option Near) → Column
length_column test f = column (λ i. if test i then f i else None) MAX_LENGTHS

abbrev pub starts_column : (ℕ → Bool) → (ℕ → Option Discord) → Column
starts_column test f = length_column test (λ i. start_slot (f i))

abbrev pub nearest_column : (ℕ → Bool) → (ℕ → Option Discord) → Column
nearest_column test f = length_column test (λ i. near_slot (f i))

-- there is a place for each length
pub record AreForLengths (windows : ByLength) : Type 0 where
  pub starts : length windows.starts.items ≡ MAX_LENGTHS
  pub nearest : length windows.nearest.items ≡ MAX_LENGTHS

-- they have taken what there is at some lengths, in the same memory
pub record HaveTaken (test : ℕ → Bool) (f : ℕ → Option Discord) (old new : ByLength) : Type 0 where
  pub starts : new.starts.items ≡ merged_column old.starts.items (starts_column test f)
  pub nearest : new.nearest.items ≡ merged_column old.nearest.items (nearest_column test f)
  pub starts_spare : new.starts.spare ≡ old.starts.spare
  pub nearest_spare : new.nearest.spare ≡ old.nearest.spare

-- the best pairs and the first discords of some lengths, as the value of a part
abbrev pub lengths_value : (ℕ → Bool) → ℕ → Series → Value
lengths_value test lo a =
    starts_column test (best_at lo a) ∷ nearest_column test (best_at lo a) ∷ starts_column test (unusual_at lo a)
    ∷ nearest_column test (unusual_at lo a) ∷ []

-- the value of a piece: four of so many lengths, fewer at the end
abbrev pub span_value : ℕ → ℕ → Series → ℕ → Value
span_value lo count a n = lengths_value (from_to (4 * n) (min (4 * n + 4) count)) lo a

-- ---- a part

-- what is seen of it: for how many windows it has room to work on, its columns, and for how much more there is memory
pub record FoundAt : Type 0 where
  pub windows : ℕ
  pub best_starts : Column
  pub best_nearest : Column
  pub discord_starts : Column
  pub discord_nearest : Column
  pub spare : ℕ

abbrev pub found_value : FoundAt → Value
found_value found =
    found.best_starts ∷ found.best_nearest ∷ found.discord_starts ∷ found.discord_nearest ∷ []

-- what its fields keep to
pub record IsFound (windows : ℕ) (slots : Column) (nearest farthest : ByLength) : Type 0 where
  pub room : length slots ≡ 4 * windows
  pub best : AreForLengths nearest
  pub discord : AreForLengths farthest

-- its value has a place for each length, whatever its size is
abbrev pub has_extremes : ℕ → Value → Type 0
has_extremes size value = HasColumns 4 MAX_LENGTHS value

abbrev pub no_extremes : ℕ → Value
no_extremes size = empty_columns 4 MAX_LENGTHS

-- it has what there is at each of so many lengths from lo on
pub record AreFound (lo count : ℕ) (a : Series) (found : FoundAt) : Type 0 where
  pub few : count < MAX_LENGTHS + 1
  pub value : found_value found ≡ lengths_value (from_to 0 count) lo a
