-- Columns of a profile, by the indices that stand in them.
use Rattle.std.specs.Prelude.{◌≡◌, ℕ, ◌<◌, Bool, false, ◌==◌, if◌then◌else◌, List, length, slice_get, option_and_then}
use Rattle.std.specs.Prelude.{Option, None, Some}
use Rattle.mp_nums.specs.declared.nearest.Near.{Near}

abbrev pub index_of : Option (Option Near) → Option ℕ
index_of None = None
index_of (Some None) = None
index_of (Some (Some near)) = Some near.index

-- the index at a place, where there is one
abbrev pub index_at : List (Option Near) → ℕ → Option ℕ
index_at column j = index_of (slice_get column j)

abbrev pub is_number : Option ℕ → ℕ → Bool
is_number None j = false
is_number (Some i) j = i == j

-- k, where j stands at k in the other column
abbrev pub if_named_back : List (Option Near) → ℕ → ℕ → Option ℕ
if_named_back other j k = if is_number (index_at other k) j then Some k else None

-- the index at j, where j is the index there in the other column
abbrev pub named_back : List (Option Near) → List (Option Near) → ℕ → Option ℕ
named_back column other j = option_and_then (if_named_back other j) (index_at column j)

-- the left and the right column of a profile: an index to the left starts earlier, and one to the right later
pub record AreColumns (left right : List (Option Near)) : Type 0 where
  pub as_long : length left ≡ length right
  pub earlier : (j k : ℕ) → index_at left j ≡ Some k → k < j
  pub later : (j k : ℕ) → index_at right j ≡ Some k → j < k
  pub within : (j k : ℕ) → index_at right j ≡ Some k → k < length right
