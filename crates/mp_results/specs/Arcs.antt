-- Arcs from windows to the windows that they name, and how many of them pass over each place: FLUSS.
use Rattle.std.specs.Prelude.{◌≡◌, ℕ, ◌<◌, ◌≤◌, min, max, Bool, false, ◌&&◌, nat_le, nat_lt, List, All, map, length}
use Rattle.std.specs.Prelude.{count_by, slice_get, Option, None, Some}
use Rattle.std.specs.List.{enumerate_from, range_with_len}
use Rattle.mp_nums.specs.declared.nearest.Near.{Near}

abbrev pub index_of : Option Near → Option ℕ
index_of None = None
index_of (Some near) = Some near.index

-- the window that each window names, where it names one
abbrev pub indices_of : List (Option Near) → List (Option ℕ)
indices_of column = map index_of column

-- the arc between window i and the one that it names passes over t: t is its lesser end, or lies before its greater one
abbrev pub passes : ℕ → ℕ × Option ℕ → Bool
passes t (i, None) = false
passes t (i, Some j) = nat_le (min i j) t && nat_lt t (max i j)

-- how many arcs pass over t
abbrev pub arc_count : List (Option ℕ) → ℕ → ℕ
arc_count indices t = count_by (passes t) (enumerate_from 0 indices)

-- how many pass over each place
abbrev pub arcs_of : List (Option ℕ) → List ℕ
arcs_of indices = map (arc_count indices) (range_with_len 0 (length indices))

-- each window that names one names one of these
abbrev pub NameWithin : List (Option ℕ) → Type 0
NameWithin indices = (i j : ℕ) → slice_get indices i ≡ Some (Some j) → j < length indices

-- no more arcs pass over a place than there are windows
abbrev pub ArcsAreFew : Type 0
ArcsAreFew = (indices : List (Option ℕ)) → All (λ count. count ≤ length indices) (arcs_of indices)
