-- The least of some candidates, by distance and then by index.
use Rattle.std.specs.Prelude.{ℕ, zero, suc, Bool, if◌then◌else◌, Option, Some, None}
use Rattle.mp_nums.specs.declared.nearest.Near.{Near}
use Rattle.mp_nums.specs.Near.{nearer_of}

-- window j at a distance
abbrev pub near_at : ℕ → ℕ → Near
near_at j d = record { dist = record { 0 = d }; index = j }

-- window j at its distance, where it has one
abbrev pub at_distance : ℕ → Option ℕ → Option Near
at_distance j None = None
at_distance j (Some d) = Some (near_at j d)

-- window j, where it may be chosen and has a distance
abbrev pub candidate : (ℕ → Bool) → (ℕ → Option ℕ) → ℕ → Option Near
candidate may distance_to j = if may j then at_distance j (distance_to j) else None

-- the least of the candidates below n
unfoldable pub near : (ℕ → Option Near) → ℕ → Option Near
near c zero = None
near c (suc n) = nearer_of (near c n) (c n)
