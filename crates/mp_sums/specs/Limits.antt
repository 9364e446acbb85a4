-- Limits: which distances may still give a window something.
use Rattle.std.specs.Prelude.{ℕ, ◌<◌, ◌≤◌}
use Rattle.mp_sums.specs.declared.limits.Limit.{Limit}
use Rattle.mp_sums.specs.declared.limits.Limit.TheVariants.{Every, Within, Below}

abbrev pub IsWithin : Limit → ℕ → Type 0
IsWithin Every d = Unit {0}
IsWithin (Within most) d = d ≤ most.0
IsWithin (Below end) d = d < end.0

-- the distance isn't within the limit
abbrev pub IsBeyond : Limit → ℕ → Type 0
IsBeyond Every d = ⊥
IsBeyond (Within most) d = most.0 < d
IsBeyond (Below end) d = end.0 ≤ d
