-- What was found along some diagonals, in either way.
use Rattle.std.specs.Prelude.{Bool}
use Rattle.mp_nums.specs.declared.nearest.Near.{Near}
use Rattle.mp_partial.specs.Profiled.{Profiled}
use Rattle.mp_anytime.specs.declared.any_found.AnyFound.{AnyFound}
use Rattle.mp_anytime.specs.declared.any_found.AnyFound.TheVariants.{ByDistance, ByResidue}
use Rattle.mp_anytime.specs.Bounds.{has_number, has_residue}

-- both sides of each window
abbrev pub found_of : AnyFound → Profiled
found_of (ByResidue found) = found
found_of (ByDistance found) = found.profile

-- which windows it takes of what is kept
abbrev pub fits_of : AnyFound → Near → Bool
fits_of (ByResidue found) = has_residue
fits_of (ByDistance found) = has_number
