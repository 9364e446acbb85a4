-- MPdist of two series, from the joins between them: the distance at a twentieth of their samples.
use Rattle.std.specs.Prelude.{ℕ, ◌+◌, ◌-◌, ◌/◌, min, nat_le, nat_lt, if◌then◌else◌, List, [], ◌∷◌, ◌++◌, length}
use Rattle.std.specs.Prelude.{slice_get, Option, Some, None}
use Rattle.std.specs.List.{filter_map}
use Rattle.std.specs.Option.{option_map}
use Rattle.mp_nums.specs.declared.nearest.Near.{Near}
use Rattle.mp_nums.specs.declared.nearest.Sq.{Sq}
use Rattle.mp_results.specs.Slide.{square}

abbrev pub distance_in : Option Near → Option ℕ
distance_in None = None
distance_in (Some near) = Some near.dist.0

-- the distances that stand in both joins
abbrev pub distances_of : List (Option Near) → List (Option Near) → List ℕ
distances_of ab ba = filter_map distance_in (ab ++ ba)

-- d put before the first distance that isn't less
abbrev pub put_in_order : ℕ → List ℕ → List ℕ
put_in_order d [] = d ∷ []
put_in_order d (e ∷ es) = if nat_le d e then d ∷ e ∷ es else e ∷ put_in_order d es

unfoldable pub in_rising_order : List ℕ → List ℕ
in_rising_order [] = []
in_rising_order (d ∷ ds) = put_in_order d (in_rising_order ds)

-- a twentieth of the samples of both series, rounded up, or the last of the items where there are fewer
abbrev pub place_of : ℕ → ℕ → ℕ → ℕ
place_of na nb items = min ((na + nb + 19) / 20) (items - 1)

-- the distance at a place, counted from 0, and the greatest one where the distances end before it
abbrev pub at_or_greatest : ℕ → List ℕ → Option ℕ
at_or_greatest place rising =
    if nat_lt place (length rising) then slice_get rising place else slice_get rising (length rising - 1)

-- MPdist: of the items of both joins in rising order, those without a distance last, the one at the place
unfoldable pub mpdist_of : List (Option Near) → List (Option Near) → ℕ → ℕ → Option Sq
mpdist_of ab ba na nb = option_map square
    (at_or_greatest (place_of na nb (length (ab ++ ba))) (in_rising_order (distances_of ab ba)))
