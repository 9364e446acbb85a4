-- Regimes: the places over which fewest arcs pass, one by one, each shutting out its zone.
use Rattle.std.specs.Prelude.{◌≡◌, ℕ, ◌*◌, nat_lt, if◌then◌else◌, List, map, Option, None, Some}
use Rattle.std.specs.Ordering.{nat_cmp}
use Rattle.std.specs.declared.cmp.Ordering.{Ordering}
use Rattle.mp_nums.specs.declared.ratios.Ratio.{Ratio}
use Rattle.mp_nums.specs.Ratio.{ratio_cmp}
use Rattle.mp_picks.specs.declared.candidates.Candidate.{Candidate}
use Rattle.mp_picks.specs.Candidates.{by_key, place_of, candidates}
use Rattle.mp_picks.specs.Laws.{ArePicked}
use Rattle.mp_picks.specs.Picks.{picks}

-- a value that may be a regime's
abbrev pub below_one : Ratio → Option Ratio
below_one value = if nat_lt value.num value.den then Some value else None

-- the places with a value below one
abbrev pub low_places : List Ratio → List (Candidate Ratio)
low_places curve = candidates (map below_one curve)

-- the place with the least value, the smallest place on a tie, then of those outside its zone the one with the least
-- value, and so on
abbrev pub regimes_of : List Ratio → ℕ → ℕ → List ℕ
regimes_of curve zone count = map place_of (picks (by_key ratio_cmp) place_of zone count (low_places curve))

-- the same without steps: at most so many places with a value below one, which rise by value and then by place, and of
-- which no two are in each other's zone. Every other such place is in the zone of one that comes before it, or comes
-- after as many as may be
abbrev pub AreRegimes : List Ratio → ℕ → ℕ → List ℕ → Type 0
AreRegimes curve zone count places = (chosen : List (Candidate Ratio)) × (places ≡ map place_of chosen)
    × ArePicked (by_key ratio_cmp) place_of zone count (low_places curve) chosen

-- ---- told by the two numbers of each fraction

abbrev pub parts_cmp : ℕ × ℕ → ℕ × ℕ → Ordering
parts_cmp a b = nat_cmp (a.0 * b.1) (b.0 * a.1)

abbrev pub parts_below_one : ℕ × ℕ → Option (ℕ × ℕ)
parts_below_one value = if nat_lt value.0 value.1 then Some value else None

abbrev pub low_parts : List (ℕ × ℕ) → List (Candidate (ℕ × ℕ))
low_parts curve = candidates (map parts_below_one curve)

abbrev pub regimes_in : List (ℕ × ℕ) → ℕ → ℕ → List ℕ
regimes_in curve zone count = map place_of (picks (by_key parts_cmp) place_of zone count (low_parts curve))
