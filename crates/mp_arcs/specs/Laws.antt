-- What holds of arcs, of their curve and of regimes, in the subject's own words.
use Rattle.std.specs.Prelude.{◌≡◌, ℕ, ◌+◌, ◌<◌, ◌≤◌, ◌↔◌, List, All, map, Option}
use Rattle.mp_nums.specs.declared.ratios.Ratio.{Ratio}
use Rattle.mp_results.specs.Arcs.{arc_count}
use Rattle.mp_results.specs.Curve.{curve_of, parts_of}
use Rattle.mp_results.specs.Regimes.{regimes_of, regimes_in, AreRegimes}
use Rattle.mp_arcs.specs.Board.{begun_at, ended_at}

-- from place to place, the arcs that begin there come, and those that end there go
pub record ArcsComeAndGo : Type 0 where
  pub at_first : (indices : List (Option ℕ)) → arc_count indices 0 + ended_at indices 0 ≡ begun_at indices 0
  pub then_on : (indices : List (Option ℕ)) (t : ℕ)
      → arc_count indices (t + 1) + ended_at indices (t + 1) ≡ arc_count indices t + begun_at indices (t + 1)

-- no value of the curve is above one
abbrev pub CurveIsAtMostOne : Type 0
CurveIsAtMostOne = (arcs : List ℕ) (m factor : ℕ)
    → All (λ value. (value.0 ≤ value.1) × (0 < value.1)) (curve_of arcs m factor)

-- one list alone is that of the regimes
abbrev pub RegimesAreDescribed : Type 0
RegimesAreDescribed = (curve : List Ratio) (zone count : ℕ) (places : List ℕ)
    → AreRegimes curve zone count places ↔ (places ≡ regimes_of curve zone count)

-- the two numbers of each fraction tell the regimes
abbrev pub RegimesAreOfParts : Type 0
RegimesAreOfParts = (curve : List Ratio) (zone count : ℕ)
    → regimes_of curve zone count ≡ regimes_in (map parts_of curve) zone count
