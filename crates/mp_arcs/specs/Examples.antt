-- Arcs, curves and regimes that were computed by hand.
use Rattle.std.specs.Prelude.{◌≡◌, ℕ, List, [], ◌∷◌, map, Option, None, Some}
use Rattle.std.proofs.Common.{lit<}
use Rattle.mp_nums.specs.declared.ratios.Ratio.{Ratio}
use Rattle.mp_results.specs.Arcs.{arcs_of}
use Rattle.mp_results.specs.Curve.{parts_of, whole, curve_of}
use Rattle.mp_results.specs.Regimes.{regimes_of}

-- 0 and 1 name each other, and so do 2 and 3
abbrev pub pairs : List (Option ℕ)
pairs = Some 1 ∷ Some 0 ∷ Some 3 ∷ Some 2 ∷ []

abbrev one : Ratio
one = record { num = 1; den = 1; positive = lit< tt }

abbrev none_of_six : Ratio
none_of_six = record { num = 0; den = 6; positive = lit< tt }

abbrev pub curve : List Ratio
curve = one ∷ none_of_six ∷ one ∷ none_of_six ∷ []

pub record WorkedArcs : Type 0 where
  pub counts : arcs_of pairs ≡ 2 ∷ 0 ∷ 2 ∷ 0 ∷ []
  pub crossing : arcs_of (Some 3 ∷ Some 3 ∷ Some 0 ∷ Some 0 ∷ []) ≡ 3 ∷ 4 ∷ 3 ∷ 0 ∷ []
  pub changed : arcs_of (Some 3 ∷ Some 0 ∷ Some 3 ∷ Some 2 ∷ []) ≡ 2 ∷ 1 ∷ 3 ∷ 0 ∷ []
  pub unnamed : arcs_of (None ∷ Some 0 ∷ []) ≡ 1 ∷ 0 ∷ []
  pub values : curve_of (2 ∷ 0 ∷ 2 ∷ 0 ∷ []) 3 0 ≡ map parts_of curve
  pub all_ends : curve_of (2 ∷ 0 ∷ 2 ∷ 0 ∷ []) 3 1 ≡ whole ∷ whole ∷ whole ∷ whole ∷ []
  pub regimes : regimes_of curve 0 3 ≡ 1 ∷ 3 ∷ []
  pub apart : regimes_of curve 2 3 ≡ 1 ∷ []
  pub none : regimes_of (one ∷ one ∷ one ∷ one ∷ []) 0 3 ≡ []
