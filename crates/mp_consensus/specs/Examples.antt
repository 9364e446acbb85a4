-- Centres that were computed by hand, at window length 3.
use Rattle.std.specs.Prelude.{◌≡◌, ℕ, ℤ, pos, List, [], ◌∷◌, Option, Some, None}
use Rattle.mp_nums.specs.declared.nearest.Near.{Near}
use Rattle.mp_defs.specs.Series.{Series}
use Rattle.mp_defs.specs.Least.{near_at}
use Rattle.mp_results.specs.Consensus.{Central, centre_of}

abbrev number : ℕ → Option ℤ
number n = Some (pos n)

abbrev pub rising : Series
rising = number 1 ∷ number 2 ∷ number 3 ∷ number 4 ∷ []

abbrev pub late : Series
late = number 9 ∷ number 1 ∷ number 2 ∷ number 3 ∷ []

abbrev pub early : Series
early = number 2 ∷ number 3 ∷ number 4 ∷ number 9 ∷ []

-- 1 2 ? 3
abbrev pub gapped : Series
gapped = number 1 ∷ number 2 ∷ None ∷ number 3 ∷ []

abbrev centre : ℕ → ℕ → ℕ → List Near → Option Central
centre radius series start nearest =
    Some (record { radius = radius; series = series; start = start; nearest = nearest })

pub record WorkedCentres : Type 0 where
  -- 1 2 3 of the first lies at 0 from the second and at 3 from the third, and 2 3 4 as far the other way round
  pub first_of_equals : centre_of 3 (rising ∷ late ∷ early ∷ [])
      ≡ centre 3 0 0 (near_at 0 0 ∷ near_at 1 0 ∷ near_at 0 3 ∷ [])
  pub in_another_order : centre_of 3 (late ∷ early ∷ rising ∷ [])
      ≡ centre 3 0 1 (near_at 1 0 ∷ near_at 0 3 ∷ near_at 0 0 ∷ [])
  -- a series that stands twice in the list
  pub same_twice : centre_of 3 (late ∷ late ∷ []) ≡ centre 0 0 0 (near_at 0 0 ∷ near_at 0 0 ∷ [])
  pub no_free_window : centre_of 3 (rising ∷ gapped ∷ []) ≡ None
  pub no_samples : centre_of 3 (rising ∷ late ∷ [] ∷ []) ≡ None
