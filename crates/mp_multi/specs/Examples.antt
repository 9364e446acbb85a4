-- Profiles of two channels that were computed by hand, at window length 3.
use Rattle.std.specs.Prelude.{◌≡◌, ℕ, ℤ, pos, [], ◌∷◌, Option, Some, None}
use Rattle.mp_nums.specs.declared.nearest.Near.{Near}
use Rattle.mp_defs.specs.Series.{Series}
use Rattle.mp_defs.specs.Least.{near_at}
use Rattle.mp_results.specs.Multi.{multi_of}

abbrev found : ℕ → ℕ → Option Near
found d j = Some (near_at j d)

abbrev number : ℕ → Option ℤ
number n = Some (pos n)

-- 1 2 3 1 2 3 1
abbrev pub whole : Series
whole = number 1 ∷ number 2 ∷ number 3 ∷ number 1 ∷ number 2 ∷ number 3 ∷ number 1 ∷ []

-- 1 ? 3 1 2 3 1
abbrev pub gapped : Series
gapped = number 1 ∷ None ∷ number 3 ∷ number 1 ∷ number 2 ∷ number 3 ∷ number 1 ∷ []

-- 5 1 2 9 2 2 9
abbrev pub other : Series
other = number 5 ∷ number 1 ∷ number 2 ∷ number 9 ∷ number 2 ∷ number 2 ∷ number 9 ∷ []

pub record WorkedProfiles : Type 0 where
  -- windows 0 and 1 have the first channel alone
  pub nearest_channel : multi_of 3 1 (whole ∷ gapped ∷ [])
      ≡ found 0 3 ∷ found 0 4 ∷ found 6 0 ∷ found 0 0 ∷ found 0 1 ∷ []
  pub both_channels : multi_of 3 2 (whole ∷ gapped ∷ [])
      ≡ None ∷ None ∷ found 12 4 ∷ None ∷ found 12 2 ∷ []
  -- the lesser of both channels, which is now the one and now the other
  pub either_channel : multi_of 3 1 (whole ∷ other ∷ [])
      ≡ found 0 3 ∷ found 0 4 ∷ found 6 0 ∷ found 0 0 ∷ found 0 1 ∷ []
  pub no_samples : multi_of 3 1 ([] ∷ []) ≡ []
