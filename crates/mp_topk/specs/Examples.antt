-- Ranks that were computed by hand, at window length 3.
use Rattle.std.specs.Prelude.{◌≡◌, [], ◌∷◌}
use Rattle.mp_defs.specs.Least.{near_at}
use Rattle.mp_defs.specs.Examples.{plain, tied}
use Rattle.mp_results.specs.Ranks.{ranks_of}

-- of 1 2 3 1 2 3
abbrev pub PlainRanks : Type 0
PlainRanks = ranks_of 2 3 plain
    ≡ (near_at 3 0 ∷ near_at 2 6 ∷ []) ∷ (near_at 3 6 ∷ []) ∷ (near_at 0 6 ∷ []) ∷
    (near_at 0 0 ∷ near_at 1 6 ∷ []) ∷ []

-- of 5 5 5 5 5 5
abbrev pub TiedRanks : Type 0
TiedRanks = ranks_of 2 3 tied
    ≡ (near_at 2 0 ∷ near_at 3 0 ∷ []) ∷ (near_at 3 0 ∷ []) ∷ (near_at 0 0 ∷ []) ∷
    (near_at 0 0 ∷ near_at 1 0 ∷ []) ∷ []
