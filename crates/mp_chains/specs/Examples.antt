-- Chains that were computed by hand.
use Rattle.std.specs.Prelude.{◌≡◌, ℕ, List, [], ◌∷◌, Option, Some, None}
use Rattle.mp_nums.specs.declared.nearest.Near.{Near}
use Rattle.mp_results.specs.Chains.{chain_from, chains_of, longest_of}

abbrev at : ℕ → Option Near
at j = Some (record { dist = record { 0 = 0 }; index = j })

-- two columns: 1 follows 0, and 2 follows 1
abbrev left : List (Option Near)
left = None ∷ at 0 ∷ at 1 ∷ None ∷ []

abbrev right : List (Option Near)
right = at 1 ∷ at 2 ∷ None ∷ None ∷ []

-- 0 and 1 both name 3 to the right, and 3 names 0
abbrev near_left : List (Option Near)
near_left = None ∷ None ∷ at 0 ∷ at 0 ∷ []

abbrev near_right : List (Option Near)
near_right = at 3 ∷ at 3 ∷ None ∷ None ∷ []

-- where all are equally near, 0 names 2, 1 names 3, and 2 and 3 name 0
abbrev tied_right : List (Option Near)
tied_right = at 2 ∷ at 3 ∷ None ∷ None ∷ []

pub record WorkedChains : Type 0 where
  pub from_start : chain_from left right 0 ≡ 0 ∷ 1 ∷ 2 ∷ []
  pub from_within : chain_from left right 1 ≡ 1 ∷ 2 ∷ []
  pub all : chains_of left right ≡ (0 ∷ 1 ∷ 2 ∷ []) ∷ (3 ∷ []) ∷ []
  pub longest : longest_of (chains_of left right) ≡ Some 0
  pub near : chain_from near_left near_right 0 ≡ 0 ∷ 3 ∷ []
  pub tied : chains_of near_left tied_right ≡ (0 ∷ 2 ∷ []) ∷ (1 ∷ []) ∷ (3 ∷ []) ∷ []
  pub first_longest : longest_of ((3 ∷ []) ∷ (0 ∷ 2 ∷ []) ∷ (1 ∷ 4 ∷ []) ∷ []) ≡ Some 1
  pub no_windows : chains_of [] [] ≡ []
  pub no_chains : longest_of [] ≡ None
