-- A choice that was made by hand.
use Rattle.std.specs.Prelude.{◌≡◌, ℕ, List, [], ◌∷◌, Option, Some, None}
use Rattle.std.specs.Ordering.{nat_cmp}
use Rattle.mp_picks.specs.declared.candidates.Candidate.{Candidate}
use Rattle.mp_picks.specs.Picks.{picks}
use Rattle.mp_picks.specs.Candidates.{by_key, place_of, candidates}

-- place 3 has no key
abbrev pub keys : List (Option ℕ)
keys = Some 4 ∷ Some 1 ∷ Some 2 ∷ None ∷ Some 2 ∷ Some 1 ∷ []

abbrev pub chosen : ℕ → ℕ → List (Candidate ℕ)
chosen zone count = picks (by_key nat_cmp) place_of zone count (candidates keys)

abbrev pub at : ℕ → ℕ → Candidate ℕ
at place key = record { key = key; place = place }

pub record ChosenByHand : Type 0 where
  -- of the two least, the smaller place comes first
  pub alone : chosen 1 1 ≡ at 1 1 ∷ []
  -- places 0, 2 and 4 lie in the zones of 1 and 5
  pub apart : chosen 1 9 ≡ at 1 1 ∷ at 5 1 ∷ []
  -- a place's own zone is itself, where the zone is 0
  pub all : chosen 0 9 ≡ at 1 1 ∷ at 5 1 ∷ at 2 2 ∷ at 4 2 ∷ at 0 4 ∷ []
