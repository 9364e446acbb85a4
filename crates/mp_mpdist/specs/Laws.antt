-- What MPdist is, without an order being made.
use Rattle.std.specs.Prelude.{◌≡◌, ℕ, ◌<◌, ◌≤◌, nat_le, nat_lt, List, [], ◌++◌, length, All, Contains, count_by}
use Rattle.std.specs.Prelude.{MatchOption, Option}
use Rattle.mp_nums.specs.declared.nearest.Near.{Near}
use Rattle.mp_results.specs.Mpdist.{distances_of, place_of, mpdist_of}

-- one of the distances, so that more than `place` of them are at most it, and at most `place` are less
pub record IsAtPlace (place : ℕ) (distances : List ℕ) (answer : ℕ) : Type 0 where
  pub among : Contains distances answer
  pub at_most : place < count_by (λ d. nat_le d answer) distances
  pub less : count_by (λ d. nat_lt d answer) distances ≤ place

pub record IsGreatest (distances : List ℕ) (answer : ℕ) : Type 0 where
  pub among : Contains distances answer
  pub at_least : All (λ d. d ≤ answer) distances

-- the item at the place, the greatest distance where that item has none, and none where there is no distance
abbrev pub MpdistIsAtItsPlace : Type 0
MpdistIsAtItsPlace = (ab ba : List (Option Near)) (na nb : ℕ) →
    let distances = distances_of ab ba in
    let place = place_of na nb (length (ab ++ ba)) in
    MatchOption (mpdist_of ab ba na nb) (distances ≡ []) (λ answer.
    (place < length distances → IsAtPlace place distances answer.0)
    × (length distances ≤ place → IsGreatest distances answer.0))

-- no other number is there
abbrev pub PlacesHaveOneItem : Type 0
PlacesHaveOneItem = (place : ℕ) (distances : List ℕ) (a b : ℕ)
    → IsAtPlace place distances a → IsAtPlace place distances b → a ≡ b
