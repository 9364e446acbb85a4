-- The choice described without steps.
use Rattle.std.specs.Prelude.{◌≡◌, ℕ, ◌<◌, ◌≤◌, ◌⊎◌, ◌↔◌, List, map, filter_map, length, All, Any, AllPairs, Contains}
use Rattle.std.specs.Prelude.{Option}
use Rattle.std.specs.Cmp.{IsTotalOrder}
use Rattle.std.specs.Int.{abs_diff}
use Rattle.std.specs.List.{enumerate_from}
use Rattle.std.specs.Option.{option_map}
use Rattle.std.specs.declared.cmp.Ordering.{Ordering}
use Rattle.std.specs.declared.cmp.Ordering.TheVariants.{Less, Equal}
use Rattle.mp_picks.specs.declared.candidates.Candidate.{Candidate}
use Rattle.mp_picks.specs.Picks.{picks}
use Rattle.mp_picks.specs.Candidates.{by_key, place_of, candidate_at, candidates}

-- the order tells any two different ones of these apart
abbrev pub AreToldApart : {X : Type 0} → (X → X → Ordering) → List X → Type 0
AreToldApart {X} cmp xs = (x y : X) → Contains xs x → Contains xs y → cmp x y ≡ Equal → x ≡ y

module _ {X : Type 0} (cmp : X → X → Ordering) (place : X → ℕ) (zone count : ℕ) where
  -- x is chosen, or lies in the zone of a chosen one that comes before it, or comes after as many as may be chosen
  abbrev pub IsAnswered : List X → X → Type 0
  IsAnswered chosen x =
      Contains chosen x
      ⊎ Any (λ y. (cmp y x ≡ Less) × (abs_diff (place y) (place x) ≤ zone)) chosen
      ⊎ (length chosen ≡ count) × All (λ y. cmp y x ≡ Less) chosen

  -- the chosen ones are at most so many of the candidates, each comes before those behind it, their places are further
  -- apart than the zone, and each candidate is answered by them
  pub record ArePicked (candidates chosen : List X) : Type 0 where
    pub few : length chosen ≤ count
    pub among : All (Contains candidates) chosen
    pub rising : AllPairs (λ x y. cmp x y ≡ Less) chosen
    pub apart : AllPairs (λ x y. zone < abs_diff (place x) (place y)) chosen
    pub others : (x : X) → Contains candidates x → IsAnswered chosen x

-- the description has one answer: those that are chosen step by step
abbrev pub PicksAreDescribed : Type 0 → Type 0
PicksAreDescribed X = (cmp : X → X → Ordering) (place : X → ℕ) (zone count : ℕ) (candidates chosen : List X)
    → IsTotalOrder cmp → AreToldApart cmp candidates
    → ArePicked cmp place zone count candidates chosen ↔ (chosen ≡ picks cmp place zone count candidates)

module _ {K Y : Type 0} where
  -- candidates told in other words, in the same order and at the same places
  pub record IsRetelling (cmp : K → K → Ordering) (order : Y → Y → Ordering) (place : Y → ℕ)
      (tell : Candidate K → Y) : Type 0 where
    pub order_is : (a b : Candidate K) → order (tell a) (tell b) ≡ by_key cmp a b
    pub place_is : (a : Candidate K) → place (tell a) ≡ a.place

  -- what own words say of each item of a list is what is told of its key, by its place
  abbrev pub SaysTheSame : {V : Type 0} → (Candidate K → Y) → (ℕ × V → Option K) → (ℕ × V → Option Y) → Type 0
  SaysTheSame {V} tell key own = (i : ℕ) (x : V) → option_map tell (candidate_at (i, key (i, x))) ≡ own (i, x)

-- what is chosen by the keys of a list's items is chosen in own words, which tell the candidates apart
abbrev pub PicksAreRetold : Type 0 → Type 0 → Type 0 → Type 0
PicksAreRetold K V Y = (cmp : K → K → Ordering) (order : Y → Y → Ordering) (place : Y → ℕ) (tell : Candidate K → Y)
    → IsRetelling cmp order place tell
    → (key : ℕ × V → Option K) (own : ℕ × V → Option Y) → SaysTheSame tell key own → (xs : List V) (zone count : ℕ)
    → (map tell (picks (by_key cmp) place_of zone count (candidates (map key (enumerate_from 0 xs))))
    ≡ picks order place zone count (filter_map own (enumerate_from 0 xs)))
    × AreToldApart order (filter_map own (enumerate_from 0 xs))
