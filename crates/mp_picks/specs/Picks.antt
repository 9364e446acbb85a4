-- Who is chosen: the one that comes first, then of those outside its zone the one that comes first, and so on.
use Rattle.std.specs.Prelude.{ℕ, zero, suc, List, [], ◌∷◌, filter, nat_lt, if◌then◌else◌, Option, Some, None}
use Rattle.std.specs.Int.{abs_diff}
use Rattle.std.specs.Option.{option_map_or}
use Rattle.std.specs.Ordering.{is_lt}
use Rattle.std.specs.declared.cmp.Ordering.{Ordering}

module _ {X : Type 0} (cmp : X → X → Ordering) where
  -- of two, of which the second may not be there, the one that comes first
  abbrev pub earlier_of : X → Option X → X
  earlier_of x None = x
  earlier_of x (Some y) = if is_lt (cmp y x) then y else x

  -- the one that comes first of all
  unfoldable pub first_of : List X → Option X
  first_of [] = None
  first_of (x ∷ xs) = Some (earlier_of x (first_of xs))

module _ {X : Type 0} (cmp : X → X → Ordering) (place : X → ℕ) (zone : ℕ) where
  -- those whose places are further from the place of x than the zone
  abbrev pub outside : X → List X → List X
  outside x xs = filter (λ y. nat_lt zone (abs_diff (place x) (place y))) xs

  -- at most so many of the candidates: the first one, and those chosen of the ones outside its zone
  unfoldable pub picks : ℕ → List X → List X
  picks zero xs = []
  picks (suc count) xs = option_map_or (λ x. x ∷ picks count (outside x xs)) (first_of cmp xs) []
