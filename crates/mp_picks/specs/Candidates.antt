-- Places that may be chosen, by a key.
use Rattle.std.specs.Prelude.{ℕ, List, filter_map, Option}
use Rattle.std.specs.List.{enumerate_from}
use Rattle.std.specs.Option.{option_map}
use Rattle.std.specs.Ordering.{nat_cmp, on, then_cmp}
use Rattle.std.specs.declared.cmp.Ordering.{Ordering}
use Rattle.std.specs.declared.cmp.Reverse.{Reverse}
use Rattle.mp_picks.specs.declared.candidates.Candidate.{Candidate}

module _ {K : Type 0} where
  -- by key, and then by place
  abbrev pub by_key : (K → K → Ordering) → Candidate K → Candidate K → Ordering
  by_key cmp = then_cmp (on (λ c. c.key) cmp) (on (λ c. c.place) nat_cmp)

  abbrev pub place_of : Candidate K → ℕ
  place_of c = c.place

  -- a place, where it has a key
  abbrev pub candidate_at : ℕ × Option K → Option (Candidate K)
  candidate_at (place, key) = option_map (λ k. record { key = k; place = place }) key

  -- the places that have a key, in their order
  abbrev pub candidates : List (Option K) → List (Candidate K)
  candidates keys = filter_map candidate_at (enumerate_from 0 keys)

  -- a candidate as a heap has it, whose greatest is the first
  abbrev pub reversed : Candidate K → Reverse (Candidate K)
  reversed c = record { 0 = c }
