-- Candidates are told apart by their places.
use Rattle.std.proofs.Common.{◌≡◌, ℕ, zero, suc, ◌+◌, ◌<◌, List, [], ◌∷◌, length, get_or, eqb-true, sym, ap}
use Rattle.std.proofs.Common.{◌∙◌, ⊎_elim, arith}
use Rattle.std.specs.Prelude.{Option, Some, None, Contains, filter_map}
use Rattle.std.specs.Cmp.{IsTotalOrder, then_total, on_total, nat_cmp_total, unsigned_tied}
use Rattle.std.specs.List.{enumerate_from}
use Rattle.std.specs.Ordering.{nat_cmp, is_eq, ordering_then}
use Rattle.std.specs.declared.cmp.Ordering.{Ordering}
use Rattle.std.specs.declared.cmp.Ordering.TheVariants.{Less, Equal, Greater}
use Rattle.mp_picks.specs.declared.candidates.Candidate.{Candidate}
use Rattle.mp_picks.specs.Candidates.{by_key, candidate_at, candidates}
use Rattle.mp_picks.specs.Laws.{AreToldApart}
use Rattle.mp_picks.specs.PickLaws.{contains_nothing, contains_cases}

-- where two orders one behind the other tie, both do
pub second_ties : (a b : Ordering) → ordering_then a b ≡ Equal → b ≡ Equal
second_ties Less b e = cc
second_ties Equal b e = e
second_ties Greater b e = cc

pub same_number : (a b : ℕ) → nat_cmp a b ≡ Equal → a ≡ b
same_number a b e = eqb-true a b (sym (unsigned_tied a b) ∙ ap is_eq e)

module _ {K : Type 0} where
  pub by_key_total : (cmp : K → K → Ordering) → IsTotalOrder cmp → IsTotalOrder (by_key cmp)
  by_key_total cmp order = then_total (on_total (λ c. c.key) order) (on_total (λ c. c.place) nat_cmp_total)

  -- the key of place k, of places that are counted from i
  abbrev HasKeyFrom : ℕ → List (Option K) → Candidate K → Type 0
  HasKeyFrom i keys c = (k : ℕ) × (k < length keys) × (c.place ≡ i + k) × (get_or keys k None ≡ Some c.key)

  later_key : (i : ℕ) (key : Option K) (keys : List (Option K)) (c : Candidate K) → HasKeyFrom (i + 1) keys c
      → HasKeyFrom i (key ∷ keys) c
  later_key i key keys c h = (suc h.0, (let lt = h.1 in omega arith), (let e = h.2 in omega arith), h.3)

  keyed_from : (i : ℕ) (keys : List (Option K)) (c : Candidate K)
      → Contains (filter_map candidate_at (enumerate_from i keys)) c → HasKeyFrom i keys c
  keyed_from i [] c h = absurd (contains_nothing c h)
  keyed_from i (None ∷ keys) c h = later_key i None keys c (keyed_from (i + 1) keys c h)
  keyed_from i (Some key ∷ keys) c h =
      ⊎_elim (λ same. (
        zero,
        omega arith,
        (let e = ap (λ (d : Candidate K). d.place) same in omega arith),
        ap
            (λ (d : Candidate K). Some d.key) same,
      ))
      (λ later. later_key i (Some key) keys c (keyed_from (i + 1) keys c later))
      (contains_cases (record { key = key; place = i }) c (filter_map candidate_at (enumerate_from (i + 1) keys)) h)

  -- a candidate's place is one of the list's, and has its key
  pub candidate_has_key : (keys : List (Option K)) (c : Candidate K) → Contains (candidates keys) c
      → (c.place < length keys) × (get_or keys c.place None ≡ Some c.key)
  candidate_has_key keys c h =
      let found = keyed_from 0 keys c h in
      let place : c.place ≡ found.0 = (let e = found.2 in omega arith) in
      (omega (arith, place, found.1), ap (λ k. get_or keys k None) place ∙ found.3)

  some_same : (x y : K) → Some x ≡ Some y → x ≡ y
  some_same x y e = cc

  same_candidate : (x y : Candidate K) → x.key ≡ y.key → x.place ≡ y.place → x ≡ y
  same_candidate x y e f i = record { key = e i; place = f i }

  pub candidates_told_apart : (cmp : K → K → Ordering) (keys : List (Option K))
      → AreToldApart (by_key cmp) (candidates keys)
  candidates_told_apart cmp keys x y h k e =
      let place = same_number x.place y.place (second_ties (cmp x.key y.key) (nat_cmp x.place y.place) e) in
      let key = sym (candidate_has_key keys x h).1 ∙ ap (λ p. get_or keys p None) place
      ∙ (candidate_has_key keys y k).1 in
      same_candidate x y (some_same x.key y.key key) place
