-- Why candidates are in order, and the first of them is the nearest.
use Rattle.std.specs.Prelude.{◌≡◌, ℕ, zero, suc, ◌+◌, ◌<◌, ◌≤◌, ◌⊎◌, Bool, true, false, if◌then◌else◌, List, []}
use Rattle.std.specs.Prelude.{◌∷◌, take, slice_get, Option, Some, None}
use Rattle.std.proofs.Common.{arith, refl, sym, ap, ◌∙◌, inl, inr, subst}
use Rattle.mp_nums.specs.declared.nearest.Near.{Near}
use Rattle.mp_nums.specs.Near.{comes_before, nearer_of}
use Rattle.mp_defs.specs.Window.{is_allowed}
use Rattle.mp_defs.specs.Least.{near}
use Rattle.mp_defs.specs.LeastLaws.{grows_by_one_candidate}
use Rattle.mp_defs.specs.Profile.{windows_of}
use Rattle.mp_results.specs.Ranks.{in_order, put, put_if_there}
use Rattle.mp_topk.specs.Laws.{CandidatesAreInOrder, FirstIsEntry, IsCandidate, StandsIn}
use Rattle.mp_topk.specs.Taking.{chosen}
use Rattle.mp_topk.specs.TakingLaws.{order_rises, same_window}

-- ---- the first

first_by : (x y : Near) (ys : List Near) (first second : Bool)
    → slice_get (if first then x ∷ y ∷ ys else if second then y ∷ put x ys else y ∷ ys) 0
    ≡ (if first then Some x else Some y)
first_by x y ys true second = refl
first_by x y ys false true = refl
first_by x y ys false false = refl

first_put : (x : Near) (xs : List Near) → slice_get (put x xs) 0 ≡ nearer_of (slice_get xs 0) (Some x)
unfolding put
first_put x [] = refl
first_put x (y ∷ ys) = first_by x y ys (comes_before x y) (comes_before y x)

first_if_there : (x : Option Near) (xs : List Near)
    → slice_get (put_if_there x xs) 0 ≡ nearer_of (slice_get xs 0) x
first_if_there None [] = refl
first_if_there None (y ∷ ys) = refl
first_if_there (Some x) xs = first_put x xs

pub first_is_near : (c : ℕ → Option Near) (n : ℕ) → slice_get (in_order c n) 0 ≡ near c n
unfolding in_order
first_is_near c zero = sym (grows_by_one_candidate.no_candidates c)
first_is_near c (suc n) =
    let one : n + 1 ≡ suc n = omega arith in
    first_if_there (c n) (in_order c n) ∙ ap (λ x. nearer_of x (c n)) (first_is_near c n)
    ∙ subst (λ m. nearer_of (near c n) (c n) ≡ near c m) one (sym (grows_by_one_candidate.one_more c n))

first_taken : (k : ℕ) (xs : List Near) → 1 ≤ k → slice_get (take k xs) 0 ≡ slice_get xs 0
first_taken zero xs le = absurd (omega (arith, le))
first_taken (suc k) [] le = refl
first_taken (suc k) (x ∷ xs) le = refl

pub first_is_entry : FirstIsEntry
first_is_entry k m a i le = first_taken k (in_order (chosen (is_allowed m) m a i) (windows_of m a)) le
    ∙ first_is_near (chosen (is_allowed m) m a i) (windows_of m a)

-- ---- all of them

stands_by : (x y z : Near) (ys : List Near) (first second : Bool) → (z ≡ y) ⊎ StandsIn z ys
    → (StandsIn z ys → StandsIn z (put x ys))
    → StandsIn z (if first then x ∷ y ∷ ys else if second then y ∷ put x ys else y ∷ ys)
unfolding StandsIn
stands_by x y z ys true second h f = inr h
stands_by x y z ys false true (inl e) f = inl e
stands_by x y z ys false true (inr h) f = inr (f h)
stands_by x y z ys false false h f = h

still_stands : (x z : Near) (xs : List Near) → StandsIn z xs → StandsIn z (put x xs)
unfolding StandsIn put
still_stands x z [] h = absurd h
still_stands x z (y ∷ ys) h = stands_by x y z ys (comes_before x y) (comes_before y x) h (still_stands x z ys)

new_by : (x y : Near) (ys : List Near) (first second : Bool) → comes_before x y ≡ first
    → comes_before y x ≡ second
    → StandsIn x (put x ys)
    → StandsIn x (if first then x ∷ y ∷ ys else if second then y ∷ put x ys else y ∷ ys)
unfolding StandsIn
new_by x y ys true second e f h = inl refl
new_by x y ys false true e f h = inr h
new_by x y ys false false e f h = inl (same_window x y e f)

new_stands : (x : Near) (xs : List Near) → StandsIn x (put x xs)
unfolding StandsIn put
new_stands x [] = inl refl
new_stands x (y ∷ ys) = new_by x y ys (comes_before x y) (comes_before y x) refl refl (new_stands x ys)

from_by : (x y z : Near) (ys : List Near) (first second : Bool)
    → (StandsIn z (put x ys) → (z ≡ x) ⊎ StandsIn z ys)
    → StandsIn z (if first then x ∷ y ∷ ys else if second then y ∷ put x ys else y ∷ ys)
    → (z ≡ x) ⊎ ((z ≡ y) ⊎ StandsIn z ys)
unfolding StandsIn
from_by x y z ys true second f h = h
from_by x y z ys false true f (inl e) = inr (inl e)
from_by x y z ys false true f (inr h) = elim (f h) [ inl e ↦ inl e | inr k ↦ inr (inr k) ]
from_by x y z ys false false f h = inr h

pub stood_before : (x z : Near) (xs : List Near) → StandsIn z (put x xs) → (z ≡ x) ⊎ StandsIn z xs
unfolding StandsIn put
stood_before x z [] h = h
stood_before x z (y ∷ ys) h = from_by x y z ys (comes_before x y) (comes_before y x) (stood_before x z ys) h

one_more_candidate : (c : ℕ → Option Near) (n : ℕ) (x : Near) → IsCandidate c n x → IsCandidate c (suc n) x
one_more_candidate c n x h = record { place = h.place; below = omega (arith, h.below); chosen = h.chosen }

candidates_by : (c : ℕ → Option Near) (n : ℕ) (x : Near) (y : Option Near) → c n ≡ y
    → (StandsIn x (in_order c n) → IsCandidate c n x) → StandsIn x (put_if_there y (in_order c n))
    → IsCandidate c (suc n) x
candidates_by c n x None e f h = one_more_candidate c n x (f h)
candidates_by c n x (Some y) e f h = elim (stood_before y x (in_order c n) h) [
  | inl same ↦ record { place = n; below = omega arith; chosen = e ∙ ap Some (sym same) }
  | inr there ↦ one_more_candidate c n x (f there)
]

are_candidates : (c : ℕ → Option Near) (n : ℕ) (x : Near) → StandsIn x (in_order c n) → IsCandidate c n x
unfolding in_order StandsIn
are_candidates c zero x h = absurd h
are_candidates c (suc n) x h = candidates_by c n x (c n) refl (are_candidates c n x) h

candidates_stand : (c : ℕ → Option Near) (n j : ℕ) (x : Near) → j < n → c j ≡ Some x
    → StandsIn x (in_order c n)
unfolding in_order
candidates_stand c zero j x lt e = absurd (omega (arith, lt))
candidates_stand c (suc n) j x lt e = elim (last_or_before n j lt) [
  | inl same ↦ last (subst (λ i. c i ≡ Some x) same e)
  | inr less ↦ before (c n) (candidates_stand c n j x less e)
]
  where
    last_or_before : (n j : ℕ) → j < suc n → (j ≡ n) ⊎ (j < n)
    last_or_before zero zero lt = inl refl
    last_or_before zero (suc j) lt = absurd (omega (arith, lt))
    last_or_before (suc n) zero lt = inr (omega arith)
    last_or_before (suc n) (suc j) lt = elim (last_or_before n j (omega (arith, lt))) [
      | inl e ↦ inl (ap suc e)
      | inr less ↦ inr (omega (arith, less))
    ]

    last : c n ≡ Some x → StandsIn x (put_if_there (c n) (in_order c n))
    last f = subst (λ y. StandsIn x (put_if_there y (in_order c n))) (sym f) (new_stands x (in_order c n))

    before : (y : Option Near) → StandsIn x (in_order c n) → StandsIn x (put_if_there y (in_order c n))
    before None h = h
    before (Some y) h = still_stands y x (in_order c n) h

pub candidates_in_order : CandidatesAreInOrder
candidates_in_order c n = record {
  rising = order_rises c n;
  candidates = λ x. (are_candidates c n x, λ h. candidates_stand c n h.place x h.below h.chosen);
}
