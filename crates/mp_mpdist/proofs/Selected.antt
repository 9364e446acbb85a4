-- The distance at a place is told by how many are less and how many are at most it.
use Rattle.std.proofs.Common.{◌≡◌, ℕ, ◌-◌, ◌<◌, ◌≤◌, min, Bool, true, false, List, [], ◌∷◌, ◌++◌, length, get_or}
use Rattle.std.proofs.Common.{None, Some, nat_cmp, refl, ap, ◌∙◌, arith}
use Rattle.std.specs.Prelude.{nat_le, nat_lt, if◌then◌else◌, slice_get}
use Rattle.std.specs.List.Sorted.{IsPermutation, IsSplitAround}
use Rattle.std.proofs.lemmas.Bool.Decides.{nat_tests}
use Rattle.std.proofs.lemmas.List.Sums.{sum_by-append, count_by-le-length}
use Rattle.std.proofs.lemmas.List.Sorted.{sum_by-IsPermutation}
use Rattle.std.proofs.lemmas.Option.{slice_get-get_or}
use Rattle.mp_results.specs.Mpdist.{in_rising_order, at_or_greatest}
use Rattle.mp_mpdist.proofs.Counts.{tally, count_by-cons, count_by-all, count_by-none}
use Rattle.mp_mpdist.proofs.Rising.{less_than, up_to, IsRising-in_rising_order, count_by-in_rising_order}
use Rattle.mp_mpdist.proofs.Rising.{length-in_rising_order, only_at_place}

past : (place : ℕ) (b : Bool) → (if b then slice_get {X = ℕ} [] place else slice_get [] 0) ≡ None
past place true = refl
past place false = refl

pub at_or_greatest-none : (place : ℕ) (ds : List ℕ) → ds ≡ [] → at_or_greatest place (in_rising_order ds) ≡ None
unfolding in_rising_order
at_or_greatest-none place ds none = rw none (past place (nat_lt place 0))

by_test : (place : ℕ) (rising : List ℕ) → 0 < length rising → (b : Bool) → nat_lt place (length rising) ≡ b
    → (if b then slice_get rising place else slice_get rising (length rising - 1))
    ≡ Some (get_or rising (min place (length rising - 1)) 0)
by_test place rising some true is =
    let within : place < length rising = grind (arith, nat_tests) in
    let here : place ≡ min place (length rising - 1) = omega arith in
    slice_get-get_or rising place 0 within ∙ ap (λ k. Some (get_or rising k 0)) here
by_test place rising some false is =
    let past : length rising ≤ place = grind (arith, nat_tests) in
    let here : length rising - 1 ≡ min place (length rising - 1) = omega arith in
    slice_get-get_or rising (length rising - 1) 0 (omega arith) ∙ ap (λ k. Some (get_or rising k 0)) here

pub at_or_greatest-some : (place : ℕ) (rising : List ℕ) → 0 < length rising
    → at_or_greatest place rising ≡ Some (get_or rising (min place (length rising - 1)) 0)
at_or_greatest-some place rising some = by_test place rising some (nat_lt place (length rising)) refl

-- of numbers that are split around one
pub less_than-split : (front back : List ℕ) (x : ℕ) → IsSplitAround nat_cmp front x back
    → less_than x (front ++ x ∷ back) ≤ length front
less_than-split front back x split =
    let none = count_by-none (λ d. nat_lt d x) back (λ k d within.
    let not_less = split.1 k d within in grind (arith, nat_tests)) in
    let itself = count_by-cons (λ d. nat_lt d x) x back in
    let not_itself : tally (nat_lt x x) ≡ 0 = grind (arith, nat_tests) in
    let parts = sum_by-append (λ d. if nat_lt d x then 1 else 0) front (x ∷ back) in
    omega (arith, none, itself, not_itself, parts, count_by-le-length (λ d. nat_lt d x) front)

pub up_to-split : (front back : List ℕ) (x : ℕ) → IsSplitAround nat_cmp front x back
    → length front < up_to x (front ++ x ∷ back)
up_to-split front back x split =
    let all = count_by-all (λ d. nat_le d x) front (λ k d within.
    let not_more = split.0 k d within in grind (arith, nat_tests)) in
    let itself = count_by-cons (λ d. nat_le d x) x back in
    let is_itself : tally (nat_le x x) ≡ 1 = grind (arith, nat_tests) in
    omega (arith, all, itself, is_itself, sum_by-append (λ d. if nat_le d x then 1 else 0) front (x ∷ back))

-- the one that a selection finds
pub at_or_greatest-selected : (place x : ℕ) (ds front back : List ℕ) → 0 < length ds
    → IsPermutation ds (front ++ x ∷ back) → length front ≡ min place (length ds - 1)
    → IsSplitAround nat_cmp front x back → at_or_greatest place (in_rising_order ds) ≡ Some x
at_or_greatest-selected place x ds front back some permutation at split =
    let rising = in_rising_order ds in
    let long : length rising ≡ length ds = length-in_rising_order ds in
    let less : less_than x rising ≤ length front = omega (
      arith,
      less_than-split front back x split,
      sum_by-IsPermutation (λ d. if nat_lt d x then 1 else 0) ds (front ++ x ∷ back) permutation,
      count_by-in_rising_order (λ d. nat_lt d x) ds,
    ) in
    let more : length front < up_to x rising = omega (
      arith,
      up_to-split front back x split,
      sum_by-IsPermutation (λ d. if nat_le d x then 1 else 0) ds (front ++ x ∷ back) permutation,
      count_by-in_rising_order (λ d. nat_le d x) ds,
    ) in
    let here : min place (length rising - 1) ≡ length front = omega arith in
    at_or_greatest-some place rising (omega arith)
    ∙ ap (λ k. Some (get_or rising k 0)) here
    ∙ ap Some (only_at_place rising (length front) x (IsRising-in_rising_order ds) less more)
