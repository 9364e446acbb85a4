-- The choice by a heap, which holds those that were not looked at.
use Rattle.std.proofs.Common.{◌≡◌, ℕ, zero, suc, ◌+◌, ◌-◌, ◌<◌, ◌≤◌, Bool, true, false, cond, List}
use Rattle.std.proofs.Common.{[], ◌∷◌, ◌++◌, length, get_or, map, take, drop, refl, sym, ap, ◌∙◌, subst}
use Rattle.std.proofs.Common.{⊎_elim, append_assoc, append-nil, length-append, arith}
use Rattle.std.specs.Prelude.{All, Contains, ◌&&◌, filter, nat_lt, replicate}
use Rattle.std.specs.BinaryHeap.{IsHeap, IsUpperBound}
use Rattle.std.specs.Cmp.{IsTotalOrder}
use Rattle.std.specs.Int.{abs_diff}
use Rattle.std.specs.List.Sorted.{IsPermutation}
use Rattle.std.specs.Ordering.{is_lt}
use Rattle.std.specs.declared.cmp.Ordering.{Ordering}
use Rattle.std.specs.declared.cmp.Reverse.{Reverse}
use Rattle.std.proofs.Math.Seq.{take-append_seam}
use Rattle.std.proofs.lemmas.Bool.Decides.{nat_tests}
use Rattle.std.proofs.lemmas.List.Elements.{All-from_recursion, All-contains, All-map, All-tail}
use Rattle.std.proofs.lemmas.List.{length-replicate, get_or-replicate}
use Rattle.std.proofs.lemmas.List.Sorted.{IsPermutation-map, IsPermutation-sym, Contains-permutation, All-permutation}
use Rattle.mp_picks.specs.Picks.{first_of, outside, picks}
use Rattle.mp_picks.specs.Laws.{AreToldApart}
use Rattle.mp_picks.specs.PickLaws.{contains_first, contains_later, contains_cases, all_contained, kept_passes}
use Rattle.mp_picks.specs.PickLaws.{passes_kept, swapped, IsFirst, first_is_found, one_picked, same_candidates}

-- what stands in a list after all of it is written over
pub written_over : {X : Type 0} (n : ℕ) (new old : List X) → length new ≡ n
    → take n (new ++ drop (length new) old) ≡ new
written_over n new old e = ap (λ k. take k (new ++ drop (length new) old)) (sym e)
    ∙ take-append_seam new (drop (length new) old)

-- ---- filters

module _ {X : Type 0} where
  kept_first : (p : X → Bool) (x : X) (xs : List X) → p x ≡ true → filter p (x ∷ xs) ≡ x ∷ filter p xs
  kept_first p x xs e = ap (λ b. cond b (x ∷ filter p xs) (filter p xs)) e

  dropped_first : (p : X → Bool) (x : X) (xs : List X) → p x ≡ false → filter p (x ∷ xs) ≡ filter p xs
  dropped_first p x xs e = ap (λ b. cond b (x ∷ filter p xs) (filter p xs)) e

  twice_step : (q : X → Bool) (x : X) (xs ys : List X) (b : Bool) → filter q xs ≡ ys
      → filter q (cond b (x ∷ xs) xs) ≡ cond (b && q x) (x ∷ ys) ys
  twice_step q x xs ys false e = e
  twice_step q x xs ys true e = ap (λ zs. cond (q x) (x ∷ zs) zs) e

  -- those that pass one test and another
  kept_twice : (p q r : X → Bool) → ((x : X) → r x ≡ (p x && q x)) → (xs : List X)
      → filter q (filter p xs) ≡ filter r xs
  kept_twice p q r h [] = refl
  kept_twice p q r h (x ∷ xs) = twice_step q x (filter p xs) (filter r xs) (p x) (kept_twice p q r h xs)
      ∙ ap (λ b. cond b (x ∷ filter r xs) (filter r xs)) (sym (h x))

  kept_all : (p : X → Bool) (xs : List X) → ((x : X) → Contains xs x → p x ≡ true) → filter p xs ≡ xs
  kept_all p [] h = refl
  kept_all p (x ∷ xs) h = kept_first p x xs (h x (contains_first x xs))
      ∙ ap (λ ys. x ∷ ys) (kept_all p xs (λ y k. h y (contains_later x y xs k)))

  fewer_told_apart : (cmp : X → X → Ordering) (xs ys : List X) → ((x : X) → Contains ys x → Contains xs x)
      → AreToldApart cmp xs → AreToldApart cmp ys
  fewer_told_apart cmp xs ys among h x y k l e = h x y (among x k) (among y l) e

-- ---- what a heap holds

-- what stands in a heap whose greatest is the first
abbrev pub bare : {X : Type 0} → List (Reverse X) → List X
bare waiting = map (λ r. r.0) waiting

abbrev pub reversed_of : {X : Type 0} → X → Reverse X
reversed_of x = record { 0 = x }

-- those whose places aren't shut out
abbrev pub free_ones : {X : Type 0} → (X → ℕ) → List Bool → List X → List X
free_ones place is_free xs = filter (λ x. get_or is_free (place x) false) xs

module _ {X : Type 0} (cmp : X → X → Ordering) (place : X → ℕ) (zone count : ℕ) where
  -- those chosen so far, and those that would be chosen of the ones that wait, are the choice
  pub record IsChoosing (all : List X) (is_free : List Bool) (waiting : List (Reverse X))
      (chosen : List X) : Type 0 where
    pub heap : IsHeap (λ a b. cmp b.0 a.0) waiting
    pub within : All (λ r. place r.0 < length is_free) waiting
    pub apart : AreToldApart cmp (bare waiting)
    pub few : length chosen ≤ count
    pub whole : chosen ++ picks cmp place zone (count - length chosen) (free_ones place is_free (bare waiting))
        ≡ picks cmp place zone count all

  -- where as many are chosen as may be, or none waits, the choice is made
  pub chosen_enough : (all : List X) (is_free : List Bool) (waiting : List (Reverse X)) (chosen : List X)
      → IsChoosing all is_free waiting chosen → count ≤ length chosen → chosen ≡ picks cmp place zone count all
  unfolding picks
  chosen_enough all is_free waiting chosen h enough =
      let few = h.few in
      let none : count - length chosen ≡ 0 = omega arith in
      sym (append-nil chosen)
      ∙ ap (λ n. chosen ++ picks cmp place zone n (free_ones place is_free (bare waiting))) (sym none)
      ∙ h.whole

  none_left : (n : ℕ) → picks cmp place zone n [] ≡ []
  unfolding picks first_of
  none_left zero = refl
  none_left (suc n) = refl

  pub chosen_all : (all : List X) (is_free : List Bool) (waiting : List (Reverse X)) (chosen : List X)
      → IsChoosing all is_free waiting chosen → length waiting ≡ 0 → chosen ≡ picks cmp place zone count all
  chosen_all all is_free [] chosen h empty = sym (append-nil chosen)
      ∙ ap (λ ys. chosen ++ ys) (sym (none_left (count - length chosen))) ∙ h.whole
  chosen_all all is_free (r ∷ rs) chosen h empty = absurd (omega (arith, empty))

  module _ (order : IsTotalOrder cmp) where
    same_free : (p : X → Bool) (n : ℕ) (xs ys : List X) → AreToldApart cmp xs → AreToldApart cmp ys
        → IsPermutation xs ys → picks cmp place zone n (filter p xs) ≡ picks cmp place zone n (filter p ys)
    same_free p n xs ys h k same =
        same_candidates cmp place zone order n (filter p xs) (filter p ys)
        (fewer_told_apart cmp xs (filter p xs) (λ x l. (kept_passes p x xs l).0) h)
        (fewer_told_apart cmp ys (filter p ys) (λ x l. (kept_passes p x ys l).0) k)
        (λ x. (
          λ l. (let passed = kept_passes p x xs l in
              passes_kept p x ys passed.1 (Contains-permutation xs ys x same passed.0)),
          λ l. (let passed = kept_passes p x ys l in
              passes_kept p x xs passed.1 (Contains-permutation ys xs x (IsPermutation-sym xs ys same) passed.0)),
        ))

    -- what a heap gives comes after none that it held
    popped_first : (waiting : List (Reverse X)) (r : Reverse X) → IsUpperBound (λ a b. cmp b.0 a.0) r waiting
        → IsFirst cmp order r.0 (bare waiting)
    popped_first waiting r bound y h =
        sym (swapped cmp order r.0 y)
        ∙ All-contains (λ z. is_lt (cmp z r.0) ≡ false) (bare waiting) y
        (All-map (λ z. is_lt (cmp z r.0) ≡ false) (λ a. a.0) waiting
        (All-from_recursion (λ a. is_lt (cmp a.0 r.0) ≡ false) waiting bound)) h

    -- one that is shut out is passed over
    pub passed_over : (all : List X) (is_free : List Bool) (waiting rest : List (Reverse X)) (r : Reverse X)
        (chosen : List X) → IsChoosing all is_free waiting chosen
        → IsPermutation waiting (r ∷ rest) → IsHeap (λ a b. cmp b.0 a.0) rest
        → get_or is_free (place r.0) false ≡ false → IsChoosing all is_free rest chosen
    passed_over all is_free waiting rest r chosen h same heap shut =
        let test = λ (x : X). get_or is_free (place x) false in
        let turned = IsPermutation-map (λ (a : Reverse X). a.0) waiting (r ∷ rest) same in
        let apart = fewer_told_apart cmp (bare waiting) (bare (r ∷ rest))
        (λ x k. Contains-permutation (bare (r ∷ rest)) (bare waiting) x
        (IsPermutation-sym (bare waiting) (bare (r ∷ rest)) turned) k) h.apart in
        record {
          heap = heap;
          within = All-tail (λ a. place a.0 < length is_free) r rest
              (All-permutation (λ a. place a.0 < length is_free) waiting (r ∷ rest) same h.within);
          apart = fewer_told_apart cmp (bare (r ∷ rest)) (bare rest) (λ x k. contains_later r.0 x (bare rest) k) apart;
          few = h.few;
          whole = ap (λ ys. chosen ++ picks cmp place zone (count - length chosen) ys)
              (sym (dropped_first test r.0 (bare rest) shut))
              ∙ ap (λ ys. chosen ++ ys)
              (sym (same_free test (count - length chosen) (bare waiting) (bare (r ∷ rest)) h.apart apart turned))
              ∙ h.whole;
        }

    left_over : (x : X) (xs : List X) (is_free after : List Bool)
        → ((q : ℕ) → get_or after q false ≡ (get_or is_free q false && nat_lt zone (abs_diff (place x) q)))
        → outside cmp place zone x (x ∷ free_ones place is_free xs) ≡ free_ones place after xs
    left_over x xs is_free after shut =
        let itself : nat_lt zone (abs_diff (place x) (place x)) ≡ false = grind (arith, nat_tests) in
        dropped_first (λ y. nat_lt zone (abs_diff (place x) (place y))) x (free_ones place is_free xs) itself
        ∙ kept_twice (λ y. get_or is_free (place y) false) (λ y. nat_lt zone (abs_diff (place x) (place y)))
        (λ y. get_or after (place y) false) (λ y. shut (place y)) xs

    -- one that isn't shut out is chosen
    pub chosen_next : (all : List X) (is_free after : List Bool) (waiting rest : List (Reverse X)) (r : Reverse X)
        (chosen : List X) → IsChoosing all is_free waiting chosen
        → IsPermutation waiting (r ∷ rest) → IsHeap (λ a b. cmp b.0 a.0) rest
        → IsUpperBound (λ a b. cmp b.0 a.0) r waiting
        → length chosen < count → get_or is_free (place r.0) false ≡ true
        → length after ≡ length is_free
        → ((q : ℕ) → get_or after q false ≡ (get_or is_free q false && nat_lt zone (abs_diff (place r.0) q)))
        → IsChoosing all after rest (chosen ++ r.0 ∷ [])
    chosen_next all is_free after waiting rest r chosen h same heap bound room free long shut =
        let x = r.0 in
        let test = λ (y : X). get_or is_free (place y) false in
        let turned = IsPermutation-map (λ (a : Reverse X). a.0) waiting (r ∷ rest) same in
        let back = IsPermutation-sym (bare waiting) (bare (r ∷ rest)) turned in
        let apart = fewer_told_apart cmp (bare waiting) (bare (r ∷ rest))
        (λ y k. Contains-permutation (bare (r ∷ rest)) (bare waiting) y back k) h.apart in
        let others = free_ones place is_free (bare rest) in
        let among = λ (y : X) (k : Contains (x ∷ others) y). ⊎_elim
        (λ e. subst (Contains (bare (r ∷ rest))) e (contains_first x (bare rest)))
        (λ later. contains_later x y (bare rest) (kept_passes test y (bare rest) later).0)
        (contains_cases x y others k) in
        let first = λ (y : X) (k : Contains (x ∷ others) y). popped_first waiting r bound y
        (Contains-permutation (bare (r ∷ rest)) (bare waiting) y back (among y k)) in
        let found = first_is_found cmp order (x ∷ others)
        (fewer_told_apart cmp (bare (r ∷ rest)) (x ∷ others) among apart) x (contains_first x others) first in
        let more : length (chosen ++ x ∷ []) ≡ length chosen + 1 = omega (arith, length-append chosen (x ∷ [])) in
        let one_less : count - length chosen ≡ suc (count - length (chosen ++ x ∷ [])) = omega arith in
        let n = count - length (chosen ++ x ∷ []) in
        record {
          heap = heap;
          within = subst (λ k. All (λ a. place a.0 < k) rest) (sym long)
              (All-tail (λ a. place a.0 < length is_free) r rest
              (All-permutation (λ a. place a.0 < length is_free) waiting (r ∷ rest) same h.within));
          apart = fewer_told_apart cmp (bare (r ∷ rest)) (bare rest) (λ y k. contains_later x y (bare rest) k) apart;
          few = omega arith;
          whole = append_assoc chosen (x ∷ []) (picks cmp place zone n (free_ones place after (bare rest)))
              ∙ ap (λ ys. chosen ++ x ∷ picks cmp place zone n ys) (sym (left_over x (bare rest) is_free after shut))
              ∙ ap (λ ys. chosen ++ ys) (sym (one_picked cmp place zone n (x ∷ others) x found))
              ∙ ap (λ ys. chosen ++ picks cmp place zone (suc n) ys) (sym (kept_first test x (bare rest) free))
              ∙ ap (λ k. chosen ++ picks cmp place zone k (free_ones place is_free (bare (r ∷ rest)))) (sym one_less)
              ∙ ap (λ ys. chosen ++ ys)
              (sym (same_free test (count - length chosen) (bare waiting) (bare (r ∷ rest)) h.apart apart turned))
              ∙ h.whole;
        }

    bare_reversed : (xs : List X) → bare (map reversed_of xs) ≡ xs
    bare_reversed [] = refl
    bare_reversed (x ∷ xs) = ap (λ ys. x ∷ ys) (bare_reversed xs)

    -- at first all wait, and no place is shut out
    pub choosing_starts : (all : List X) (n : ℕ) (is_free : List Bool) (waiting : List (Reverse X))
        → is_free ≡ replicate n true → IsPermutation (map reversed_of all) waiting → IsHeap (λ a b. cmp b.0 a.0) waiting
        → AreToldApart cmp all → ((x : X) → Contains all x → place x < n) → IsChoosing all is_free waiting []
    choosing_starts all n is_free waiting free same heap apart within =
        let turned = subst (λ xs. IsPermutation xs (bare waiting)) (bare_reversed all)
        (IsPermutation-map (λ (a : Reverse X). a.0) (map reversed_of all) waiting same) in
        let back = IsPermutation-sym all (bare waiting) turned in
        let among = λ (x : X) (h : Contains (bare waiting) x). Contains-permutation (bare waiting) all x back h in
        let apart_here = fewer_told_apart cmp all (bare waiting) among apart in
        let long : length is_free ≡ n = ap length free ∙ length-replicate n true in
        let all_within = All-map (λ (a : Reverse X). place a.0 < length is_free) reversed_of all
        (all_contained (λ x. place x < length is_free) all
        (λ x h. subst (λ k. place x < k) (sym long) (within x h))) in
        let all_free = kept_all (λ x. get_or is_free (place x) false) (bare waiting)
        (λ x h. ap (λ bs. get_or bs (place x) false) free ∙ get_or-replicate n (place x) true false
        (within x (among x h))) in
        let whole_count : count - 0 ≡ count = omega arith in
        record {
          heap = heap;
          within = All-permutation (λ a. place a.0 < length is_free) (map reversed_of all) waiting same all_within;
          apart = apart_here;
          few = omega arith;
          whole = ap (λ k. picks cmp place zone k (free_ones place is_free (bare waiting))) whole_count
              ∙ ap (λ xs. picks cmp place zone count xs) all_free
              ∙ same_candidates cmp place zone order count (bare waiting) all apart_here apart
              (λ x. (among x, λ h. Contains-permutation all (bare waiting) x turned h));
        }
