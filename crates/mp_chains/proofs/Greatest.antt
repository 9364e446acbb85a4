-- The longest of some chains.
use Rattle.std.proofs.Common.{◌≡◌, ℕ, zero, suc, ◌+◌, ◌-◌, ◌<◌, ◌≤◌, max, Bool, true, List, [], ◌∷◌, length, map}
use Rattle.std.proofs.Common.{get_or, fold, Some, refl, ap, subst, add-one, arith, ⊎_elim}
use Rattle.std.specs.Prelude.{nat_lt, ◌==◌, MatchOption}
use Rattle.std.specs.List.{All, IsFirstMaxByKey, position_or_len}
use Rattle.std.proofs.lemmas.Bool.{cases_lt}
use Rattle.std.proofs.lemmas.Bool.Decides.{nat_tests}
use Rattle.std.proofs.lemmas.List.{get_or-map, get_or_default, length-map}
use Rattle.std.proofs.lemmas.List.Elements.{All-head, All-tail, All-map, All-from_get_or}
use Rattle.std.proofs.lemmas.List.Sums.{position_or_len_is, best_none, best_keeps, best_takes}
use Rattle.mp_nums.specs.Listed.{Listed}
use Rattle.mp_results.specs.Chains.{greatest_length, longest_of}
use Rattle.mp_chains.specs.Laws.{LongestIsFirst}

max-le : (a v : ℕ) (xs : List ℕ) → a ≤ v → All (λ x. x ≤ v) xs → fold max a xs ≤ v
max-le a v [] le all = le
max-le a v (x ∷ xs) le all =
    let here : x ≤ v = All-head (λ y. y ≤ v) x xs all in
    max-le (max a x) v xs (omega arith) (All-tail (λ y. y ≤ v) x xs all)

le-max : (a : ℕ) (xs : List ℕ) → a ≤ fold max a xs
le-max a [] = omega arith
le-max a (x ∷ xs) = omega (arith, le-max (max a x) xs)

get_or-le-max : (a : ℕ) (xs : List ℕ) (k : ℕ) → k < length xs → get_or xs k 0 ≤ fold max a xs
get_or-le-max a [] k within = absurd (omega (arith, within))
get_or-le-max a (x ∷ xs) zero within = omega (arith, le-max (max a x) xs)
get_or-le-max a (x ∷ xs) (suc k) within = get_or-le-max (max a x) xs k (omega (arith, within))

-- the greatest length is that of the first of greatest length
greatest_length-is : (chains : List (List ℕ)) (b : ℕ) → IsFirstMaxByKey length chains (length chains) b
    → greatest_length chains ≡ length (get_or chains b [])
greatest_length-is chains b first =
    let most = length (get_or chains b []) in
    let all = All-from_get_or (λ chain. length chain ≤ most) chains [] (λ k inside. first.1 k [] inside) in
    let above = max-le 0 most (map length chains) (omega arith) (All-map (λ n. n ≤ most) length chains all) in
    let below = get_or-le-max 0 (map length chains) b (rw length-map first.0) in
    omega (arith, above, below, get_or-map length chains b [] 0 first.0)

pub longest_of-is : (chains : List (List ℕ)) (b : ℕ) → IsFirstMaxByKey length chains (length chains) b
    → longest_of chains ≡ Some b
longest_of-is chains b first =
    let g = greatest_length chains in
    let is = greatest_length-is chains b first in
    let p : List ℕ → Bool = λ chain. length chain == g in
    let at : position_or_len p chains ≡ b = position_or_len_is p chains b [] (omega (arith, first.0))
    (λ k before. let less = first.2 k [] before in grind (arith, nat_tests))
    (λ inside. grind (arith, nat_tests)) in
    let inside : nat_lt b (length chains) ≡ true = grind (arith, nat_tests, first.0) in
    rw (at, inside) refl

-- of those so far, and one more
first_more : (chains : List (List ℕ)) (i b : ℕ) → i < length chains → b < length chains
    → IsFirstMaxByKey length chains i b
    → 0 < i → (c : ℕ) × IsFirstMaxByKey length chains (i + 1) c
first_more chains i b inside kept before some =
    let best = λ (d : List ℕ). length (get_or chains b d) in
    let next = λ (d : List ℕ). length (get_or chains i d) in
    let best_is = λ (d : List ℕ). ap length (get_or_default chains b d [] kept) in
    let next_is = λ (d : List ℕ). ap length (get_or_default chains i d [] inside) in
    ⊎_elim
    (λ (longer : best [] < next []).
    (i, best_takes length chains i b before (λ d. omega (arith, longer, best_is d, next_is d))))
    (λ (other : next [] ≤ best []).
    (b, best_keeps length chains i b before (λ d. omega (arith, other, best_is d, next_is d))))
    (cases_lt (best []) (next []))

-- one of some is the first of greatest length
first_best : (chains : List (List ℕ)) (i : ℕ) → i < length chains → (b : ℕ) × IsFirstMaxByKey length chains (i + 1) b
first_best chains zero inside = (0, best_none length chains)
first_best chains (suc i) inside =
    let before = first_best chains i (omega (arith, inside)) in
    let here : i + 1 ≡ suc i = add-one i in
    let at = subst (λ n. IsFirstMaxByKey length chains n before.0) here before.1 in
    first_more chains (suc i) before.0 inside (omega (arith, inside, at.0)) at (omega arith)

longest_is_first_of : (chains : List (List ℕ)) → 0 < length chains
    → MatchOption (longest_of chains) (chains ≡ []) (IsFirstMaxByKey length chains (length chains))
longest_is_first_of chains some =
    let best = first_best chains (length chains - 1) (omega arith) in
    let all : length chains - 1 + 1 ≡ length chains = omega arith in
    let first = subst (λ n. IsFirstMaxByKey length chains n best.0) all best.1 in
    rw (longest_of-is chains best.0 first) first

pub longest_first : LongestIsFirst
longest_first [] = refl
longest_first (chain ∷ chains) = longest_is_first_of (chain ∷ chains) (omega arith)

-- chains of the program
pub IsFirstMaxByKey-items : (chains : List (Listed ℕ)) (b : ℕ)
    → IsFirstMaxByKey (λ chain. length chain.items) chains (length chains) b
    → IsFirstMaxByKey length (map (λ chain. chain.items) chains) (length (map (λ chain. chain.items) chains)) b
IsFirstMaxByKey-items chains b first =
    let items = λ (chain : Listed ℕ). chain.items in
    let long = length-map chains items in (
      rw length-map first.0,
      λ k d inside.
          let e : Listed ℕ = record { items = d; spare = 0 } in
          let within : k < length chains = omega (arith, inside, long) in
          rw (get_or-map items chains k e d within, get_or-map items chains b e d first.0) (first.1 k e within),
      λ k d before.
          let e : Listed ℕ = record { items = d; spare = 0 } in
          let within : k < length chains = omega (arith, before, first.0) in
          rw (get_or-map items chains k e d within, get_or-map items chains b e d first.0) (first.2 k e before),
    )
