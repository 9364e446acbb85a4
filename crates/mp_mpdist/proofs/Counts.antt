-- How many numbers of a list pass a test.
use Rattle.std.proofs.Common.{◌≡◌, ℕ, ◌+◌, Bool, true, false, cond, List, [], ◌∷◌, length, refl, arith}
use Rattle.std.specs.List.{All, count_by}
use Rattle.std.proofs.lemmas.List.Elements.{All-head, All-tail}
use Rattle.std.proofs.lemmas.List.Sums.{sum_by-cons}

-- what one number adds to a count
abbrev pub tally : Bool → ℕ
tally b = cond b 1 0

pub count_by-cons : {X : Type 0} (p : X → Bool) (x : X) (xs : List X)
    → count_by p (x ∷ xs) ≡ tally (p x) + count_by p xs
count_by-cons p x xs = sum_by-cons (λ y. cond (p y) 1 0) x xs

pub count_by-all : {X : Type 0} (p : X → Bool) (xs : List X) → All (λ x. p x ≡ true) xs → count_by p xs ≡ length xs
count_by-all p [] all = refl
count_by-all p (x ∷ xs) all =
    let one : tally (p x) ≡ 1 = rw (All-head (λ y. p y ≡ true) x xs all) refl in
    omega (arith, count_by-all p xs (All-tail (λ y. p y ≡ true) x xs all), count_by-cons p x xs)

pub count_by-none : {X : Type 0} (p : X → Bool) (xs : List X) → All (λ x. p x ≡ false) xs → count_by p xs ≡ 0
count_by-none p [] all = refl
count_by-none p (x ∷ xs) all =
    let none : tally (p x) ≡ 0 = rw (All-head (λ y. p y ≡ false) x xs all) refl in
    omega (arith, count_by-none p xs (All-tail (λ y. p y ≡ false) x xs all), count_by-cons p x xs)
