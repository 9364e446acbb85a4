-- How many windows pass a test, by their places and what they name.
use Rattle.std.proofs.Common.{◌≡◌, ℕ, zero, suc, ◌+◌, ◌<◌, ◌≤◌, Bool, cond, List, [], ◌∷◌, ◌++◌, length, get_or, set}
use Rattle.std.proofs.Common.{refl, ap, add-zero, arith}
use Rattle.std.specs.List.{count_by, enumerate_from}
use Rattle.std.proofs.lemmas.List.Sums.{sum_by-cons, count_by-le-length}

abbrev pub tally : Bool → ℕ
tally b = cond b 1 0

-- how many of these pass, of which the first is at place a
abbrev pub passing : {X : Type 0} → (ℕ × X → Bool) → ℕ → List X → ℕ
passing p a xs = count_by p (enumerate_from a xs)

module _ {X : Type 0} where
  pub passing-cons : (p : ℕ × X → Bool) (a : ℕ) (x : X) (xs : List X)
      → passing p a (x ∷ xs) ≡ tally (p (a, x)) + passing p (a + 1) xs
  passing-cons p a x xs = sum_by-cons (λ y. cond (p y) 1 0) (a, x) (enumerate_from (a + 1) xs)

  length-enumerate_from : (a : ℕ) (xs : List X) → length (enumerate_from a xs) ≡ length xs
  length-enumerate_from a [] = refl
  length-enumerate_from a (x ∷ xs) = ap suc (length-enumerate_from (a + 1) xs)

  pub passing-le : (p : ℕ × X → Bool) (a : ℕ) (xs : List X) → passing p a xs ≤ length xs
  passing-le p a xs = omega (arith, count_by-le-length p (enumerate_from a xs), length-enumerate_from a xs)

  -- after a write of x at place i
  pub passing-set : (p : ℕ × X → Bool) (a i : ℕ) (xs : List X) (x d : X) → i < length xs
      → passing p a (set xs i x) + tally (p (a + i, get_or xs i d)) ≡ passing p a xs + tally (p (a + i, x))
  passing-set p a i [] x d inside = absurd (omega (arith, inside))
  passing-set p a zero (y ∷ ys) x d inside =
      let here : a + zero ≡ a = add-zero a in
      rw here (omega (arith, passing-cons p a x ys, passing-cons p a y ys))
  passing-set p a (suc i) (y ∷ ys) x d inside =
      let here : a + suc i ≡ a + 1 + i = omega arith in
      let rest = passing-set p (a + 1) i ys x d (omega (arith, inside)) in
      rw here (omega (arith, rest, passing-cons p a y (set ys i x), passing-cons p a y ys))

  -- with x behind
  pub passing-push : (p : ℕ × X → Bool) (a : ℕ) (xs : List X) (x : X)
      → passing p a (xs ++ x ∷ []) ≡ passing p a xs + tally (p (a + length xs, x))
  passing-push p a [] x =
      let here : a + 0 ≡ a = add-zero a in
      rw here (omega (arith, passing-cons p a x []))
  passing-push p a (y ∷ ys) x =
      let here : a + suc (length ys) ≡ a + 1 + length ys = omega arith in
      let rest = passing-push p (a + 1) ys x in
      rw here (omega (arith, rest, passing-cons p a y (ys ++ x ∷ []), passing-cons p a y ys))

  -- two tests that each pass the same
  pub passing-same : (p q : ℕ × X → Bool) → ((y : ℕ × X) → p y ≡ q y) → (a : ℕ) (xs : List X)
      → passing p a xs ≡ passing q a xs
  passing-same p q same a [] = refl
  passing-same p q same a (x ∷ xs) =
      let rest = passing-same p q same (a + 1) xs in
      omega (arith, ap tally (same (a, x)), passing-cons p a x xs, passing-cons q a x xs, rest)

  -- two tests that pass as many as two others, of each
  pub passing-both : (p q r s : ℕ × X → Bool) → ((y : ℕ × X) → tally (p y) + tally (q y) ≡ tally (r y) + tally (s y))
      → (a : ℕ) (xs : List X) → passing p a xs + passing q a xs ≡ passing r a xs + passing s a xs
  passing-both p q r s same a [] = refl
  passing-both p q r s same a (x ∷ xs) =
      omega (
        arith,
        same (a, x),
        passing-both p q r s same (a + 1) xs,
        passing-cons p a x xs,
        passing-cons q a x xs,
        passing-cons r a x xs,
        passing-cons s a x xs,
      )

  -- a test that none passes
  pub passing-none : (p : ℕ × X → Bool) (a : ℕ) (xs : List X)
      → ((i : ℕ) (d : X) → i < length xs → tally (p (a + i, get_or xs i d)) ≡ 0) → passing p a xs ≡ 0
  passing-none p a [] none = refl
  passing-none p a (x ∷ xs) none =
      let first : tally (p (a, x)) ≡ 0 = rw add-zero at (none 0 x (omega arith)) in
      let rest = passing-none p (a + 1) xs (λ i d inside.
      let here : a + suc i ≡ a + 1 + i = omega arith in
      rw here at (none (suc i) d (omega (arith, inside)))) in
      omega (arith, first, rest, passing-cons p a x xs)
