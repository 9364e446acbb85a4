-- Why the laws of sums hold, and those of distances by them.
use Rattle.std.proofs.Common.{◌≡◌, ℕ, zero, suc, ◌+◌, ◌-◌, ◌*◌, ◌<◌, ◌≤◌, refl, sym, ap, ◌∙◌, arith, add-one, subst}
use Rattle.std.proofs.Common.{below_more}
use Rattle.std.specs.Prelude.{ℤ, pos, ◌-ℤ◌, unsigned_abs, Option, Some, None, List, length, slice_index_or}
use Rattle.std.proofs.lemmas.Int.{ints}
use Rattle.std.proofs.lemmas.List.{get_or_default}
use Rattle.mp_defs.specs.Series.{number_at}
use Rattle.mp_defs.specs.Distance.{squared_difference, square_between, plus, distance}
use Rattle.mp_defs.specs.DistanceLaws.{grows_by_one_sample}
use Rattle.mp_sums.specs.Sums.{filled, numbers_of, square_sum, greatest_square, IsSum}
use Rattle.mp_sums.specs.Residues.{item}
use Rattle.mp_sums.specs.Laws.{SumsRunOn, DistancesAreSums}

pub sum_of_none : (x : ℕ → ℤ) (i : ℕ) (y : ℕ → ℤ) (j : ℕ) → square_sum 0 x i y j ≡ 0
unfolding square_sum
sum_of_none x i y j = refl

pub sum_suc : (m : ℕ) (x : ℕ → ℤ) (i : ℕ) (y : ℕ → ℤ) (j : ℕ)
    → square_sum (suc m) x i y j ≡ square_sum m x i y j + squared_difference (x (i + m)) (y (j + m))
unfolding square_sum
sum_suc m x i y j = refl

pub sum_more : (m : ℕ) (x : ℕ → ℤ) (i : ℕ) (y : ℕ → ℤ) (j : ℕ)
    → square_sum (m + 1) x i y j ≡ square_sum m x i y j + squared_difference (x (i + m)) (y (j + m))
unfolding square_sum
sum_more m x i y j = rw add-one refl

-- the sums of numbers that are the same
pub sum_same : (m : ℕ) (x x' : ℕ → ℤ) (i : ℕ) (y y' : ℕ → ℤ) (j : ℕ)
    → ((k : ℕ) → k < m → x (i + k) ≡ x' (i + k)) → ((k : ℕ) → k < m → y (j + k) ≡ y' (j + k))
    → square_sum m x i y j ≡ square_sum m x' i y' j
sum_same zero x x' i y y' j e f = sum_of_none x i y j ∙ sym (sum_of_none x' i y' j)
sum_same (suc m) x x' i y y' j e f =
    let last : squared_difference (x (i + m)) (y (j + m)) ≡ squared_difference (x' (i + m)) (y' (j + m)) =
    ap (λ z. squared_difference z (y (j + m))) (e m (omega arith))
    ∙ ap (squared_difference (x' (i + m))) (f m (omega arith)) in
    omega (
      arith,
      sum_suc m x i y j,
      sum_suc m x' i y' j,
      last,
      sum_same m x x' i y y' j (λ k lt. e k (omega (arith, lt))) (λ k lt. f k (omega (arith, lt))),
    )

square_there : (x : ℕ → ℤ) (i i' : ℕ) (y : ℕ → ℤ) (j j' : ℕ) → i ≡ i' → j ≡ j'
    → squared_difference (x i) (y j) ≡ squared_difference (x i') (y j')
square_there x i i' y j j' e f =
    ap (λ n. squared_difference (x n) (y j)) e ∙ ap (λ n. squared_difference (x i') (y n)) f

-- one place on, without the square that goes
sum_behind : (m : ℕ) (x : ℕ → ℤ) (i : ℕ) (y : ℕ → ℤ) (j : ℕ)
    → square_sum m x (i + 1) y (j + 1) + squared_difference (x i) (y j) ≡ square_sum (suc m) x i y j
sum_behind zero x i y j =
    omega (
      arith,
      sum_of_none x (i + 1) y (j + 1),
      sum_suc zero x i y j,
      sum_of_none x i y j,
      square_there x (i + 0) i y (j + 0) j (omega arith) (omega arith),
    )
sum_behind (suc m) x i y j =
    omega (
      arith,
      sum_suc m x (i + 1) y (j + 1),
      sum_suc (suc m) x i y j,
      sum_behind m x i y j,
      square_there x (i + 1 + m) (i + suc m) y (j + 1 + m) (j + suc m) (omega arith) (omega arith),
    )

pub moved_on : (m : ℕ) (x : ℕ → ℤ) (i : ℕ) (y : ℕ → ℤ) (j : ℕ)
    → square_sum m x (i + 1) y (j + 1) + squared_difference (x i) (y j)
    ≡ square_sum m x i y j + squared_difference (x (i + m)) (y (j + m))
moved_on m x i y j = sum_behind m x i y j ∙ sum_suc m x i y j

first_of_more : (n k : ℕ) (x : ℕ → ℤ) (i : ℕ) (y : ℕ → ℤ) (j : ℕ)
    → square_sum n x i y j ≤ square_sum (n + k) x i y j
first_of_more n zero x i y j =
    let e : n + 0 ≡ n = omega arith in
    rw e (omega arith)
first_of_more n (suc k) x i y j =
    let e : suc (n + k) ≡ n + suc k = omega arith in
    subst (λ c. square_sum n x i y j ≤ square_sum c x i y j) e
    (omega (arith, sum_suc (n + k) x i y j, first_of_more n k x i y j))

pub first_of_all : (n m : ℕ) (x : ℕ → ℤ) (i : ℕ) (y : ℕ → ℤ) (j : ℕ) → n ≤ m
    → square_sum n x i y j ≤ square_sum m x i y j
first_of_all n m x i y j le =
    let e : n + (m - n) ≡ m = omega arith in
    subst (λ c. square_sum n x i y j ≤ square_sum c x i y j) e (first_of_more n (m - n) x i y j)

-- one part behind another
pub sum_joined : (m n : ℕ) (x : ℕ → ℤ) (i : ℕ) (y : ℕ → ℤ) (j : ℕ)
    → square_sum (m + n) x i y j ≡ square_sum m x i y j + square_sum n x (i + m) y (j + m)
sum_joined m zero x i y j =
    let e : m ≡ m + 0 = omega arith in
    subst (λ k. square_sum k x i y j ≡ square_sum m x i y j + square_sum 0 x (i + m) y (j + m)) e
    (omega (arith, sum_of_none x (i + m) y (j + m)))
sum_joined m (suc n) x i y j =
    let e : suc (m + n) ≡ m + suc n = omega arith in
    subst (λ k. square_sum k x i y j ≡ square_sum m x i y j + square_sum (suc n) x (i + m) y (j + m)) e
    (omega (
      arith,
      sum_suc (m + n) x i y j,
      sum_suc n x (i + m) y (j + m),
      sum_joined m n x i y j,
      square_there x (i + (m + n)) (i + m + n) y (j + (m + n)) (j + m + n) (omega arith) (omega arith),
    ))

-- one square more, at places that are given
pub sum_grows : (m next : ℕ) (x : ℕ → ℤ) (i p : ℕ) (y : ℕ → ℤ) (j q sum square : ℕ) → next ≡ m + 1 → p ≡ i + m
    → q ≡ j + m → sum ≡ square_sum m x i y j → square ≡ squared_difference (x p) (y q)
    → sum + square ≡ square_sum next x i y j
sum_grows m next x i p y j q sum square n e f g h =
    subst (λ k. sum + square ≡ square_sum k x i y j) (sym n)
    (omega (arith, sum_more m x i y j, g, h, square_there x p (i + m) y q (j + m) e f))

-- a bound of each square
pub sum_bounded : (bound m : ℕ) (x : ℕ → ℤ) (i : ℕ) (y : ℕ → ℤ) (j : ℕ)
    → ((k : ℕ) → k < m → squared_difference (x (i + k)) (y (j + k)) ≤ bound) → square_sum m x i y j ≤ m * bound
sum_bounded bound zero x i y j h = omega (arith, sum_of_none x i y j)
sum_bounded bound (suc m) x i y j h =
    omega (
      arith,
      sum_suc m x i y j,
      h m (omega arith),
      sum_bounded bound m x i y j (λ k lt. h k (omega (arith, lt))),
    )

-- the square of numbers that were read from two lists
pub square_read : (xs ys : List ℤ) (i j square : ℕ) (x y : ℤ) → i < length xs → j < length ys
    → x ≡ slice_index_or xs i x → y ≡ slice_index_or ys j y → square ≡ squared_difference x y
    → square ≡ squared_difference (item xs i) (item ys j)
square_read xs ys i j square x y lt less e f g =
    g ∙ ap (λ z. squared_difference z y) (e ∙ get_or_default xs i x (pos 0) lt)
    ∙ ap (squared_difference (item xs i)) (f ∙ get_or_default ys j y (pos 0) less)

pub difference_turned : (x y : ℤ) → squared_difference x y ≡ squared_difference y x
difference_turned x y = let e : unsigned_abs (x -ℤ y) ≡ unsigned_abs (y -ℤ x) = omega (arith, ints) in rw e refl

pub sum_turned : (m : ℕ) (x : ℕ → ℤ) (i : ℕ) (y : ℕ → ℤ) (j : ℕ) → square_sum m x i y j ≡ square_sum m y j x i
sum_turned zero x i y j = sum_of_none x i y j ∙ sym (sum_of_none y j x i)
sum_turned (suc m) x i y j =
    omega (
      arith,
      sum_suc m x i y j,
      sum_suc m y j x i,
      difference_turned (x (i + m)) (y (j + m)),
      sum_turned m x i y j,
    )

pub sums_run_on : SumsRunOn
sums_run_on = record {
  no_numbers = sum_of_none;
  one_more = sum_more;
  moved_on = moved_on;
  joined = sum_joined;
  first = first_of_all;
  turned = sum_turned;
}

-- ---- sums whose squares are those of samples

pub is_sum_of_none : (x : ℕ → ℤ) (i : ℕ) (y : ℕ → ℤ) (j : ℕ) → IsSum 0 x i y j 0
is_sum_of_none x i y j = record { sum_is = sym (sum_of_none x i y j); small = λ k lt. absurd (omega (arith, lt)) }

pub is_sum_of_more : (m : ℕ) (x : ℕ → ℤ) (i : ℕ) (y : ℕ → ℤ) (j sum square : ℕ) → IsSum m x i y j sum
    → square ≡ squared_difference (x (i + m)) (y (j + m)) → square ≤ greatest_square
    → IsSum (m + 1) x i y j (sum + square)
is_sum_of_more m x i y j sum square h e le = record {
  sum_is = omega (arith, h.sum_is, e, sum_more m x i y j);
  small =
      below_more (λ k. squared_difference (x (i + k)) (y (j + k)) ≤ greatest_square) m h.small (omega (arith, e, le));
}

pub is_sum_moved_on : (m : ℕ) (x : ℕ → ℤ) (i : ℕ) (y : ℕ → ℤ) (j sum enters leaves : ℕ) → IsSum m x i y j sum
    → enters ≡ squared_difference (x (i + m)) (y (j + m)) → enters ≤ greatest_square
    → leaves ≡ squared_difference (x i) (y j)
    → IsSum m x (i + 1) y (j + 1) (sum + enters - leaves)
is_sum_moved_on m x i y j sum enters leaves h e le f = record {
  sum_is = omega (arith, h.sum_is, e, f, moved_on m x i y j);
  small = λ k lt.
      subst (λ s. s ≤ greatest_square)
      (square_there x (i + (k + 1)) (i + 1 + k) y (j + (k + 1)) (j + 1 + k) (omega arith) (omega arith))
      (below_more (λ n. squared_difference (x (i + n)) (y (j + n)) ≤ greatest_square) m h.small (omega (arith, e, le))
      (k + 1)
      (omega (arith, lt)));
}

-- the same places
pub is_sum_at : (m : ℕ) (x : ℕ → ℤ) (i i' : ℕ) (y : ℕ → ℤ) (j j' sum : ℕ) → i ≡ i' → j ≡ j' → IsSum m x i y j sum
    → IsSum m x i' y j' sum
is_sum_at m x i i' y j j' sum e f h = subst (λ p. IsSum m x p y j' sum) e (subst (λ q. IsSum m x i y q sum) f h)

-- what goes is in the sum with what comes in
pub leaves_within : (m : ℕ) (x : ℕ → ℤ) (i : ℕ) (y : ℕ → ℤ) (j sum enters leaves : ℕ) → IsSum m x i y j sum
    → enters ≡ squared_difference (x (i + m)) (y (j + m)) → leaves ≡ squared_difference (x i) (y j)
    → leaves ≤ sum + enters
leaves_within m x i y j sum enters leaves h e f = omega (arith, h.sum_is, e, f, moved_on m x i y j)

pub is_small : (m : ℕ) (x : ℕ → ℤ) (i : ℕ) (y : ℕ → ℤ) (j sum : ℕ) → IsSum m x i y j sum → sum ≤ m * greatest_square
is_small m x i y j sum h = omega (arith, h.sum_is, sum_bounded greatest_square m x i y j h.small)

-- ---- distances

-- what two numbers that may be missing give together
record AreBoth (a b : Option ℕ) (d : ℕ) : Type 0 where
  one : ℕ
  other : ℕ
  one_is : a ≡ Some one
  other_is : b ≡ Some other
  sum_is : d ≡ one + other

both : (a b : Option ℕ) (d : ℕ) → plus a b ≡ Some d → AreBoth a b d
both None b d e = absurd (cc)
both (Some a) None d e = absurd (cc)
both (Some a) (Some b) d e = record { one = a; other = b; one_is = refl; other_is = refl; sum_is = cc }

square_of : (x y : Option ℤ) (q : ℕ) → square_between x y ≡ Some q → q ≡ squared_difference (filled x) (filled y)
square_of None y q e = absurd (cc)
square_of (Some x) None q e = absurd (cc)
square_of (Some x) (Some y) q e = cc

pub distances_are_sums : DistancesAreSums
distances_are_sums zero a i b j d e =
    let none = grows_by_one_sample.no_samples a i b j in
    let zero_is : d ≡ 0 = cc in
    zero_is ∙ sym (sum_of_none (numbers_of a) i (numbers_of b) j)
distances_are_sums (suc m) a i b j d e =
    let one : m + 1 ≡ suc m = omega arith in
    let more : distance (suc m) a i b j
    ≡ plus (distance m a i b j) (square_between (number_at a (i + m)) (number_at b (j + m))) =
    subst (λ k. distance k a i b j
    ≡ plus (distance m a i b j) (square_between (number_at a (i + m)) (number_at b (j + m)))) one
    (grows_by_one_sample.one_more m a i b j) in
    let parts = both (distance m a i b j) (square_between (number_at a (i + m)) (number_at b (j + m))) d
    (sym more ∙ e) in
    omega (
      arith,
      sum_suc m (numbers_of a) i (numbers_of b) j,
      parts.sum_is,
      distances_are_sums m a i b j parts.one parts.one_is,
      square_of (number_at a (i + m)) (number_at b (j + m)) parts.other parts.other_is,
    )
