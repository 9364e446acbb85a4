-- Sums of squares: one place on, and how large they are.
use Rattle.std.proofs.Common.{◌≡◌, ℕ, zero, suc, ◌+◌, ◌-◌, ◌*◌, ◌<◌, ◌≤◌, List, length, get_or, take, drop}
use Rattle.std.proofs.Common.{refl, sym, ap, ◌∙◌, arith, subst}
use Rattle.std.specs.Prelude.{ℤ, pos}
use Rattle.std.proofs.lemmas.List.{get_or-take, get_or-drop, length-take-le, length-drop}
use Rattle.mp_defs.specs.Distance.{squared_difference}
use Rattle.mp_sums.specs.Lists.{list_sum}
use Rattle.mp_sums.specs.Residues.{item}
use Rattle.mp_sums.specs.SumLaws.{sum_of_none, sum_suc, sum_more as one_more, moved_on, first_of_all, sum_bounded}
use Rattle.mp_sums.specs.SumLaws.{sum_grows}
use Rattle.mp_sums.specs.SumLaws.{difference_turned}
use Rattle.mp_stream.specs.Rows.{square_at, sum_at, next_of, CanStep, moved, AreClose, CanMove, last_of, IsRow}

-- ---- sums in one list

pub sum_none : (xs : List ℤ) (i j : ℕ) → sum_at xs 0 i j ≡ 0
sum_none xs i j = sum_of_none (item xs) i (item xs) j

pub sum_more : (xs : List ℤ) (m i j : ℕ)
    → sum_at xs (m + 1) i j ≡ sum_at xs m i j + square_at xs (i + m) (j + m)
sum_more xs m i j = one_more m (item xs) i (item xs) j

-- one place on: what is left behind and what is new
pub sum_on : (xs : List ℤ) (m i j : ℕ)
    → sum_at xs m (i + 1) (j + 1) + square_at xs i j ≡ sum_at xs m i j + square_at xs (i + m) (j + m)
sum_on xs m i j = moved_on m (item xs) i (item xs) j

-- the first square is in the sum
pub first_within : (xs : List ℤ) (m i j : ℕ) → 1 ≤ m → square_at xs i j ≤ sum_at xs m i j
first_within xs m i j le =
    omega (
      arith,
      first_of_all 1 m (item xs) i (item xs) j le,
      sum_grows 0 1 (item xs) i i (item xs) j j 0 (square_at xs i j) refl (omega arith) (omega arith)
          (sym (sum_none xs i j)) refl,
    )

-- a bound on each square
pub at_most : (xs : List ℤ) (bound m i j : ℕ)
    → ((k : ℕ) → k < m → square_at xs (i + k) (j + k) ≤ bound) → sum_at xs m i j ≤ m * bound
at_most xs bound m i j h = sum_bounded bound m (item xs) i (item xs) j h

-- ---- two windows that were lent

-- two parts of one list
pub part_at : (xs : List ℤ) (first count k : ℕ) → k < count
    → get_or (take count (drop first xs)) k (pos 0) ≡ get_or xs (first + k) (pos 0)
part_at xs first count k lt = get_or-take count (drop first xs) k (pos 0) lt ∙ get_or-drop first xs k (pos 0)

pub between_parts : (xs ys zs : List ℤ) (first second count n : ℕ) → n ≤ count
    → ys ≡ take count (drop first xs) → zs ≡ take count (drop second xs)
    → list_sum n ys 0 zs 0 ≡ sum_at xs n first second
between_parts xs ys zs first second count zero le e f =
    sum_of_none (item ys) 0 (item zs) 0 ∙ sym (sum_none xs first second)
between_parts xs ys zs first second count (suc n) le e f =
    let here : get_or ys n (pos 0) ≡ get_or xs (first + n) (pos 0) =
    ap (λ list. get_or list n (pos 0)) e ∙ part_at xs first count n (omega arith) in
    let there : get_or zs n (pos 0) ≡ get_or xs (second + n) (pos 0) =
    ap (λ list. get_or list n (pos 0)) f ∙ part_at xs second count n (omega arith) in
    let square : square_at xs (first + n) (second + n) ≡ squared_difference (item ys n) (item zs n) =
    ap (λ x. squared_difference x (get_or xs (second + n) (pos 0))) (sym here)
    ∙ ap (squared_difference (get_or ys n (pos 0))) (sym there) in
    let before = between_parts xs ys zs first second count n (omega arith) e f in
    let more = sum_grows n (suc n) (item ys) 0 n (item zs) 0 n (sum_at xs n first second)
    (square_at xs (first + n) (second + n)) (omega arith) (omega arith) (omega arith) (sym before) square in
    sym more ∙ sym (sum_suc n (item xs) first (item xs) second)

-- ---- all sums one place on

steps_can : (limit bound : ℕ) (xs : List ℤ) (m i j sum : ℕ) (enters leaves last_enters last_leaves : ℤ) → 1 ≤ m
    → i + m < length xs → j + m < length xs
    → ((p q : ℕ) → p < length xs → q < length xs → square_at xs p q ≤ bound) → m * bound + bound < limit
    → sum ≡ sum_at xs m i j → enters ≡ get_or xs (i + m) (pos 0) → leaves ≡ get_or xs i (pos 0)
    → last_enters ≡ get_or xs (j + m) (pos 0) → last_leaves ≡ get_or xs j (pos 0)
    → CanStep limit sum enters leaves last_enters last_leaves
steps_can limit bound xs m i j sum enters leaves last_enters last_leaves le lt lt' each small e a b c d =
    let left : squared_difference last_leaves leaves ≡ square_at xs i j =
    ap (λ x. squared_difference x leaves) d ∙ ap (squared_difference (get_or xs j (pos 0))) b
    ∙ difference_turned (get_or xs j (pos 0)) (get_or xs i (pos 0)) in
    let entered : squared_difference last_enters enters ≡ square_at xs (i + m) (j + m) =
    ap (λ x. squared_difference x enters) c ∙ ap (squared_difference (get_or xs (j + m) (pos 0))) a
    ∙ difference_turned (get_or xs (j + m) (pos 0)) (get_or xs (i + m) (pos 0)) in
    let whole = at_most xs bound m i j (λ k below. each (i + k) (j + k) (omega arith) (omega arith)) in
    record {
      leaves_sum = omega (arith, left, e, first_within xs m i j le);
      fits = omega (arith, entered, e, whole, each (i + m) (j + m) lt lt');
    }

pub steps_on : (xs : List ℤ) (m i j sum next : ℕ) (enters leaves last_enters last_leaves : ℤ) → 1 ≤ m
    → sum ≡ sum_at xs m i j → enters ≡ get_or xs (i + m) (pos 0) → leaves ≡ get_or xs i (pos 0)
    → last_enters ≡ get_or xs (j + m) (pos 0) → last_leaves ≡ get_or xs j (pos 0)
    → next ≡ next_of sum enters leaves last_enters last_leaves → next ≡ sum_at xs m (i + 1) (j + 1)
steps_on xs m i j sum next enters leaves last_enters last_leaves le e a b c d f =
    let left : squared_difference last_leaves leaves ≡ square_at xs i j =
    ap (λ x. squared_difference x leaves) d ∙ ap (squared_difference (get_or xs j (pos 0))) b
    ∙ difference_turned (get_or xs j (pos 0)) (get_or xs i (pos 0)) in
    let entered : squared_difference last_enters enters ≡ square_at xs (i + m) (j + m) =
    ap (λ x. squared_difference x enters) c ∙ ap (squared_difference (get_or xs (j + m) (pos 0))) a
    ∙ difference_turned (get_or xs (j + m) (pos 0)) (get_or xs (i + m) (pos 0)) in
    omega (arith, left, entered, e, f, sum_on xs m i j)

-- what leaves and what enters the windows before a last one, in a list with just as many numbers
pub record ArePassed (xs : List ℤ) (m : ℕ) (before : List ℕ) (enters leaves : List ℤ) : Type 0 where
  pub least : 1 ≤ m
  pub long : length xs ≡ length before + m
  pub sums : IsRow xs m (length before - 1) before
  pub enter : enters ≡ take (length before) (drop m xs)
  pub leave : leaves ≡ take (length before) xs

enter_long : (xs : List ℤ) (m : ℕ) (before : List ℕ) (enters leaves : List ℤ) → ArePassed xs m before enters leaves
    → length enters ≡ length before
enter_long xs m before enters leaves h =
    ap length h.enter ∙ length-take-le (length before) (drop m xs) (omega (arith, length-drop m xs, h.long))

leave_long : (xs : List ℤ) (m : ℕ) (before : List ℕ) (enters leaves : List ℤ) → ArePassed xs m before enters leaves
    → length leaves ≡ length before
leave_long xs m before enters leaves h =
    ap length h.leave ∙ length-take-le (length before) xs (omega (arith, h.long))

enter_at : (xs : List ℤ) (m : ℕ) (before : List ℕ) (enters leaves : List ℤ) → ArePassed xs m before enters leaves
    → (i : ℕ) → i < length before → get_or enters i (pos 0) ≡ get_or xs (i + m) (pos 0)
enter_at xs m before enters leaves h i lt =
    let same : m + i ≡ i + m = omega arith in
    ap (λ list. get_or list i (pos 0)) h.enter ∙ part_at xs m (length before) i lt ∙ ap (λ k. get_or xs k (pos 0)) same

leave_at : (xs : List ℤ) (m : ℕ) (before : List ℕ) (enters leaves : List ℤ) → ArePassed xs m before enters leaves
    → (i : ℕ) → i < length before → get_or leaves i (pos 0) ≡ get_or xs i (pos 0)
leave_at xs m before enters leaves h i lt =
    ap (λ list. get_or list i (pos 0)) h.leave ∙ get_or-take (length before) xs i (pos 0) lt

last_enter : (xs : List ℤ) (m : ℕ) (before : List ℕ) (enters leaves : List ℤ) → ArePassed xs m before enters leaves
    → 0 < length before → last_of enters ≡ get_or xs (length before - 1 + m) (pos 0)
last_enter xs m before enters leaves h lt =
    ap (λ n. get_or enters (n - 1) (pos 0)) (enter_long xs m before enters leaves h)
    ∙ enter_at xs m before enters leaves h (length before - 1) (omega arith)

last_leave : (xs : List ℤ) (m : ℕ) (before : List ℕ) (enters leaves : List ℤ) → ArePassed xs m before enters leaves
    → 0 < length before → last_of leaves ≡ get_or xs (length before - 1) (pos 0)
last_leave xs m before enters leaves h lt =
    ap (λ n. get_or leaves (n - 1) (pos 0)) (leave_long xs m before enters leaves h)
    ∙ leave_at xs m before enters leaves h (length before - 1) (omega arith)

pub can_move : (limit bound : ℕ) (xs : List ℤ) (m : ℕ) (before : List ℕ) (enters leaves : List ℤ)
    → ArePassed xs m before enters leaves
    → ((p q : ℕ) → p < length xs → q < length xs → square_at xs p q ≤ bound) → m * bound + bound < limit
    → CanMove limit before enters leaves
can_move limit bound xs m before enters leaves h each small = record {
  enter = enter_long xs m before enters leaves h;
  leave = leave_long xs m before enters leaves h;
  steps = λ i lt. steps_can limit bound xs m i (length before - 1) _ _ _ _ _ h.least (omega (arith, lt, h.long))
      (omega (arith, lt, h.long)) each small (h.sums i lt)
      (enter_at xs m before enters leaves h i lt) (leave_at xs m before enters leaves h i lt)
      (last_enter xs m before enters leaves h (omega (arith, lt)))
      (last_leave xs m before enters leaves h (omega (arith, lt)));
}

-- the sums of the windows one place on
pub moves_on : (xs : List ℤ) (m : ℕ) (before : List ℕ) (enters leaves : List ℤ) → ArePassed xs m before enters leaves
    → (i : ℕ) → i < length before → moved before enters leaves i ≡ sum_at xs m (i + 1) (length before)
moves_on xs m before enters leaves h i lt =
    let last : length before - 1 + 1 ≡ length before = omega (arith, lt) in
    subst (λ j. moved before enters leaves i ≡ sum_at xs m (i + 1) j) last
    (steps_on xs m i (length before - 1) _ _ _ _ _ _ h.least (h.sums i lt)
    (enter_at xs m before enters leaves h i lt) (leave_at xs m before enters leaves h i lt)
    (last_enter xs m before enters leaves h (omega (arith, lt)))
    (last_leave xs m before enters leaves h (omega (arith, lt))) refl)

-- where all squares are small, those of what enters and leaves are
pub squares_close : (limit : ℕ) (xs : List ℤ) (m : ℕ) (before : List ℕ) (enters leaves : List ℤ)
    → ArePassed xs m before enters leaves
    → ((p q : ℕ) → p < length xs → q < length xs → square_at xs p q < limit) → AreClose limit enters leaves
squares_close limit xs m before enters leaves h near = record {
  entering = λ i lt.
      let below : i < length before = omega (arith, lt, enter_long xs m before enters leaves h) in
      let last = length before - 1 + m in
      subst (λ z. squared_difference z (get_or enters i (pos 0)) < limit)
      (sym (last_enter xs m before enters leaves h (omega (arith, below))))
      (subst (λ z. squared_difference (get_or xs last (pos 0)) z < limit)
      (sym (enter_at xs m before enters leaves h i below))
      (near last (i + m) (omega (arith, below, h.long)) (omega (arith, below, h.long))));
  leaving = λ i lt.
      let below : i < length before = omega (arith, lt, leave_long xs m before enters leaves h) in
      let last = length before - 1 in
      subst (λ z. squared_difference z (get_or leaves i (pos 0)) < limit)
      (sym (last_leave xs m before enters leaves h (omega (arith, below))))
      (subst (λ z. squared_difference (get_or xs last (pos 0)) z < limit)
      (sym (leave_at xs m before enters leaves h i below))
      (near last i (omega (arith, below, h.long)) (omega (arith, below, h.long))));
}
