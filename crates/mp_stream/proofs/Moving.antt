-- A row of sums one place on.
use Rattle.std.proofs.Common.{◌≡◌, ℕ, zero, suc, ◌+◌, ◌-◌, ◌*◌, ◌^◌, ◌<◌, ◌≤◌, ◌%◌, List, length, get_or, ap, ◌∙◌, sym}
use Rattle.std.proofs.Common.{arith}
use Rattle.std.proofs.Common.{take, drop, refl, subst}
use Rattle.std.specs.Prelude.{ℤ, pos}
use Rattle.std.proofs.lemmas.List.{get_or_default, get_or-take, length-take-le}
use Rattle.std.proofs.Math.Nat.{mul-le-mul_left}
use Rattle.mp_defs.specs.Distance.{squared_difference}
use Rattle.mp_defs.specs.Limits.{max_window}
use Rattle.mp_sums.specs.RangeLaws.{squares_in_range, sums_in_range}
use Rattle.mp_sums.specs.Lists.{list_sum}
use Rattle.mp_sums.specs.Residues.{item}
use Rattle.mp_sums.specs.Ranges.{AreWithin, SumsFit}
use Rattle.mp_sums.specs.Sums.{greatest_square}
use Rattle.mp_stream.specs.Rows.{IsBefore, IsRow, LieClose, distance_from, sum_at, square_at, next_of}
use Rattle.mp_stream.specs.Rows.{last_of, moved, moved_row, AreClose, CanMove, CanStep}
use Rattle.mp_sums.specs.declared.ranges.Range.{Range}
use Rattle.mp_stream.proofs.SumLemmas.{ArePassed, between_parts, can_move, moves_on, squares_close}

-- behind the first window
pub moved_behind : (first : ℕ) (before : List ℕ) (enters leaves : List ℤ) (i : ℕ) → 1 ≤ i
    → moved_row first before enters leaves i ≡ moved before enters leaves (i - 1)
moved_behind first before enters leaves zero le = absurd (omega arith)
moved_behind first before enters leaves (suc i) le =
    let same : i ≡ suc i - 1 = omega arith in ap (moved before enters leaves) same

-- the numbers that enter and leave window i and the last one, as they were read
pub record AreRead (enters leaves : List ℤ) (i : ℕ) (enter leave last_enter last_leave : ℤ) : Type 0 where
  pub enter_is : enter ≡ item enters i
  pub leave_is : leave ≡ item leaves i
  pub last_enter_is : last_enter ≡ last_of enters
  pub last_leave_is : last_leave ≡ last_of leaves

-- whatever stands for numbers past the end
pub are_read : (enters leaves : List ℤ) (count i last : ℕ) (enter leave last_enter last_leave a b c d : ℤ)
    → length enters ≡ count → length leaves ≡ count → last ≡ count - 1 → i < count → enter ≡ get_or enters i a
    → leave ≡ get_or leaves i b → last_enter ≡ get_or enters last c → last_leave ≡ get_or leaves last d
    → AreRead enters leaves i enter leave last_enter last_leave
are_read enters leaves count i last enter leave last_enter last_leave a b c d e f at lt g h p q =
    let here : last ≡ length enters - 1 = omega (arith, at, e) in
    let there : last ≡ length leaves - 1 = omega (arith, at, f) in
    record {
      enter_is = g ∙ get_or_default enters i a (pos 0) (omega (arith, e, lt));
      leave_is = h ∙ get_or_default leaves i b (pos 0) (omega (arith, f, lt));
      last_enter_is =
          p ∙ get_or_default enters last c (pos 0) (omega (arith, e, at, lt)) ∙ ap (λ n. get_or enters n (pos 0)) here;
      last_leave_is =
          q ∙ get_or_default leaves last d (pos 0) (omega (arith, f, at, lt)) ∙ ap (λ n. get_or leaves n (pos 0)) there;
    }

-- what is said of these numbers
said_of : (P : ℤ → ℤ → ℤ → ℤ → Type 0) (enters leaves : List ℤ) (i : ℕ) (enter leave last_enter last_leave : ℤ)
    → AreRead enters leaves i enter leave last_enter last_leave
    → P (item enters i) (item leaves i) (last_of enters) (last_of leaves) → P enter leave last_enter last_leave
said_of P enters leaves i enter leave last_enter last_leave read h =
    subst (λ z. P z leave last_enter last_leave) (sym read.enter_is)
    (subst (λ z. P (item enters i) z last_enter last_leave) (sym read.leave_is)
    (subst (λ z. P (item enters i) (item leaves i) z last_leave) (sym read.last_enter_is)
    (subst (λ z. P (item enters i) (item leaves i) (last_of enters) z) (sym read.last_leave_is) h)))

-- the next sum can be computed of them
pub can_step_read : (limit sum : ℕ) (enters leaves : List ℤ) (i : ℕ) (enter leave last_enter last_leave : ℤ)
    → AreRead enters leaves i enter leave last_enter last_leave
    → CanStep limit sum (item enters i) (item leaves i) (last_of enters) (last_of leaves)
    → CanStep limit sum enter leave last_enter last_leave
can_step_read limit sum = said_of (CanStep limit sum)

pub enter_close : (limit : ℕ) (enters leaves : List ℤ) (i : ℕ) (enter leave last_enter last_leave : ℤ)
    → AreRead enters leaves i enter leave last_enter last_leave
    → squared_difference (last_of enters) (item enters i) < limit → squared_difference last_enter enter < limit
enter_close limit = said_of (λ enter leave last_enter last_leave. squared_difference last_enter enter < limit)

pub leave_close : (limit : ℕ) (enters leaves : List ℤ) (i : ℕ) (enter leave last_enter last_leave : ℤ)
    → AreRead enters leaves i enter leave last_enter last_leave
    → squared_difference (last_of leaves) (item leaves i) < limit → squared_difference last_leave leave < limit
leave_close limit = said_of (λ enter leave last_enter last_leave. squared_difference last_leave leave < limit)

-- it is the sum one place on
pub next_read : (before : List ℕ) (enters leaves : List ℤ) (i : ℕ) (enter leave last_enter last_leave : ℤ) (r : ℕ)
    → AreRead enters leaves i enter leave last_enter last_leave
    → r ≡ next_of (get_or before i 0) enter leave last_enter last_leave → r ≡ moved before enters leaves i
next_read before enters leaves i enter leave last_enter last_leave r read e =
    e
    ∙ said_of (λ enter leave last_enter last_leave.
    next_of (get_or before i 0) enter leave last_enter last_leave ≡ moved before enters leaves i) enters leaves i enter
    leave last_enter last_leave read refl

-- the top bit of a difference
pub below_tells : (sum limit : ℕ) → sum < 2 ^ 64 → limit ≤ 2 ^ 63 → (sum + 2 ^ 64 - limit) % 2 ^ 64 < 2 ^ 63
    → limit ≤ sum
below_tells sum limit h k lt = omega (arith, lt)

-- a row of the windows before the last one, the parts of the samples that it moves by, and its first sum
pub record AreParts (m : ℕ) (xs : List ℤ) (last first : ℕ) (before : List ℕ) (enters leaves : List ℤ) : Type 0 where
  pub count : length before ≡ last
  pub passed : ArePassed xs m before enters leaves
  pub first_is : first ≡ sum_at xs m 0 (length before)

pub are_parts : (m : ℕ) (xs : List ℤ) (last here k end first : ℕ) (sums next before : List ℕ) (enters leaves : List ℤ)
    → IsBefore m xs last sums next → here ≡ length sums - 1 → before ≡ take here sums → k ≡ m → end ≡ length xs
    → enters ≡ take (end - k) (drop k xs) → leaves ≡ take here xs → first ≡ sum_at xs m 0 here
    → AreParts m xs last first before enters leaves
are_parts m xs last here k end first sums next before enters leaves h at part from whole enter leave first_is =
    let count : length before ≡ here =
    ap length part ∙ length-take-le here sums (omega (arith, at)) in
    let place : here ≡ last = omega (arith, at, h.places.sums_are) in
    let rest : end - m ≡ length before = omega (arith, count, place, whole, h.long) in
    record {
      count = count ∙ place;
      passed = record {
        least = omega (arith, h.least);
        long = omega (arith, count, place, h.long);
        sums = λ i lt. ap (λ list. get_or list i 0) part ∙ get_or-take here sums i 0 (omega (arith, lt, count))
            ∙ h.row i (omega (arith, lt, count, place))
            ∙ ap (λ n. sum_at xs m i (n - 1)) (sym place ∙ sym count);
        enter = enter ∙ ap (λ n. take (end - n) (drop n xs)) from ∙ ap (λ n. take n (drop m xs)) rest;
        leave = leave ∙ ap (λ n. take n xs) (sym count);
      };
      first_is = first_is ∙ ap (sum_at xs m 0) (sym count);
    }

-- the sums of the row
pub row_is : (m : ℕ) (xs : List ℤ) (last first : ℕ) (before : List ℕ) (enters leaves : List ℤ)
    → AreParts m xs last first before enters leaves → (i : ℕ) → i ≤ length before
    → moved_row first before enters leaves i ≡ distance_from m xs last i
row_is m xs last first before enters leaves h zero le = h.first_is ∙ ap (sum_at xs m 0) h.count
row_is m xs last first before enters leaves h (suc i) le =
    let one : i + 1 ≡ suc i = omega arith in
    moves_on xs m before enters leaves h.passed i (omega (arith, le))
    ∙ ap (sum_at xs m (i + 1)) h.count ∙ ap (distance_from m xs last) one

-- ---- sums below 2 ^ 63

pub squares_within : (range : Range) (xs : List ℤ) → AreWithin range xs → (p q : ℕ) → p < length xs → q < length xs
    → square_at xs p q ≤ squared_difference range.greatest range.least
squares_within range xs within p q lt lt' = squares_in_range range (item xs p) (item xs q) (within p lt) (within q lt')

pub sum_small : (range : Range) (xs : List ℤ) (m i j : ℕ) → AreWithin range xs → SumsFit m 63 range → i + m ≤ length xs
    → j + m ≤ length xs → sum_at xs m i j < 2 ^ 63
sum_small range xs m i j within fit le le' =
    sums_in_range m m 63 range (item xs) i (item xs) j (omega arith) fit
    (λ k lt. within (i + k) (omega (arith, lt, le))) (λ k lt. within (j + k) (omega (arith, lt, le')))

pub distance_small : (m : ℕ) (xs : List ℤ) (last i : ℕ) → LieClose m xs → length xs ≡ last + m → i ≤ last
    → distance_from m xs last i < 2 ^ 63
distance_small m xs last i close long le =
    sum_small close.range xs m i last close.within close.fits (omega (arith, long, le)) (omega (arith, long))

-- numbers of windows of three samples or more, of which 63 bits hold the sums
pub are_close : (m : ℕ) (xs : List ℤ) (last first : ℕ) (before : List ℕ) (enters leaves : List ℤ) → 3 ≤ m
    → AreParts m xs last first before enters leaves → LieClose m xs → AreClose (2 ^ 62) enters leaves
are_close m xs last first before enters leaves few h close =
    let bound = squared_difference close.range.greatest close.range.least in
    let one : bound * 3 ≤ bound * m = mul-le-mul_left bound few in
    let near : (p q : ℕ) → p < length xs → q < length xs → square_at xs p q < 2 ^ 62 = λ p q lt lt'.
    omega (arith, one, close.fits, squares_within close.range xs close.within p q lt lt') in
    squares_close (2 ^ 62) xs m before enters leaves h.passed near

-- numbers in a range whose squares have 64 bits
pub are_close_wide : (m : ℕ) (xs : List ℤ) (range : Range) (last first : ℕ) (before : List ℕ) (enters leaves : List ℤ)
    → SumsFit 1 64 range → AreParts m xs last first before enters leaves → AreWithin range xs
    → AreClose (2 ^ 64) enters leaves
are_close_wide m xs range last first before enters leaves fits h within =
    squares_close (2 ^ 64) xs m before enters leaves h.passed
    (λ p q lt lt'. omega (arith, fits, squares_within range xs within p q lt lt'))

pub can_move_narrow : (m : ℕ) (xs : List ℤ) (last first : ℕ) (before : List ℕ) (enters leaves : List ℤ)
    → AreParts m xs last first before enters leaves → LieClose m xs → CanMove (2 ^ 64) before enters leaves
can_move_narrow m xs last first before enters leaves h close =
    let bound = squared_difference close.range.greatest close.range.least in
    let one : bound * 1 ≤ bound * m = mul-le-mul_left bound h.passed.least in
    can_move (2 ^ 64) bound xs m before enters leaves h.passed
    (squares_within close.range xs close.within) (omega (arith, one, close.fits))

pub can_move_wide : (m : ℕ) (xs : List ℤ) (range : Range) (last first : ℕ) (before : List ℕ) (enters leaves : List ℤ)
    → squared_difference range.greatest range.least ≤ greatest_square → m ≤ max_window
    → AreParts m xs last first before enters leaves → AreWithin range xs → CanMove (2 ^ 128) before enters leaves
can_move_wide m xs range last first before enters leaves small width h within =
    can_move (2 ^ 128) greatest_square xs m before enters leaves h.passed
    (λ p q lt lt'. omega (arith, small, squares_within range xs within p q lt lt'))
    (omega (arith, width))

-- the sums of a row in no more than 79 bits
pub sums_small : (range : Range) (m : ℕ) (xs : List ℤ) (last : ℕ) (row : List ℕ) → SumsFit m 79 range
    → length xs ≡ last + m → length row ≡ last + 1 → AreWithin range xs → IsRow xs m last row
    → (i : ℕ) → i < length row → get_or row i 0 < 2 ^ 79
sums_small range m xs last row fits long places within is_row i lt =
    let sum : sum_at xs m i last < 2 ^ 79 =
    sums_in_range m m 79 range (item xs) i (item xs) last (omega arith) fits
    (λ k less. within (i + k) (omega (arith, lt, less, long, places)))
    (λ k less. within (last + k) (omega (arith, long, less))) in
    omega (arith, is_row i lt, sum)

-- the first window and the last one, as they lie in the numbers
pub ends_sum : (m : ℕ) (xs first second : List ℤ) (k end last : ℕ) → k ≡ m → end ≡ length xs → length xs ≡ last + m
    → first ≡ take k xs → second ≡ take (end - last) (drop last xs)
    → list_sum (length first) first 0 second 0 ≡ sum_at xs m 0 last
ends_sum m xs first second k end last from whole long e f =
    let width : end - last ≡ m = omega (arith, whole, long) in
    let here : first ≡ take m xs = e ∙ ap (λ n. take n xs) from in
    let there : second ≡ take m (drop last xs) = f ∙ ap (λ n. take n (drop last xs)) width in
    let places : length first ≡ m = ap length here ∙ length-take-le m xs (omega (arith, long)) in
    ap (λ n. list_sum n first 0 second 0) places ∙ between_parts xs first second 0 last m m (omega arith) here there
