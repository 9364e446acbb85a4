-- When a sum has no more than so many bits.
use Rattle.std.proofs.Common.{◌≡◌, ℕ, ◌+◌, ◌*◌, ◌/◌, ◌^◌, ◌<◌, ◌≤◌, Bool, true, false, cond, sym, ap, subst, arith}
use Rattle.std.specs.Prelude.{◌↔◌, ◌==◌, IsTrue, ℤ, ◌≤ℤ◌, int_lt}
use Rattle.std.specs.Int.{int_min, int_max}
use Rattle.std.proofs.lemmas.Bool.Decides.{nat_tests}
use Rattle.std.proofs.lemmas.Int.{ints}
use Rattle.std.proofs.lemmas.Nat.{pow_pos, mul-le}
use Rattle.std.proofs.Math.Nat.{div-eq_of_lt, lt-div-mul-add}
use Rattle.mp_defs.specs.Distance.{squared_difference}
use Rattle.mp_sums.specs.declared.ranges.Range.{Range}
use Rattle.mp_sums.specs.Ranges.{IsInRange, Reaches, SumsFit}
use Rattle.mp_sums.specs.RangeLaws.{ranges_bound_sums}

none_above : (n h : ℕ) → 0 < h → n / h ≡ 0 → n < h
none_above n h some e =
    let less : n < n / h * h + h = lt-div-mul-add some in
    omega (arith, less, ap (λ q. q * h) e)

-- nothing is left above so many bits exactly where they hold the number
pub fits_exactly : (n bits : ℕ) → IsTrue (n / 2 ^ bits == 0) ↔ (n < 2 ^ bits)
fits_exactly n bits = (
  λ is. none_above n (2 ^ bits) (pow_pos bits) (grind (arith, nat_tests)),
  λ lt. let none : n / 2 ^ bits ≡ 0 = div-eq_of_lt lt in grind (arith, nat_tests),
)

-- ---- ends

either : (b : Bool) (P : ℤ → Type 0) (x y : ℤ) → P x → P y → P (cond b x y)
either true P x y h k = h
either false P x y h k = k

-- what lies below two numbers lies below the lesser one
pub below_lesser : (z x y r : ℤ) → r ≡ int_min x y → z ≤ℤ x → z ≤ℤ y → z ≤ℤ r
below_lesser z x y r e h k = subst (λ v. z ≤ℤ v) (sym e) (either (int_lt y x) (λ v. z ≤ℤ v) y x k h)

pub above_greater : (z x y r : ℤ) → r ≡ int_max x y → x ≤ℤ z → y ≤ℤ z → r ≤ℤ z
above_greater z x y r e h k = subst (λ v. v ≤ℤ z) (sym e) (either (int_lt y x) (λ v. v ≤ℤ z) x y h k)

-- ---- ranges in one another

-- where a range holds the sums of squares, so does one that it reaches as far as
pub narrower_fits : (m bits : ℕ) (wide narrow : Range) (x : ℤ) → Reaches wide narrow → IsInRange narrow x
    → SumsFit m bits wide → SumsFit m bits narrow
narrower_fits m bits wide narrow x reaches there fits =
    let square = ranges_bound_sums.squares wide narrow.greatest narrow.least
    (omega (arith, ints, reaches.0, there.0, there.1), reaches.1)
    (reaches.0, omega (arith, ints, reaches.1, there.0, there.1)) in
    let more : m * squared_difference narrow.greatest narrow.least
    ≤ m * squared_difference wide.greatest wide.least =
    mul-le m (squared_difference narrow.greatest narrow.least) m (squared_difference wide.greatest wide.least)
    (omega arith) square in
    omega (arith, more, fits)
