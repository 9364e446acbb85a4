-- Squares of differences, as products of numbers with sign.
use Rattle.std.proofs.Common.{◌≡◌, ℕ, ◌-◌, ◌^◌, ◌≤◌, sym, ap, ◌∙◌, arith, mul-le-mul}
use Rattle.std.proofs.Common.{w64, FitsSigned, ℤ, pos, ◌-ℤ◌, ◌*ℤ◌, to_z, of_z}
use Rattle.std.specs.Prelude.{unsigned_abs, ◌≤ℤ◌}
use Rattle.std.specs.Int.{Width, w128}
use Rattle.std.proofs.lemmas.Int.{ints, to_z-of_z}
use Rattle.mp_nums.specs.Whole.{least_whole, greatest_whole}
use Rattle.mp_defs.specs.Distance.{squared_difference}
use Rattle.mp_sums.specs.Sums.{greatest_square}
use Rattle.mp_sums.specs.Products.{square_is}

-- the square of a difference that was handed on
pub square_handed : (w : Width) (x y r : ℤ) → FitsSigned w r → r ≡ x -ℤ y
    → to_z w (of_z w r) *ℤ to_z w (of_z w r) ≡ pos (squared_difference x y)
square_handed w x y r f e =
    let same = to_z-of_z w r f ∙ e in
    ap (λ z. z *ℤ to_z w (of_z w r)) same ∙ ap (λ z. (x -ℤ y) *ℤ z) same ∙ sym (square_is (x -ℤ y))

-- ---- numbers of 48 bits

-- a number of 48 bits that was read from another one
pub record IsRead (x p : ℤ) : Type 0 where
  pub same : p ≡ x
  pub least : least_whole ≤ℤ p
  pub greatest : p ≤ℤ greatest_whole

difference_short : (x y p q : ℤ) → IsRead x p → IsRead y q → unsigned_abs (x -ℤ y) ≤ 2 ^ 48 - 1
difference_short x y p q a b = omega (arith, ints, a.same, a.least, a.greatest, b.same, b.least, b.greatest)

pub square_small : (x y p q : ℤ) → IsRead x p → IsRead y q → squared_difference x y ≤ greatest_square
square_small x y p q a b = mul-le-mul (difference_short x y p q a b) (difference_short x y p q a b)

-- the difference, as it is handed on
pub difference_read : (x y p q r : ℤ) → FitsSigned w64 p → FitsSigned w64 q → IsRead x p → IsRead y q
    → r ≡ to_z w64 (of_z w64 (to_z w64 (of_z w64 p) -ℤ to_z w64 (of_z w64 q))) → r ≡ x -ℤ y
difference_read x y p q r f g a b e =
    let fits : FitsSigned w64 (x -ℤ y) =
    omega (arith, ints, a.same, a.least, a.greatest, b.same, b.least, b.greatest) in
    e
    ∙ ap (λ z. to_z w64 (of_z w64 z))
    (ap (λ z. z -ℤ to_z w64 (of_z w64 q)) (to_z-of_z w64 p f ∙ a.same) ∙ ap (λ z. x -ℤ z) (to_z-of_z w64 q g ∙ b.same))
    ∙ to_z-of_z w64 (x -ℤ y) fits

pub wide_fits : (n : ℕ) → n ≤ greatest_square → FitsSigned w128 (pos n)
wide_fits n le = omega (arith, ints, le)
