-- Squares of numbers that lie close.
use Rattle.std.proofs.Common.{◌≡◌, ℕ, ◌*◌, ◌^◌, ◌<◌, ◌≤◌, inl, inr, ap, ◌∙◌, arith, mul-le-mul}
use Rattle.std.proofs.Common.{w32, w64, FitsSigned, ℤ, pos, ◌-ℤ◌, to_z, of_z}
use Rattle.std.specs.Prelude.{unsigned_abs}
use Rattle.std.proofs.lemmas.Bool.{cases_lt}
use Rattle.std.proofs.lemmas.Int.{ints, to_z-of_z}
use Rattle.mp_defs.specs.Distance.{squared_difference}

small_root : (n : ℕ) → n * n < 2 ^ 62 → n < 2 ^ 31
small_root n lt = elim (cases_lt n (2 ^ 31)) [
  | inl less ↦ less
  | inr more ↦
      let square : 2 ^ 31 * 2 ^ 31 ≤ n * n = mul-le-mul more more in
      absurd (omega (arith, square, lt))
]

fits_half : (z : ℤ) → unsigned_abs z < 2 ^ 31 → FitsSigned w32 z
fits_half z lt = omega (arith, ints, lt)

-- they differ by less than 2 ^ 31
pub difference_fits : (x y : ℤ) → squared_difference x y < 2 ^ 62 → FitsSigned w32 (x -ℤ y)
difference_fits x y lt = fits_half (x -ℤ y) (small_root (unsigned_abs (x -ℤ y)) lt)

-- the difference, of numbers that were handed on
pub difference_handed : (x y p q : ℤ) → FitsSigned w64 p → FitsSigned w64 q → p ≡ x → q ≡ y
    → squared_difference x y < 2 ^ 62
    → to_z w64 (of_z w64 (to_z w64 (of_z w64 p) -ℤ to_z w64 (of_z w64 q))) ≡ x -ℤ y
difference_handed x y p q f g e h lt =
    let half = difference_fits x y lt in
    let fits : FitsSigned w64 (x -ℤ y) = omega (arith, ints, half) in
    ap (λ z. to_z w64 (of_z w64 z))
    (ap (λ z. z -ℤ to_z w64 (of_z w64 q)) (to_z-of_z w64 p f ∙ e) ∙ ap (λ z. x -ℤ z) (to_z-of_z w64 q g ∙ h))
    ∙ to_z-of_z w64 (x -ℤ y) fits

-- half of the bits hold it
pub difference_halved : (x y r z : ℤ) → z ≡ x -ℤ y → r ≡ to_z w32 (of_z w32 z) → squared_difference x y < 2 ^ 62
    → r ≡ x -ℤ y
difference_halved x y r z e h lt =
    h ∙ ap (λ d. to_z w32 (of_z w32 d)) e ∙ to_z-of_z w32 (x -ℤ y) (difference_fits x y lt)

-- its square
pub square_fits : (n : ℕ) → n < 2 ^ 62 → FitsSigned w64 (pos n)
square_fits n lt = omega (arith, ints, lt)
