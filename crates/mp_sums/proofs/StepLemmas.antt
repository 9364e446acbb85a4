-- Residues with one more square.
use Rattle.std.proofs.Common.{◌≡◌, ℕ, ◌+◌, sym, ap, ◌∙◌, arith, w32, FitsSigned, ℤ, pos, ◌+ℤ◌, ◌-ℤ◌, ◌*ℤ◌}
use Rattle.std.specs.Int.{int_wrap}
use Rattle.std.proofs.lemmas.Int.{ints, int_wrap_fits}
use Rattle.mp_defs.specs.Distance.{squared_difference}
use Rattle.mp_sums.specs.Sums.{square_sum}
use Rattle.mp_sums.specs.Residues.{residue}
use Rattle.mp_sums.specs.Products.{square_is, add_wraps, sub_wraps, mul_wraps, twice}
use Rattle.mp_sums.specs.SumLaws.{sum_of_none, sum_more}

zero_fits : FitsSigned w32 (pos 0 -ℤ pos 2147483647)
zero_fits = omega (arith, ints)

pub residue_of_none : (x : ℕ → ℤ) (i : ℕ) (y : ℕ → ℤ) (j : ℕ)
    → (pos 0 -ℤ pos 2147483647) ≡ residue (square_sum 0 x i y j)
residue_of_none x i y j =
    sym (int_wrap_fits w32 (pos 0 -ℤ pos 2147483647) zero_fits)
    ∙ ap (λ n. int_wrap w32 (pos n -ℤ pos 2147483647)) (sym (sum_of_none x i y j))

put_in : (p t : ℤ) (q square : ℕ) → p ≡ pos square → (pos q -ℤ t) +ℤ p ≡ pos (q + square) -ℤ t
put_in p t q square e = omega (arith, ints, e)

pub residue_of_more : (r row column : ℤ) (m : ℕ) (x : ℕ → ℤ) (i : ℕ) (y : ℕ → ℤ) (j : ℕ)
    → r ≡ residue (square_sum m x i y j) → row ≡ int_wrap w32 (x (i + m)) → column ≡ int_wrap w32 (y (j + m))
    → int_wrap w32 (r +ℤ (row -ℤ column) *ℤ (row -ℤ column)) ≡ residue (square_sum (m + 1) x i y j)
residue_of_more r row column m x i y j e f g =
    let q : ℕ = square_sum m x i y j in
    let top : ℤ = pos 2147483647 in
    let difference : ℤ = x (i + m) -ℤ y (j + m) in
    let same : int_wrap w32 (row -ℤ column) ≡ int_wrap w32 difference =
    sub_wraps row column (x (i + m)) (y (j + m)) (ap (int_wrap w32) f ∙ twice (x (i + m)))
    (ap (int_wrap w32) g ∙ twice (y (j + m))) in
    add_wraps r ((row -ℤ column) *ℤ (row -ℤ column)) (pos q -ℤ top) (difference *ℤ difference)
    (ap (int_wrap w32) e
    ∙ twice (pos q -ℤ top)) (mul_wraps (row -ℤ column) (row -ℤ column) difference difference same same)
    ∙ ap (int_wrap w32) (put_in (difference *ℤ difference) top q (squared_difference (x (i + m)) (y (j + m))) (sym
    (square_is difference)))
    ∙ ap (λ n. int_wrap w32 (pos n -ℤ top)) (sym (sum_more m x i y j))
