-- Sums of squared differences in parts, and how large they are.
use Rattle.std.proofs.Common.{◌≡◌, ℕ, ◌+◌, ◌^◌, ◌<◌, ◌≤◌, List, length, refl, sym, ap, arith, subst}
use Rattle.std.specs.Prelude.{ℤ, slice_index_or}
use Rattle.mp_defs.specs.Distance.{squared_difference}
use Rattle.mp_sums.specs.Lists.{list_sum}
use Rattle.mp_sums.specs.RangeLaws.{squares_in_range, sums_in_range}
use Rattle.mp_sums.specs.Residues.{item}
use Rattle.mp_sums.specs.SumLaws.{sum_joined, square_read}
use Rattle.mp_slide.specs.Plain.{LieClose}

-- a part of close numbers
pub part_fits : (xs ys : List ℤ) (first n : ℕ) → LieClose xs ys → n ≤ 256 → first + n ≤ length xs
    → first + n ≤ length ys → list_sum n xs first ys first < 2 ^ 64
part_fits xs ys first n h few here there =
    sums_in_range n 256 64 h.range (item xs) first (item ys) first few h.narrow
    (λ k lt. h.of_pattern (first + k) (omega (arith, lt, here)))
    (λ k lt. h.of_window (first + k) (omega (arith, lt, there)))

-- two of them differ by less than 2 ^ 31
pub close_read : (xs ys : List ℤ) (i j : ℕ) (x y : ℤ) → LieClose xs ys → i < length xs → j < length ys
    → x ≡ slice_index_or xs i x → y ≡ slice_index_or ys j y → squared_difference x y < 2 ^ 62
close_read xs ys i j x y h lt less e f =
    let within : squared_difference (item xs i) (item ys j)
    ≤ squared_difference h.range.greatest h.range.least =
    squares_in_range h.range (item xs i) (item ys j) (h.of_pattern i lt) (h.of_window j less) in
    let same : squared_difference x y ≡ squared_difference (item xs i) (item ys j) =
    square_read xs ys i j (squared_difference x y) x y lt less e f refl in
    omega (arith, within, same, h.narrow)

-- one part more
pub part_more : (xs ys : List ℤ) (m n sum part next from : ℕ) → from ≡ m → next ≡ m + n
    → sum ≡ list_sum m xs 0 ys 0 → part ≡ list_sum n xs from ys from → sum + part ≡ list_sum next xs 0 ys 0
part_more xs ys m n sum part next from e f g h =
    let here : from ≡ 0 + m = omega (arith, e) in
    subst (λ k. sum + part ≡ list_sum k xs 0 ys 0) (sym f)
    (omega (arith, sum_joined m n (item xs) 0 (item ys) 0, g, h, ap (λ k. list_sum n xs k ys k) here))
