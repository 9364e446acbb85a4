-- Squares of numbers in 16 bits, one by one and in vectors.
use Rattle.std.proofs.Common.{◌≡◌, ℕ, suc, ◌+◌, ◌-◌, ◌*◌, ◌%◌, ◌^◌, ◌<◌, ◌≤◌, List, [], ◌∷◌, length, get_or, sym, ap}
use Rattle.std.proofs.Common.{refl, ◌∙◌, arith, subst, map, w16, w32, w64, to_z, of_z, FitsSigned, ℤ, pos, ◌+ℤ◌, ◌-ℤ◌}
use Rattle.std.proofs.Common.{◌*ℤ◌, inl, inr}
use Rattle.std.specs.Int.{int_wrap, cast_signed, cast_unsigned}
use Rattle.std.specs.Prelude.{unsigned_abs, negsuc}
use Rattle.std.specs.Simd.Lanes.{zip2, chunk, fold_l, Each1}
use Rattle.std.proofs.lemmas.Int.{ints, to_z-of_z, int_wrap_fits, int_wrap-add_left, wrapping_add-bits, wrapping_add_is}
use Rattle.std.proofs.lemmas.Int.{wrapping_mul_is, wrapping_sub_is, wrapping_sub_onto, int_wrap-sub_right}
use Rattle.std.proofs.lemmas.Int.{fits_signed_mul, SFits-int_wrap, int_rem_euclid_is, fits_signed_from_abs}
use Rattle.std.proofs.lemmas.List.{get_or-map, length-map, get_or_default}
use Rattle.std.proofs.lemmas.Nat.{mod_below, mul-le}
use Rattle.std.proofs.lemmas.Simd.{get_or-chunk, get_or-zip2, length-chunk, length-zip2}
use Rattle.std.proofs.lemmas.Bool.{cases_lt}
use Rattle.mp_nums.specs.declared.samples.Sample.{Sample}
use Rattle.mp_nums.specs.declared.samples.Sample.TheVariants.{Missing}
use Rattle.mp_defs.specs.Distance.{squared_difference}
use Rattle.mp_defs.specs.Series.{Series, reading_of, series_of}
use Rattle.mp_defs.specs.SeriesLaws.{series_are_of_samples}
use Rattle.mp_sums.specs.Products.{add_wraps, square_is, sub_wraps}
use Rattle.mp_sums.specs.Residues.{item, residue}
use Rattle.mp_sums.specs.Sums.{square_sum, filled, numbers_of}
use Rattle.mp_sums.specs.SumLaws.{moved_on, sum_joined, sum_of_none, sum_suc}
use Rattle.mp_sums.specs.declared.ranges.Range.{Range}
use Rattle.mp_sums.specs.Ranges.{AreSamplesWithin, SumsFit}
use Rattle.mp_sums.specs.RoundingLaws.{not_rounded}
use Rattle.mp_sums.specs.RangeLaws.{ranges_bound_sums}
use Rattle.mp_anytime.specs.Rounded.{rounded_in}
use Rattle.mp_anytime.specs.Narrow.{AreNarrow, LieNear, wrapped}

-- ---- differences

abbrev pub sub_narrow : ℕ → ℕ → ℕ
sub_narrow x y = (x + (2 ^ 16 - y)) % 2 ^ 16

-- two numbers less each other, as far as 16 bits hold them
both_wrapped : (a b : ℤ) → int_wrap w16 (int_wrap w16 a -ℤ int_wrap w16 b) ≡ int_wrap w16 (a -ℤ b)
both_wrapped a b =
    int_wrap-sub_right w16 (int_wrap w16 a) b ∙ ap (int_wrap w16) (turned (int_wrap w16 a) b)
    ∙ int_wrap-add_left w16 a (pos 0 -ℤ b) ∙ ap (int_wrap w16) (sym (turned a b))
  where
    turned : (x y : ℤ) → x -ℤ y ≡ x +ℤ (pos 0 -ℤ y)
    turned x y = omega (arith, ints)

-- the difference of two numbers that lie near each other, from their lower 16 bits
pub near_difference : (a b x y : ℤ) → FitsSigned w16 x → FitsSigned w16 y → FitsSigned w16 (a -ℤ b)
    → x ≡ int_wrap w16 a → y ≡ int_wrap w16 b → to_z w16 (sub_narrow (of_z w16 x) (of_z w16 y)) ≡ a -ℤ b
near_difference a b x y f g near x_is y_is =
    wrapping_sub_is w16 x y f g ∙ ap (λ z. int_wrap w16 (z -ℤ y)) x_is
    ∙ ap (λ z. int_wrap w16 (int_wrap w16 a -ℤ z)) y_is
    ∙ both_wrapped a b ∙ int_wrap_fits w16 (a -ℤ b) near

widens : (d : ℤ) → FitsSigned w16 d → FitsSigned w32 d
widens d f = record { sfits = omega (arith, ints, f) }

item_fits : (n : ℕ) (x : ℕ → ℤ) (numbers : List ℤ) (p : ℕ) → AreNarrow n x numbers → p < n
    → FitsSigned w16 (item numbers p)
item_fits n x numbers p are lt = subst (FitsSigned w16) (sym (are.each p lt)) (SFits-int_wrap w16 (x p))

-- a number of a list, handed on
pub narrow_at : (n : ℕ) (x : ℕ → ℤ) (numbers : List ℤ) (p : ℕ) → AreNarrow n x numbers → p < n
    → to_z w16 (of_z w16 (item numbers p)) ≡ int_wrap w16 (x p)
narrow_at n x numbers p are lt = to_z-of_z w16 (item numbers p) (item_fits n x numbers p are lt) ∙ are.each p lt

-- the lower bits of 64
pub lower_bits_are : (z : ℤ) → FitsSigned w64 z → cast_signed w16 (cast_unsigned w64 z % 2 ^ 16) ≡ int_wrap w16 z
unfolding int_wrap
lower_bits_are (pos n) fits =
    sym (ap (λ r. cast_signed w16 (unsigned_abs r))
    (int_rem_euclid_is (pos n) (pos (2 ^ 16)) (2 ^ 16) 0 n (omega arith) refl (omega (arith, ints))))
lower_bits_are (negsuc n) fits =
    sym (ap (λ r. cast_signed w16 (unsigned_abs r))
    (int_rem_euclid_is (negsuc n) (pos (2 ^ 16)) (2 ^ 16) (2 ^ 48) (cast_unsigned w64 (negsuc n)) (omega arith) refl
    (omega (arith, ints, fits))))

-- ---- squares

abbrev pub mul_wide : ℕ → ℕ → ℕ
mul_wide x y = (x * y) % 2 ^ 32

-- the square of a difference of 16 bits
pub square_narrow : (d : ℤ) → FitsSigned w16 d
    → to_z w32 (mul_wide (of_z w32 d) (of_z w32 d)) ≡ pos (unsigned_abs d * unsigned_abs d)
square_narrow d f =
    wrapping_mul_is w32 d d (widens d f) (widens d f)
    ∙ int_wrap_fits w32 (d *ℤ d) (fits_signed_mul w32 d d 32768 32768 (most d f) (most d f) (omega arith))
    ∙ sym (square_is d)
  where
    most : (d : ℤ) → FitsSigned w16 d → unsigned_abs d ≤ 32768
    most d f = omega (arith, ints, f)

-- ---- sums, as far as 32 bits hold them

pub nothing_wrapped : pos 0 ≡ wrapped 0
nothing_wrapped = sym (int_wrap_fits w32 (pos 0) (record { sfits = omega (arith, ints) }))

pub one_more : (s q : ℤ) (sum square : ℕ) → s ≡ wrapped sum → q ≡ pos square
    → int_wrap w32 (s +ℤ q) ≡ wrapped (sum + square)
one_more s q sum square e f =
    ap (λ z. int_wrap w32 (z +ℤ q)) e ∙ ap (λ z. int_wrap w32 (wrapped sum +ℤ z)) f
    ∙ int_wrap-add_left w32 (pos sum) (pos square) ∙ ap (int_wrap w32) (omega (arith, ints))

-- one square more and one less
pub step_is : (e l : ℤ) (enters leaves : ℕ) → FitsSigned w32 e → FitsSigned w32 l → e ≡ pos enters → l ≡ pos leaves
    → to_z w32 ((of_z w32 e + (2 ^ 32 - of_z w32 l)) % 2 ^ 32) ≡ pos enters -ℤ pos leaves
step_is e l enters leaves f g e_is l_is =
    wrapping_sub_is w32 e l f g ∙ ap (λ z. int_wrap w32 (z -ℤ l)) e_is ∙ ap (λ z. int_wrap w32 (pos enters -ℤ z)) l_is
    ∙ int_wrap_fits w32 (pos enters -ℤ pos leaves) (between (pos enters -ℤ pos leaves) refl (below e enters f e_is)
    (below l leaves g l_is))
  where
    below : (z : ℤ) (n : ℕ) → FitsSigned w32 z → z ≡ pos n → n < 2 ^ 31
    below z n f is = omega (arith, ints, f, is)

    between : (z : ℤ) → z ≡ pos enters -ℤ pos leaves → enters < 2 ^ 31 → leaves < 2 ^ 31 → FitsSigned w32 z
    between z is lt less = elim (cases_lt enters leaves) [
      | inl below ↦
          subst (FitsSigned w32) (sym (is ∙ omega (arith, ints, below)))
          (fits_signed_from_abs w32 (negsuc (leaves - enters - 1)) (omega (arith, below, less)))
      | inr above ↦
          subst (FitsSigned w32) (sym (is ∙ omega (arith, ints, above)))
          (fits_signed_from_abs w32 (pos (enters - leaves)) (omega (arith, lt)))
    ]

wrapped_twice : (z : ℤ) → int_wrap w32 (int_wrap w32 z) ≡ int_wrap w32 z
wrapped_twice z = int_wrap_fits w32 (int_wrap w32 z) (SFits-int_wrap w32 z)

-- the residue of a sum
pub as_residue : (s : ℤ) (sum : ℕ) → FitsSigned w32 s → s ≡ wrapped sum
    → to_z w32 ((of_z w32 s + 2147483649) % 2 ^ 32) ≡ residue sum
as_residue s sum f is =
    wrapping_add_is w32 s (negsuc 2147483646) f (record { sfits = omega (arith, ints) })
    ∙ ap (λ z. int_wrap w32 (z +ℤ negsuc 2147483646)) is ∙ int_wrap-add_left w32 (pos sum) (negsuc 2147483646)
    ∙ ap (int_wrap w32) (omega (arith, ints))

-- a sum and the residue of another one, together
pub residue_with : (f r : ℤ) (first rest whole : ℕ) → FitsSigned w32 f → FitsSigned w32 r → f ≡ wrapped first
    → r ≡ residue rest → whole ≡ first + rest → to_z w32 ((of_z w32 f + of_z w32 r) % 2 ^ 32) ≡ residue whole
residue_with f r first rest whole ff fr f_is r_is e =
    wrapping_add_is w32 f r ff fr
    ∙ add_wraps f r (pos first) (pos rest -ℤ pos 2147483647) (ap (int_wrap w32) f_is ∙ wrapped_twice (pos first))
    (ap (int_wrap w32) r_is ∙ wrapped_twice (pos rest -ℤ pos 2147483647))
    ∙ ap (int_wrap w32) (omega (arith, ints, e))

-- the residue of the next sum, by a step
pub residue_moved : (r step : ℤ) (sum enters leaves next : ℕ) → r ≡ residue sum → step ≡ pos enters -ℤ pos leaves
    → next + leaves ≡ sum + enters → int_wrap w32 (r +ℤ step) ≡ residue next
residue_moved r step sum enters leaves next r_is step_is e =
    add_wraps r step (pos sum -ℤ pos 2147483647) (pos enters -ℤ pos leaves)
    (ap (int_wrap w32) r_is ∙ wrapped_twice (pos sum -ℤ pos 2147483647)) (ap (int_wrap w32) step_is)
    ∙ ap (int_wrap w32) (omega (arith, ints, e))

-- the same by two sums, one of which comes in and one goes
pub residue_by_sums : (r e l : ℤ) (sum enters leaves next : ℕ) → FitsSigned w32 r → FitsSigned w32 e → FitsSigned w32 l
    → r ≡ residue sum → e ≡ wrapped enters → l ≡ wrapped leaves → next + leaves ≡ sum + enters
    → to_z w32 (((of_z w32 r + of_z w32 e) % 2 ^ 32 + (2 ^ 32 - of_z w32 l)) % 2 ^ 32) ≡ residue next
residue_by_sums r e l sum enters leaves next fr fe fl r_is e_is l_is same =
    wrapping_sub_onto w32 ((of_z w32 r + of_z w32 e) % 2 ^ 32) l
    (mod_below (of_z w32 r + of_z w32 e) (2 ^ 32) (omega arith)) fl
    ∙ ap (λ z. int_wrap w32 (z -ℤ l)) (wrapping_add_is w32 r e fr fe)
    ∙ sub_wraps (int_wrap w32 (r +ℤ e)) l ((pos sum -ℤ pos 2147483647) +ℤ pos enters) (pos leaves)
    (wrapped_twice (r +ℤ e)
    ∙ add_wraps r e (pos sum -ℤ pos 2147483647) (pos enters)
    (ap (int_wrap w32) r_is ∙ wrapped_twice (pos sum -ℤ pos 2147483647))
    (ap (int_wrap w32) e_is ∙ wrapped_twice (pos enters)))
    (ap (int_wrap w32) l_is ∙ wrapped_twice (pos leaves)) ∙ ap (int_wrap w32) (omega (arith, ints, same))

-- a sum without its last square
pub without_last : (b l : ℤ) (sum last first : ℕ) → FitsSigned w32 b → FitsSigned w32 l → b ≡ wrapped sum → l ≡ pos last
    → sum ≡ first + last → to_z w32 ((of_z w32 b + (2 ^ 32 - of_z w32 l)) % 2 ^ 32) ≡ wrapped first
without_last b l sum last first fb fl b_is l_is e =
    wrapping_sub_is w32 b l fb fl
    ∙ sub_wraps b l (pos sum) (pos last) (ap (int_wrap w32) b_is ∙ wrapped_twice (pos sum)) (ap (int_wrap w32) l_is)
    ∙ ap (int_wrap w32) (omega (arith, ints, e))

-- ---- cores

-- a sum by other places
sum_at : (n n' : ℕ) (x : ℕ → ℤ) (i i' j j' : ℕ) → n ≡ n' → i ≡ i' → j ≡ j'
    → square_sum n x i x j ≡ square_sum n' x i' x j'
sum_at n n' x i i' j j' e f g = cc

-- the core of the next block has 32 squares more and as many less
pub core_moves : (m row column : ℕ) (x : ℕ → ℤ) → 31 ≤ m
    → square_sum (m - 31) x (row + 32 + 31) x (column + 32 + 31) + square_sum 32 x (row + 31) x (column + 31)
    ≡ square_sum (m - 31) x (row + 31) x (column + 31) + square_sum 32 x (row + m) x (column + m)
core_moves m row column x long =
    let n = m - 31 in
    let behind = sum_joined n 32 x (row + 31) x (column + 31)
    ∙ ap (λ q. square_sum n x (row + 31) x (column + 31) + q)
    (sum_at 32 32 x (row + 31 + n) (row + m) (column + 31 + n) (column + m) refl (omega (arith, long))
    (omega (arith, long))) in
    let ahead = sum_joined 32 n x (row + 31) x (column + 31)
    ∙ ap (λ q. square_sum 32 x (row + 31) x (column + 31) + q)
    (sum_at n n x (row + 31 + 32) (row + 32 + 31) (column + 31 + 32) (column + 32 + 31) refl (omega arith)
    (omega arith)) in
    let same = sum_at (n + 32) (32 + n) x (row + 31) (row + 31) (column + 31) (column + 31) (omega arith) refl refl in
    omega (arith, behind, ahead, same)

-- where windows are short they share nothing
pub no_core : (m : ℕ) (x : ℕ → ℤ) (i j i' j' : ℕ) → m < 31 → square_sum (m - 31) x i x j ≡ square_sum (m - 31) x i' x j'
no_core m x i j i' j' short =
    let none : m - 31 ≡ 0 = omega (arith, short) in
    ap (λ q. square_sum q x i x j) none ∙ sum_of_none x i x j
    ∙ sym (ap (λ q. square_sum q x i' x j') none ∙ sum_of_none x i' x j')

-- a step by other places
pub same_step : (x : ℕ → ℤ) (a a' b b' c c' d d' : ℕ) → a ≡ a' → b ≡ b' → c ≡ c' → d ≡ d'
    → pos (squared_difference (x a) (x b)) -ℤ pos (squared_difference (x c) (x d))
    ≡ pos (squared_difference (x a') (x b')) -ℤ pos (squared_difference (x c') (x d'))
same_step x a a' b b' c c' d d' e f g h = cc

-- ---- vectors

abbrev pub add_wide : ℕ → ℕ → ℕ
add_wide x y = (x + y) % 2 ^ 32

abbrev pub widened : ℕ → ℕ
widened x = of_z w32 (to_z w16 x)

-- the differences of 32 numbers from two places on
abbrev pub narrow_lanes : List ℤ → ℕ → ℕ → List ℕ
narrow_lanes numbers row column =
    zip2 sub_narrow (map (of_z w16) (chunk row 32 numbers)) (map (of_z w16) (chunk column 32 numbers))

abbrev pub wide_sum : ℕ → List ℕ → ℕ
wide_sum sum ds = fold_l add_wide sum (zip2 mul_wide (map widened ds) (map widened ds))

pub narrow_fits : (x : ℕ) → x < 2 ^ 16 → FitsSigned w16 (to_z w16 x)
narrow_fits x lt =
    let all : x ≡ (x + 0) % 2 ^ 16 = omega (arith, lt) in
    subst (FitsSigned w16) (sym (ap (to_z w16) all ∙ wrapping_add-bits w16 x 0 lt (omega arith)))
    (SFits-int_wrap w16 (to_z w16 x +ℤ to_z w16 0))

pub wide_fits : (x : ℕ) → x < 2 ^ 16 → FitsSigned w32 (to_z w16 x)
wide_fits x lt = widens (to_z w16 x) (narrow_fits x lt)

-- each difference has 16 bits
pub each_narrow : (P : ℕ → Type 0) → ((x : ℕ) → x < 2 ^ 16 → P x) → (xs ys : List ℕ) → Each1 P (zip2 sub_narrow xs ys)
each_narrow P h [] ys = tt
each_narrow P h (x ∷ xs) [] = tt
each_narrow P h (x ∷ xs) (y ∷ ys) =
    (h (sub_narrow x y) (mod_below (x + (2 ^ 16 - y)) (2 ^ 16) (omega arith)), each_narrow P h xs ys)

-- the sum of the squares of differences is that of the squared differences
pub lanes_summed : (ds : List ℕ) (bits sum : ℕ) (x : ℕ → ℤ) (i j : ℕ) → bits < 2 ^ 32 → to_z w32 bits ≡ wrapped sum
    → ((k : ℕ) → k < length ds → get_or ds k 0 < 2 ^ 16)
    → ((k : ℕ) → k < length ds → to_z w16 (get_or ds k 0) ≡ x (i + k) -ℤ x (j + k))
    → to_z w32 (wide_sum bits ds) ≡ wrapped (sum + square_sum (length ds) x i x j)
lanes_summed [] bits sum x i j small is narrow are =
    is ∙ ap wrapped (omega (arith, sum_of_none x i x j))
lanes_summed (d ∷ ds) bits sum x i j small is narrow are =
    let z : ℤ = to_z w16 d in
    let first : z ≡ x i -ℤ x j = are 0 (omega arith) ∙ shifted (omega arith) (omega arith) in
    let fits : FitsSigned w16 z = narrow_fits d (narrow 0 (omega arith)) in
    let square : ℕ = mul_wide (widened d) (widened d) in
    let less : square < 2 ^ 32 = mod_below (widened d * widened d) (2 ^ 32) (omega arith) in
    let square_there : to_z w32 square ≡ pos (squared_difference (x i) (x j)) =
    square_narrow z fits ∙ ap (λ y. pos (unsigned_abs y * unsigned_abs y)) first in
    lanes_summed ds (add_wide bits square) (sum + squared_difference (x i) (x j)) x (i + 1) (j + 1)
    (mod_below (bits + square) (2 ^ 32) (omega arith))
    (wrapping_add-bits w32 bits square small less
    ∙ one_more (to_z w32 bits) (to_z w32 square) sum (squared_difference (x i) (x j)) is square_there)
    (λ k lt. narrow (suc k) (omega (arith, lt)))
    (λ k lt. are (suc k) (omega (arith, lt)) ∙ shifted (omega arith) (omega arith))
    ∙ ap wrapped (omega (arith, moved_on (length ds) x i x j, sum_suc (length ds) x i x j))
  where
    shifted : {p p' q q' : ℕ} → p ≡ p' → q ≡ q' → x p -ℤ x q ≡ x p' -ℤ x q'
    shifted e f = cc

pub lanes_are : (n : ℕ) (x : ℕ → ℤ) (numbers : List ℤ) (row column : ℕ) → AreNarrow n x numbers → row + 32 ≤ n
    → column + 32 ≤ n → row + 32 ≤ length numbers → column + 32 ≤ length numbers
    → to_z w32 (wide_sum 0 (narrow_lanes numbers row column)) ≡ wrapped (square_sum 32 x row x column)
lanes_are n x numbers row column are row_in column_in row_there column_there =
    let rows = map (of_z w16) (chunk row 32 numbers) in
    let columns = map (of_z w16) (chunk column 32 numbers) in
    let rows_long : length rows ≡ 32 = length-map (chunk row 32 numbers) (of_z w16)
    ∙ length-chunk row 32 numbers row_there in
    let columns_long : length columns ≡ 32 = length-map (chunk column 32 numbers) (of_z w16)
    ∙ length-chunk column 32 numbers column_there in
    let ds = narrow_lanes numbers row column in
    let long : length ds ≡ 32 = length-zip2 sub_narrow rows columns (rows_long ∙ sym columns_long) ∙ rows_long in
    lanes_summed ds 0 0 x row column (omega arith) nothing_wrapped
    (λ k lt. subst (λ q. q < 2 ^ 16) (sym (lane k (omega (arith, lt, long))))
    (mod_below (of_z w16 (item numbers (row + k)) + (2 ^ 16 - of_z w16 (item numbers (column + k)))) (2 ^ 16)
    (omega arith)))
    (λ k lt.
    let small : k < 32 = omega (arith, lt, long) in
    ap (to_z w16) (lane k small)
    ∙ near_difference (x (row + k)) (x (column + k)) (item numbers (row + k)) (item numbers (column + k))
    (item_fits n x numbers (row + k) are (omega (arith, small, row_in)))
    (item_fits n x numbers (column + k) are (omega (arith, small, column_in)))
    (are.near.each (row + k) (column + k) (omega (arith, small, row_in)) (omega (arith, small, column_in)))
    (are.each (row + k) (omega (arith, small, row_in))) (are.each (column + k) (omega (arith, small, column_in))))
    ∙ ap wrapped (omega arith) ∙ ap (λ q. wrapped (square_sum q x row x column)) long
  where
    bits_at : (start k : ℕ) → start + 32 ≤ length numbers → k < 32
        → get_or (map (of_z w16) (chunk start 32 numbers)) k 0 ≡ of_z w16 (item numbers (start + k))
    bits_at start k there lt =
        get_or-map (of_z w16) (chunk start 32 numbers) k (pos 0) 0
        (omega (arith, lt, length-chunk start 32 numbers there))
        ∙ ap (of_z w16) (get_or-chunk start 32 numbers k (pos 0) lt)

    lane : (k : ℕ) → k < 32 → get_or (narrow_lanes numbers row column) k 0
        ≡ sub_narrow (of_z w16 (item numbers (row + k))) (of_z w16 (item numbers (column + k)))
    lane k lt =
        get_or-zip2 sub_narrow (map (of_z w16) (chunk row 32 numbers))
        (map (of_z w16) (chunk column 32 numbers)) k 0 0 0
        (omega (arith, lt, length-map (chunk row 32 numbers) (of_z w16), length-chunk row 32 numbers row_there))
        (omega (
          arith,
          lt,
          length-map (chunk column 32 numbers) (of_z w16),
          length-chunk column 32 numbers
              column_there,
        ))
        ∙ ap (λ q. sub_narrow q (get_or (map (of_z w16) (chunk column 32 numbers)) k 0)) (bits_at row k row_there lt)
        ∙ ap (sub_narrow (of_z w16 (item numbers (row + k)))) (bits_at column k column_there lt)

-- ---- samples

-- numbers of a range, of which 30 bits hold each squared difference
pub range_is_narrow : (range : Range) (samples : List Sample) → AreSamplesWithin range samples → SumsFit 1 30 range
    → LieNear (length samples) (numbers_of (series_of samples))
range_is_narrow range samples within fits = record {
  each = λ i j i_in j_in.
      let x = numbers_of (series_of samples) in
      near (x i -ℤ x j) (ranges_bound_sums.squares range (x i) (x j) (within i i_in) (within j j_in));
}
  where
    near : (z : ℤ) → unsigned_abs z * unsigned_abs z ≤ squared_difference range.greatest range.least → FitsSigned w16 z
    near z le = elim (cases_lt (unsigned_abs z) (2 ^ 15)) [
      | inl lt ↦ fits_signed_from_abs w16 z lt
      | inr ge ↦
          let more : 2 ^ 15 * 2 ^ 15 ≤ unsigned_abs z * unsigned_abs z =
          mul-le (2 ^ 15) (2 ^ 15) (unsigned_abs z) (unsigned_abs z) ge ge in
          absurd (omega (arith, more, le, fits))
    ]

-- the lower bits of a sample's number that was read
pub sample_read : (samples : List Sample) (place : ℕ) (sample : Sample) (number r : ℤ) → place < length samples
    → sample ≡ get_or samples place sample → number ≡ filled (reading_of sample) → r ≡ int_wrap w16 number
    → r ≡ int_wrap w16 (numbers_of (series_of samples) place)
sample_read samples place sample number r lt same e is =
    is ∙ ap (int_wrap w16) (e ∙ ap (λ s. filled (reading_of s)) (same ∙ get_or_default samples place sample Missing lt)
    ∙ ap filled (sym (series_are_of_samples.numbers samples place)))

-- the numbers of a series whose samples aren't rounded
pub unrounded_narrow : (shift : ℕ) (a : Series) (n : ℕ) (numbers : List ℤ) → shift ≡ 0 → LieNear n (numbers_of a)
    → ((k : ℕ) → k < n → item numbers k ≡ int_wrap w16 (numbers_of a k)) → AreNarrow n (rounded_in shift a) numbers
unrounded_narrow shift a n numbers none near are = record {
  near = record {
    each = λ i j i_in j_in. subst (FitsSigned w16) (apart (sym (same i)) (sym (same j))) (near.each i j i_in j_in);
  };
  each = λ k lt. are k lt ∙ ap (int_wrap w16) (sym (same k));
}
  where
    same : (k : ℕ) → rounded_in shift a k ≡ numbers_of a k
    same k = ap (λ s. rounded_in s a k) none ∙ not_rounded (numbers_of a k)

    apart : {u u' v v' : ℤ} → u ≡ u' → v ≡ v' → u -ℤ v ≡ u' -ℤ v'
    apart e f = cc
