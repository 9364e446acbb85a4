-- Lists that are filled place by place.
use Rattle.std.proofs.Common.{◌≡◌, ℕ, ◌+◌, ◌%◌, ◌^◌, ◌<◌, List, length, set, refl, sym, ap, ◌∙◌, arith, below_more}
use Rattle.std.proofs.Common.{w32, FitsSigned, ℤ, pos, ◌+ℤ◌, ◌-ℤ◌, to_z, of_z}
use Rattle.std.specs.Prelude.{slice_index_or, negsuc, unsigned_abs}
use Rattle.std.specs.Int.{w64, int_shr, int_wrap, cast_signed, cast_unsigned}
use Rattle.std.proofs.lemmas.Int.{ints, int_rem_euclid_is, to_z-of_z}
use Rattle.std.proofs.lemmas.List.{get_or_default, get_or-set_same, get_or-set_other}
use Rattle.mp_nums.specs.declared.samples.Sample.{Sample}
use Rattle.mp_nums.specs.declared.samples.Sample.TheVariants.{Missing}
use Rattle.mp_defs.specs.Series.{reading_of, series_of}
use Rattle.mp_defs.specs.Distance.{squared_difference}
use Rattle.mp_defs.specs.SeriesLaws.{series_are_of_samples}
use Rattle.mp_sums.specs.Sums.{filled, numbers_of}
use Rattle.mp_sums.specs.Rounding.{rounded}
use Rattle.mp_sums.specs.Residues.{item}
use Rattle.mp_sums.specs.Products.{add_wraps, sub_wraps, twice}

pub set_next : (v : List ℤ) (k : ℕ) (z : ℤ) (f : ℕ → ℤ) → k < length v → ((q : ℕ) → q < k → item v q ≡ f q)
    → z ≡ f k → (q : ℕ) → q < k + 1 → item (set v k z) q ≡ f q
set_next v k z f lt before here = below_more (λ q. item (set v k z) q ≡ f q) k
    (λ q less. get_or-set_other v k q z (pos 0) (λ e. omega (arith, e, less)) ∙ before q less)
    (get_or-set_same v k z (pos 0) lt ∙ here)

-- the number of a sample that was read
pub number_there : (samples : List Sample) (place : ℕ) (number : ℤ) (sample : Sample) → place < length samples
    → sample ≡ slice_index_or samples place sample → number ≡ filled (reading_of sample)
    → number ≡ numbers_of (series_of samples) place
number_there samples place number sample lt same e =
    e ∙ ap (λ s. filled (reading_of s)) (same ∙ get_or_default samples place sample Missing lt)
    ∙ ap filled (sym (series_are_of_samples.numbers samples place))

-- a sample that was rounded
pub rounded_is : (samples : List Sample) (place shift : ℕ) (sample : Sample) (r : ℤ)
    → sample ≡ slice_index_or samples place Missing → r ≡ int_wrap w32 (int_shr (filled (reading_of sample)) shift)
    → r ≡ int_wrap w32 (rounded shift (numbers_of (series_of samples)) place)
rounded_is samples place shift sample r same e =
    e
    ∙ ap (int_wrap w32) (ap (λ s. int_shr (filled (reading_of s)) shift) same
    ∙ ap (λ o. int_shr (filled o) shift) (sym (series_are_of_samples.numbers samples place)))

-- the low half of 64 bits
pub low_half_is : (z : ℤ) → FitsSigned w64 z → cast_signed w32 (cast_unsigned w64 z % 2 ^ 32) ≡ int_wrap w32 z
unfolding int_wrap
low_half_is (pos n) fits =
    sym (ap (λ r. cast_signed w32 (unsigned_abs r))
    (int_rem_euclid_is (pos n) (pos (2 ^ 32)) (2 ^ 32) 0 n (omega arith) refl (omega (arith, ints))))
low_half_is (negsuc n) fits =
    sym (ap (λ r. cast_signed w32 (unsigned_abs r))
    (int_rem_euclid_is (negsuc n) (pos (2 ^ 32)) (2 ^ 32) (2 ^ 32) (cast_unsigned w64 (negsuc n)) (omega arith) refl
    (omega (arith, ints, fits))))

-- a change of numbers that were handed on
pub difference_passed : (r enters leaves : ℤ) → FitsSigned w32 enters → FitsSigned w32 leaves
    → r ≡ int_wrap w32 (to_z w32 (of_z w32 enters) -ℤ to_z w32 (of_z w32 leaves)) → r ≡ int_wrap w32 (enters -ℤ leaves)
difference_passed r enters leaves f g e =
    e ∙ ap (λ z. int_wrap w32 (z -ℤ to_z w32 (of_z w32 leaves))) (to_z-of_z w32 enters f)
    ∙ ap (λ z. int_wrap w32 (enters -ℤ z)) (to_z-of_z w32 leaves g)

pub sum_passed : (r enters leaves : ℤ) → FitsSigned w32 enters → FitsSigned w32 leaves
    → r ≡ int_wrap w32 (to_z w32 (of_z w32 enters) +ℤ to_z w32 (of_z w32 leaves)) → r ≡ int_wrap w32 (enters +ℤ leaves)
sum_passed r enters leaves f g e =
    e ∙ ap (λ z. int_wrap w32 (z +ℤ to_z w32 (of_z w32 leaves))) (to_z-of_z w32 enters f)
    ∙ ap (λ z. int_wrap w32 (enters +ℤ z)) (to_z-of_z w32 leaves g)

-- a change, of numbers as far as 32 bits hold them
pub difference_is : (enters leaves : ℤ) (m : ℕ) (x : ℕ → ℤ) (start q : ℕ) → enters ≡ int_wrap w32 (x (start + m + q))
    → leaves ≡ int_wrap w32 (x (start + q))
    → int_wrap w32 (enters -ℤ leaves) ≡ int_wrap w32 (x (start + q + m) -ℤ x (start + q))
difference_is enters leaves m x start q e f =
    let there : start + m + q ≡ start + q + m = omega arith in
    sub_wraps enters leaves (x (start + m + q)) (x (start + q)) (ap (int_wrap w32) e ∙ twice (x (start + m + q)))
    (ap (int_wrap w32) f ∙ twice (x (start + q)))
    ∙ ap (λ n. int_wrap w32 (x n -ℤ x (start + q))) there

pub sum_is : (enters leaves : ℤ) (m : ℕ) (x : ℕ → ℤ) (start q : ℕ) → enters ≡ int_wrap w32 (x (start + m + q))
    → leaves ≡ int_wrap w32 (x (start + q))
    → int_wrap w32 (enters +ℤ leaves) ≡ int_wrap w32 (x (start + q + m) +ℤ x (start + q))
sum_is enters leaves m x start q e f =
    let there : start + m + q ≡ start + q + m = omega arith in
    add_wraps enters leaves (x (start + m + q)) (x (start + q)) (ap (int_wrap w32) e ∙ twice (x (start + m + q)))
    (ap (int_wrap w32) f ∙ twice (x (start + q)))
    ∙ ap (λ n. int_wrap w32 (x n +ℤ x (start + q))) there

-- ---- squares

-- of numbers of samples
pub square_there : (a b : List Sample) (i j square : ℕ) (x y : ℤ) (d e : Sample) → i < length a → j < length b
    → x ≡ filled (reading_of (slice_index_or a i d)) → y ≡ filled (reading_of (slice_index_or b j e))
    → square ≡ squared_difference x y
    → square ≡ squared_difference (numbers_of (series_of a) i) (numbers_of (series_of b) j)
square_there a b i j square x y d e lt less f g is =
    is ∙ ap (λ z. squared_difference z y) (number_there a i x _ lt (get_or_default a i d _ lt) f)
    ∙ ap (squared_difference (numbers_of (series_of a) i)) (number_there b j y _ less (get_or_default b j e _ less) g)
