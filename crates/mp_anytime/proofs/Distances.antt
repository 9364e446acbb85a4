-- The distance of two windows by their sum, and sums with one sample more.
use Rattle.std.proofs.Common.{◌≡◌, ℕ, zero, suc, ◌+◌, ◌<◌, ◌≤◌, List, [], ◌∷◌, ◌++◌}
use Rattle.std.proofs.Common.{length, get_or, Bool, true, false}
use Rattle.std.proofs.Common.{refl, sym, ap, ◌∙◌, arith, subst, rules}
use Rattle.std.specs.Prelude.{Option, Some, None, if◌then◌else◌, ◌&&◌, ◌↔◌, IsSome, IsTrue, ℤ, pos}
use Rattle.std.specs.Prelude.{slice_get}
use Rattle.mp_nums.specs.declared.samples.Sample.{Sample}
use Rattle.mp_nums.specs.declared.samples.Sample.TheVariants.{Missing, Value}
use Rattle.mp_defs.specs.Series.{Series, present, series_of}
use Rattle.mp_defs.specs.Window.{is_free}
use Rattle.mp_defs.specs.Distance.{distance, squared_difference}
use Rattle.mp_defs.specs.DistanceLaws.{of_free_windows}
use Rattle.mp_series.specs.Samples.{numbers_in}
use Rattle.mp_sums.specs.Sums.{filled, greatest_square, numbers_of}
use Rattle.mp_sums.specs.SumLaws.{distances_are_sums, sum_same}
use Rattle.mp_stream.specs.Appended.{with_one}
use Rattle.mp_anytime.specs.Kept.{IsSumAt}

by_tests : (x : Option ℕ) (f g : Bool) (s : ℕ) → IsSome x ↔ (IsTrue f × IsTrue g)
    → ((d : ℕ) → x ≡ Some d → d ≡ s) → x ≡ (if f && g then Some s else None)
by_tests (Some d) true true s h k = ap Some (k d refl)
by_tests (Some d) true false s h k = grind (arith, rules)
by_tests (Some d) false g s h k = grind (arith, rules)
by_tests None true true s h k = grind (arith, rules)
by_tests None true false s h k = refl
by_tests None false g s h k = refl

pub distance_is : (m : ℕ) (a : Series) (i j sum : ℕ) → IsSumAt m a i j sum
    → distance m a i a j ≡ (if is_free m a i && is_free m a j then Some sum else None)
distance_is m a i j sum h =
    by_tests (distance m a i a j) (is_free m a i) (is_free m a j) sum (of_free_windows m a i a j)
    (λ d e. distances_are_sums m a i a j d e ∙ sym h.sum_is)

-- ---- numbers

get_none : {X : Type 0} (i : ℕ) → slice_get {X = X} [] i ≡ None
get_none zero = refl
get_none (suc i) = refl

none_past : (i : ℕ) → get_or [] i (pos 0) ≡ filled (present (slice_get [] i))
none_past zero = refl
none_past (suc i) = refl

-- the numbers of samples are those of the series
pub number_same : (items : List Sample) (i : ℕ)
    → get_or (numbers_in items) i (pos 0) ≡ numbers_of (series_of items) i
number_same [] i = none_past i
number_same (Missing ∷ rest) zero = refl
number_same (Value n ∷ rest) zero = refl
number_same (s ∷ rest) (suc i) = number_same rest i

get_front : {X : Type 0} (xs ys : List X) (i : ℕ) → i < length xs → slice_get (xs ++ ys) i ≡ slice_get xs i
get_front [] ys i lt = absurd (omega arith)
get_front (x ∷ xs) ys zero lt = refl
get_front (x ∷ xs) ys (suc i) lt = get_front xs ys i (omega arith)

number_front : (a : Series) (s : Option ℤ) (i : ℕ) → i < length a
    → numbers_of (with_one a s) i ≡ numbers_of a i
number_front a s i lt = ap (λ x. filled (present x)) (get_front a (s ∷ []) i lt)

-- a sum stays with one sample more
pub sum_front : (m : ℕ) (a : Series) (s : Option ℤ) (i j sum : ℕ) → i + m ≤ length a → j + m ≤ length a
    → IsSumAt m a i j sum → IsSumAt m (with_one a s) i j sum
sum_front m a s i j sum le le' h = record {
  sum_is = h.sum_is
      ∙ sum_same m (numbers_of a) (numbers_of (with_one a s)) i (numbers_of a) (numbers_of (with_one a s)) j
      (λ k lt. sym (number_front a s (i + k) (omega (arith, lt))))
      (λ k lt. sym (number_front a s (j + k) (omega (arith, lt))));
  small = λ k lt.
      subst (λ x. squared_difference x (numbers_of (with_one a s) (j + k)) ≤ greatest_square)
      (sym (number_front a s (i + k) (omega (arith, lt))))
      (subst (λ y. squared_difference (numbers_of a (i + k)) y ≤ greatest_square)
      (sym (number_front a s (j + k) (omega (arith, lt)))) (h.small k lt));
}
