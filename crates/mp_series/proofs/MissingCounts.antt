-- Counts of missing samples: one sample more, and what they tell of windows.
use Rattle.std.proofs.Common.{◌≡◌, ℕ, zero, suc, ◌+◌, ◌<◌, ◌≤◌, Bool, true, List, [], ◌∷◌, ◌++◌, length, get_or}
use Rattle.std.proofs.Common.{refl, sym, ap, ◌∙◌, arith, subst, add-one, below_more}
use Rattle.std.specs.Prelude.{◌==◌, ◌&&◌, is_some, slice_index_or, ℤ}
use Rattle.std.proofs.Math.ListN.{get_or-append}
use Rattle.std.proofs.Math.Seq.{get_or-append_seam}
use Rattle.std.proofs.lemmas.List.{map-append, length-append}
use Rattle.std.proofs.lemmas.Bool.Decides.{nat_tests}
use Rattle.mp_nums.specs.declared.samples.Sample.{Sample}
use Rattle.mp_nums.specs.declared.samples.Sample.TheVariants.{Missing, Value}
use Rattle.mp_defs.specs.Series.{reading_of, series_of}
use Rattle.mp_defs.specs.SeriesLaws.{series_are_of_samples}
use Rattle.mp_defs.specs.DistanceLaws.{grows_by_one_sample}
use Rattle.mp_defs.specs.Window.{is_free}
use Rattle.mp_defs.specs.Limits.{max_samples}
use Rattle.mp_series.specs.Samples.{number_in, numbers_in, gap_in, missing_before, IsStored}

pub none_before : (items : List Sample) → missing_before items 0 ≡ 0
unfolding missing_before
none_before items = refl

pub one_more : (items : List Sample) (count : ℕ)
    → missing_before items (count + 1) ≡ missing_before items count + gap_in (slice_index_or items count Missing)
unfolding missing_before
one_more items count = rw add-one refl

pub gap_at_most : (sample : Sample) → gap_in sample ≤ 1
gap_at_most Missing = omega arith
gap_at_most (Value n) = omega arith

-- no more are missing than there are
pub at_most : (items : List Sample) (count : ℕ) → missing_before items count ≤ count
at_most items zero = omega (arith, none_before items)
at_most items (suc count) =
    let one : count + 1 ≡ suc count = omega arith in
    subst (λ k. missing_before items k ≤ k) one
    (omega (arith, one_more items count, gap_at_most (slice_index_or items count Missing), at_most items count))

-- samples behind change nothing before them
pub before_stays : (xs ys : List Sample) (count : ℕ) → count ≤ length xs
    → missing_before (xs ++ ys) count ≡ missing_before xs count
before_stays xs ys zero le = none_before (xs ++ ys) ∙ sym (none_before xs)
before_stays xs ys (suc count) le =
    let one : count + 1 ≡ suc count = omega arith in
    subst (λ k. missing_before (xs ++ ys) k ≡ missing_before xs k) one
    (rw (
      one_more (xs ++ ys) count,
      one_more xs count,
      before_stays xs ys count (omega (arith, le)),
      get_or-append xs ys Missing count (omega (arith, le)),
    ) refl)

pub with_last : (xs : List Sample) (y : Sample)
    → missing_before (xs ++ y ∷ []) (length xs + 1) ≡ missing_before xs (length xs) + gap_in y
with_last xs y =
    rw (
      one_more (xs ++ y ∷ []) (length xs),
      before_stays xs (y ∷ []) (length xs) (omega arith),
      get_or-append_seam xs y [] Missing,
    ) refl

-- ---- a window is free where its end has the count of its start

rises : (items : List Sample) (i m : ℕ) → missing_before items i ≤ missing_before items (i + m)
rises items i zero = let same : i + 0 ≡ i = omega arith in rw same (omega arith)
rises items i (suc m) =
    let same : i + m + 1 ≡ i + suc m = omega arith in
    subst (λ k. missing_before items i ≤ missing_before items k) same
    (omega (arith, one_more items (i + m), rises items i m))

free_more : (a b : ℕ) (f : Bool) (sample : Sample) → a ≤ b → (a == b) ≡ f
    → (a == b + gap_in sample) ≡ (f && is_some (reading_of sample))
free_more a b f Missing le e = grind (arith, nat_tests)
free_more a b f (Value n) le e = grind (arith, nat_tests)

pub free_by_counts : (items : List Sample) (i m : ℕ)
    → (missing_before items i == missing_before items (i + m)) ≡ is_free m (series_of items) i
free_by_counts items i zero =
    let same : i + 0 ≡ i = omega arith in
    rw (same, grows_by_one_sample.free_at_first (series_of items) i) (equal (missing_before items i))
  where
    equal : (n : ℕ) → (n == n) ≡ true
    equal n = grind (arith, nat_tests)
free_by_counts items i (suc m) =
    let one : m + 1 ≡ suc m = omega arith in
    let same : i + m + 1 ≡ i + (m + 1) = omega arith in
    subst (λ k. (missing_before items i == missing_before items (i + k)) ≡ is_free k (series_of items) i) one
    (subst (λ k. (missing_before items i == missing_before items k) ≡ is_free (m + 1) (series_of items) i) same
    (ap (λ k. missing_before items i == k) (one_more items (i + m))
    ∙ free_more (missing_before items i) (missing_before items (i + m)) (is_free m (series_of items) i)
    (slice_index_or items (i + m) Missing) (rises items i m) (free_by_counts items i m)
    ∙ ap (λ x. is_free m (series_of items) i && is_some x) (sym (series_are_of_samples.numbers items (i + m)))
    ∙ sym (grows_by_one_sample.one_more_free m (series_of items) i)))

-- ---- one sample more

numbers_with : (items : List Sample) (numbers ys : List ℤ) (sample : Sample) (number : ℤ)
    → numbers ≡ numbers_in items → number ≡ number_in sample → ys ≡ numbers ++ number ∷ []
    → ys ≡ numbers_in (items ++ sample ∷ [])
numbers_with items numbers ys sample number e f g =
    g ∙ ap (λ front. front ++ number ∷ []) e ∙ ap (λ x. numbers_in items ++ x ∷ []) f
    ∙ sym (map-append number_in items (sample ∷ []))

counts_with : (items : List Sample) (missing : List ℕ) (sample : Sample) (last : ℕ) → length missing ≡ length items
    → ((k : ℕ) → k < length items → get_or missing k 0 ≡ missing_before items (k + 1))
    → last ≡ missing_before items (length items) + gap_in sample
    → (k : ℕ) → k < length items + 1
    → get_or (missing ++ last ∷ []) k 0 ≡ missing_before (items ++ sample ∷ []) (k + 1)
counts_with items missing sample last same before e =
    below_more (λ p. get_or (missing ++ last ∷ []) p 0 ≡ missing_before (items ++ sample ∷ []) (p + 1)) (length items)
    (λ p less. get_or-append missing (last ∷ []) 0 p (omega (arith, less, same))
    ∙ before p less ∙ sym (before_stays items (sample ∷ []) (p + 1) (omega (arith, less))))
    (ap (λ p. get_or (missing ++ last ∷ []) p 0) (sym same) ∙ get_or-append_seam missing last [] 0
    ∙ e ∙ sym (with_last items sample))

pub stored_more : (items : List Sample) (numbers : List ℤ) (missing : List ℕ) (xs : List Sample) (ys : List ℤ)
    (zs : List ℕ) (sample : Sample) (number : ℤ) (last : ℕ) → IsStored items numbers missing
    → length items < max_samples → number ≡ number_in sample
    → last ≡ missing_before items (length items) + gap_in sample → xs ≡ items ++ sample ∷ []
    → ys ≡ numbers ++ number ∷ [] → zs ≡ missing ++ last ∷ [] → IsStored xs ys zs
stored_more items numbers missing xs ys zs sample number last h lt n e f g i =
    let long : length xs ≡ length items + 1 = ap length f ∙ simp length-append in
    record {
      within = omega (arith, long);
      numbers_are = numbers_with items numbers ys sample number h.numbers_are n g ∙ ap numbers_in (sym f);
      counted = ap length i ∙ simp length-append (omega (arith, h.counted, long));
      counts = λ k below.
          ap (λ list. get_or list k 0) i
          ∙ counts_with items missing sample last h.counted h.counts e k (omega (arith, below, long))
          ∙ ap (λ list. missing_before list (k + 1)) (sym f);
    }
