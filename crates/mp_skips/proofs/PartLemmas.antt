-- The lists of a series from a group of eight places on, and ranges of two series.
use Rattle.std.proofs.Common.{◌≡◌, ℕ, zero, suc, ◌+◌, ◌-◌, ◌*◌, ◌<◌, ◌≤◌, List, length, take, drop, Bool, false}
use Rattle.std.proofs.Common.{refl, sym, ap, ◌∙◌, arith, subst}
use Rattle.std.specs.Prelude.{ℤ}
use Rattle.std.proofs.lemmas.Int.{ints}
use Rattle.std.proofs.lemmas.List.{get_or-drop, take_rest, length-drop}
use Rattle.mp_nums.specs.declared.samples.Sample.{Sample}
use Rattle.mp_nums.specs.declared.samples.Sample.TheVariants.{Missing}
use Rattle.mp_defs.specs.Series.{series_of, number_at, reading_of}
use Rattle.mp_defs.specs.SeriesLaws.{series_are_of_samples}
use Rattle.mp_defs.specs.DistanceLaws.{grows_by_one_sample}
use Rattle.mp_defs.specs.Window.{is_free}
use Rattle.mp_sums.specs.declared.ranges.Range.{Range}
use Rattle.mp_sums.specs.Ranges.{Reaches, AreSamplesWithin}
use Rattle.mp_scans.specs.Free.{AreFree}
use Rattle.mp_skips.specs.Totals.{sum_from, level, raised}
use Rattle.mp_skips.specs.Bounds.{IsFloor}
use Rattle.mp_skips.specs.Sums.{number_in, IsLow, AreNumbers, AreFloors, IsGroup, AreGroups}
use Rattle.mp_skips.specs.Lists.{AreLists}
use Rattle.mp_skips.specs.declared.sums.TheConstants.{MOST_GRAINS}
use Rattle.mp_skips.proofs.TotalLemmas.{total_same}

-- ---- samples

number_from : (k : ℕ) (samples : List Sample) (t : ℕ)
    → number_at (series_of (drop k samples)) t ≡ number_at (series_of samples) (k + t)
number_from k samples t =
    series_are_of_samples.numbers (drop k samples) t
    ∙ ap reading_of (get_or-drop k samples t Missing)
    ∙ sym (series_are_of_samples.numbers samples (k + t))

free_from : (k : ℕ) (m : ℕ) (samples : List Sample) (i : ℕ)
    → is_free m (series_of (drop k samples)) i ≡ is_free m (series_of samples) (k + i)
free_from k zero samples i =
    grows_by_one_sample.free_at_first (series_of (drop k samples)) i
    ∙ sym (grows_by_one_sample.free_at_first (series_of samples) (k + i))
free_from k (suc m) samples i =
    let one : m + 1 ≡ suc m = omega arith in
    let place : k + (i + m) ≡ k + i + m = omega arith in
    subst (λ n. is_free n (series_of (drop k samples)) i ≡ is_free n (series_of samples) (k + i)) one
    (rw (
      grows_by_one_sample.one_more_free m (series_of (drop k samples)) i,
      grows_by_one_sample.one_more_free m (series_of samples) (k + i),
      free_from k m samples i,
      number_from k samples (i + m),
      place,
    ) refl)

-- ---- sums

level_from : (low : ℤ) (k : ℕ) (samples : List Sample) (t : ℕ)
    → level low (series_of (drop k samples)) t ≡ level low (series_of samples) (k + t)
level_from low k samples t = ap (raised low) (number_from k samples t)

sum_behind : (low : ℤ) (k : ℕ) (samples : List Sample) (s p : ℕ)
    → sum_from (level low (series_of (drop k samples))) s p ≡ sum_from (level low (series_of samples)) s (k + p)
sum_behind low k samples s p =
    total_same (λ u. level low (series_of (drop k samples)) (p + u)) (λ u. level low (series_of samples) (k + p + u)) s
    (λ u lt. level_from low k samples (p + u) ∙ ap (level low (series_of samples)) (omega arith))

group_from : (low : ℤ) (g : ℕ) (samples : List Sample) (s grain h least greatest : ℕ)
    → IsGroup low s grain (series_of samples) (g + h) least greatest
    → IsGroup low s grain (series_of (drop (8 * g) samples)) h least greatest
group_from low g samples s grain h least greatest is = record {
  lower = λ u lt some. subst (λ z. least * grain + grain ≤ z + 1) (same u) (is.lower u lt some);
  upper = λ u lt. subst (λ z. z ≤ greatest * grain) (same u) (is.upper u lt);
  order = is.order;
}
  where
    same : (u : ℕ) → sum_from (level low (series_of samples)) s (8 * (g + h) + u)
        ≡ sum_from (level low (series_of (drop (8 * g) samples))) s (8 * h + u)
    same u =
        ap (sum_from (level low (series_of samples)) s) (omega arith)
        ∙ sym (sum_behind low (8 * g) samples s (8 * h + u))

-- ---- lists

at_from : (k : ℕ) (numbers : List ℕ) (p : ℕ) → number_in (drop k numbers) p ≡ number_in numbers (k + p)
at_from k numbers p = get_or-drop k numbers p 0

module _ (low : ℤ) (range s step grain m g : ℕ) (samples : List Sample)
    (levels floors least greatest : List ℕ) (free : List Bool) where
  module _ (all : AreLists low range s step grain m samples levels floors least greatest free)
      (some : 8 * g ≤ length samples) (windows : 8 * g ≤ length free) where
    low_is : IsLow low (series_of (drop (8 * g) samples))
    low_is = record {
      each = λ t x is. all.low_is.each (8 * g + t) x (sym (number_from (8 * g) samples t) ∙ is);
    }

    numbers : AreNumbers low step (series_of (drop (8 * g) samples)) (drop (8 * g) levels)
    numbers = record {
      each = λ p. subst (λ z. IsFloor step z (number_in (drop (8 * g) levels) p))
          (sym (level_from low (8 * g) samples p))
          (subst (IsFloor step (level low (series_of samples) (8 * g + p))) (sym (at_from (8 * g) levels p))
          (all.are_levels.each (8 * g + p)));
    }

    floors_are : AreFloors low s grain (series_of (drop (8 * g) samples)) (drop (8 * g) floors)
        (length (drop (8 * g) floors))
    floors_are = record {
      each = λ p lt. subst (λ z. IsFloor grain z (number_in (drop (8 * g) floors) p))
          (sym (sum_behind low (8 * g) samples s p))
          (subst (IsFloor grain (sum_from (level low (series_of samples)) s (8 * g + p)))
          (sym (at_from (8 * g) floors p))
          (all.are_floors.each (8 * g + p) (omega (arith, lt, length-drop (8 * g) floors))));
    }

    groups : AreGroups low s grain (series_of (drop (8 * g) samples)) (drop g least) (drop g greatest)
        (length (drop g least))
    groups = record {
      each = λ h lt. group_from low g samples s grain h (number_in (drop g least) h) (number_in (drop g greatest) h)
          (subst (λ z. IsGroup low s grain (series_of samples) (g + h) z (number_in (drop g greatest) h))
          (sym (at_from g least h))
          (subst (IsGroup low s grain (series_of samples) (g + h) (number_in least (g + h)))
          (sym (at_from g greatest h))
          (all.are_groups.each (g + h) (omega (arith, lt, length-drop g least)))));
    }

    marks : AreFree m (series_of (drop (8 * g) samples)) 0 (drop (8 * g) free)
    marks = record {
      each = λ k lt.
          get_or-drop (8 * g) free k false
          ∙ all.marks.each (8 * g + k) (omega (arith, lt, length-drop (8 * g) free))
          ∙ ap (is_free m (series_of samples)) (omega arith)
          ∙ sym (free_from (8 * g) m samples (0 + k));
    }

    lists_dropped : AreLists low range s step grain m (drop (8 * g) samples) (drop (8 * g) levels)
        (drop (8 * g) floors) (drop g least) (drop g greatest) (drop (8 * g) free)
    lists_dropped = record {
      low_is = low_is;
      are_levels = numbers;
      more_levels = omega (arith, all.more_levels, some, length-drop (8 * g) samples, length-drop (8 * g) levels);
      few_levels = omega (arith, all.few_levels, length-drop (8 * g) levels);
      small_levels = λ p. subst (λ z. z < MOST_GRAINS) (sym (at_from (8 * g) levels p)) (all.small_levels (8 * g + p));
      levels_within = λ p. subst (λ z. z * step ≤ range) (sym (at_from (8 * g) levels p))
          (all.levels_within (8 * g + p));
      are_floors = floors_are;
      all_floors = omega (arith, all.all_floors, length-drop (8 * g) samples, length-drop (8 * g) floors);
      small_floors = λ p. subst (λ z. z ≤ MOST_GRAINS) (sym (at_from (8 * g) floors p)) (all.small_floors (8 * g + p));
      are_groups = groups;
      all_groups = omega (arith, all.all_groups, length-drop (8 * g) samples, length-drop g least);
      same_groups = length-drop g greatest ∙ ap (λ n. n - g) all.same_groups ∙ sym (length-drop g least);
      small_groups = λ h. subst (λ z. z ≤ MOST_GRAINS) (sym (at_from g greatest h)) (all.small_groups (g + h));
      marks = marks;
      all_windows = omega (
        arith,
        all.all_windows,
        length-drop (8 * g) samples,
        length-drop (8 * g) free,
        series_are_of_samples.windows_are m samples,
        series_are_of_samples.windows_are m (drop (8 * g) samples),
      );
    }

    -- as slices to their ends
    pub lists_from : AreLists low range s step grain m (take (length samples - 8 * g) (drop (8 * g) samples))
        (take (length levels - 8 * g) (drop (8 * g) levels)) (take (length floors - 8 * g) (drop (8 * g) floors))
        (take (length least - g) (drop g least)) (take (length greatest - g) (drop g greatest))
        (take (length free - 8 * g) (drop (8 * g) free))
    lists_from =
        rw (
          take_rest samples (8 * g),
          take_rest levels (8 * g),
          take_rest floors (8 * g),
          take_rest least g,
          take_rest greatest g,
          take_rest free (8 * g),
        ) lists_dropped

-- ---- ranges

-- a wider range has the same samples
pub within_wider : (wide narrow : Range) (samples : List Sample) → Reaches wide narrow
    → AreSamplesWithin narrow samples → AreSamplesWithin wide samples
within_wider wide narrow samples reach within =
    λ k lt. let here = within k lt in
    (omega (arith, ints, here.0, reach.0), omega (arith, ints, here.1, reach.1))
