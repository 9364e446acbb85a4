-- Samples in plain numbers, and how many are missing.
use Rattle.std.proofs.Common.{◌≡◌, ℕ, ◌+◌, ◌<◌, ◌≤◌, List, [], ◌∷◌, ◌++◌, length, get_or, refl, sym, ap, ◌∙◌}
use Rattle.std.proofs.Common.{arith, add-one}
use Rattle.std.specs.Prelude.{Option, Some, None, slice_get, unwrap_or, ℤ}
use Rattle.std.specs.Option.{option_map}
use Rattle.std.proofs.lemmas.List.{get_or_push, get_or_append_left, length_push, length-map}
use Rattle.std.proofs.Common.{below_more}
use Rattle.std.proofs.lemmas.Option.{slice_get-map, unwrap_or-slice_get}
use Rattle.mp_nums.specs.declared.samples.Sample.{Sample}
use Rattle.mp_nums.specs.declared.samples.Sample.TheVariants.{Missing}
use Rattle.mp_defs.specs.Series.{Series, reading_of, series_of, present, number_at}
use Rattle.mp_slide.specs.Plain.{gap, gaps_before, AreGaps}

reading_of_unwrapped : (x : Option Sample) → present (option_map reading_of x) ≡ reading_of (unwrap_or x Missing)
reading_of_unwrapped None = refl
reading_of_unwrapped (Some x) = refl

-- the number at a place is what the sample there stands for, and none past the end
pub number_at_place : (samples : List Sample) (n : ℕ) → number_at (series_of samples) n ≡ reading_of
    (get_or samples n Missing)
number_at_place samples n =
    rw (slice_get-map reading_of samples n, ← unwrap_or-slice_get samples n Missing)
    (reading_of_unwrapped (slice_get samples n))

pub gaps_more : (a : Series) (i : ℕ) → gaps_before a (i + 1) ≡ gaps_before a i + gap (number_at a i)
unfolding gaps_before
gaps_more a i = rw add-one refl

-- the counts before the places up to i
pub record AreCounted (samples : List Sample) (i count : ℕ) (gaps : List ℕ) : Type 0 where
  pub places : length gaps ≡ i
  pub counts : (k : ℕ) → k < i → get_or gaps k 0 ≡ gaps_before (series_of samples) k
  pub last : count ≡ gaps_before (series_of samples) i
  pub few : count ≤ i

pub counted_none : (samples : List Sample) (gaps : List ℕ) → gaps ≡ [] → AreCounted samples 0 0 gaps
unfolding gaps_before
counted_none samples gaps e = record {
  places = ap length e;
  counts = λ k lt. absurd (omega (arith, lt));
  last = refl;
  few = omega arith;
}

-- the count before a place is put behind the earlier ones
pub counts_more : (samples : List Sample) (i count : ℕ) (gaps after : List ℕ) → after ≡ gaps ++ count ∷ []
    → AreCounted samples i count gaps → (k : ℕ) → k < i + 1 → get_or after k 0 ≡ gaps_before (series_of samples) k
counts_more samples i count gaps after e h k lt = below_more
    (λ n. get_or after n 0 ≡ gaps_before (series_of samples) n) i
    (λ n less. let short : n < length gaps = omega (arith, h.places) in ap (λ xs. get_or xs n 0) e
    ∙ get_or_append_left gaps (count ∷ []) 0 n short ∙ h.counts n less)
    (ap (λ xs. get_or xs i 0) e ∙ get_or_push gaps count 0 i h.places ∙ h.last) k lt

gap_at_most : (x : Option ℤ) → gap x ≤ 1
gap_at_most None = omega arith
gap_at_most (Some x) = omega arith

pub counted_more : (samples : List Sample) (i count one next : ℕ) (gaps after : List ℕ) → after ≡ gaps ++ count ∷ []
    → one ≡ gap (reading_of (get_or samples i Missing)) → next ≡ count + one → AreCounted samples i count gaps
    → AreCounted samples (i + 1) next after
counted_more samples i count one next gaps after e f g h =
    let here : one ≡ gap (number_at (series_of samples) i) = f ∙ ap gap (sym (number_at_place samples i)) in
    let small = gap_at_most (number_at (series_of samples) i) in
    let few = h.few in
    record {
      places = ap length e ∙ length_push gaps count ∙ ap (λ n. n + 1) h.places;
      counts = counts_more samples i count gaps after e h;
      last = g ∙ ap (λ n. n + one) h.last ∙ ap (λ n. gaps_before (series_of samples) i + n) here
          ∙ sym (gaps_more (series_of samples) i);
      few = omega arith;
    }

pub counted_all : (samples : List Sample) (count : ℕ) (gaps after : List ℕ) → after ≡ gaps ++ count ∷ []
    → AreCounted samples (length samples) count gaps → AreGaps (series_of samples) after
counted_all samples count gaps after e h =
    let long : length after ≡ length (series_of samples) + 1 = ap length e ∙ length_push gaps count
    ∙ ap (λ n. n + 1) (h.places ∙ sym (length-map samples reading_of)) in
    record {
      places = long;
      counts = λ i lt. counts_more samples (length samples) count gaps after e h i
          (omega (arith, length-map samples reading_of, long, lt));
    }
