-- A window of a series as a pattern, and what an entry says of a window.
use Rattle.std.proofs.Common.{◌≡◌, ℕ, zero, suc, ◌+◌, ◌-◌, ◌*◌, ◌<◌, ◌≤◌, Bool, true, false, List}
use Rattle.std.proofs.Common.{length}
use Rattle.std.proofs.Common.{get_or, take, drop, map, refl, sym, ap, ◌∙◌, subst, ⊎_elim, arith}
use Rattle.std.specs.Prelude.{Option, Some, None, Contains, ℤ, ◌-ℤ◌, unsigned_abs, ◌&&◌, IsSome}
use Rattle.std.specs.Prelude.{slice_get}
use Rattle.std.specs.List.{range_with_len}
use Rattle.std.specs.Option.{option_map, is_some, unwrap_or}
use Rattle.std.specs.Prelude.{Result, Ok, Err, IfOk, MatchResult}
use Rattle.std.specs.Result.{IsErrAnd}
use Rattle.std.proofs.lemmas.Bool.{false≢true, cases_lt}
use Rattle.std.proofs.lemmas.Int.{ints}
use Rattle.std.proofs.lemmas.List.{length-map, length-take, length-drop, get_or-take, get_or-drop, get_or_past}
use Rattle.std.proofs.lemmas.Option.{slice_get-map, unwrap_or-slice_get}
use Rattle.mp_nums.specs.declared.nearest.Near.{Near}
use Rattle.mp_nums.specs.declared.nearest.Sq.{Sq}
use Rattle.mp_nums.specs.declared.samples.Sample.{Sample}
use Rattle.mp_nums.specs.declared.samples.Sample.TheVariants.{Missing}
use Rattle.mp_defs.specs.Series.{Series, reading_of, series_of, present, number_at}
use Rattle.mp_defs.specs.Window.{is_free, is_allowed}
use Rattle.mp_defs.specs.Laws.{DistanceIsOfFreeWindows, EntriesAreNearest, IsNearest, IsNearestWindow}
use Rattle.mp_defs.specs.Distance.{squared_difference, square_between, plus, distance}
use Rattle.mp_defs.specs.Profile.{windows_of}
use Rattle.mp_results.specs.Slide.{square, distances_of}
use Rattle.mp_results.specs.Motifs.{HasEntryDistance}

-- ---- samples of a window

reading_of_unwrapped : (x : Option Sample) → present (option_map reading_of x) ≡ reading_of (unwrap_or x Missing)
reading_of_unwrapped None = refl
reading_of_unwrapped (Some x) = refl

number_at_place : (samples : List Sample) (n : ℕ) → number_at (series_of samples) n ≡ reading_of
    (get_or samples n Missing)
number_at_place samples n =
    rw (slice_get-map reading_of samples n, ← unwrap_or-slice_get samples n Missing)
    (reading_of_unwrapped (slice_get samples n))

window_number : (samples : List Sample) (m i k : ℕ) → k < m
    → number_at (series_of (take m (drop i samples))) k ≡ number_at (series_of samples) (i + k)
window_number samples m i k lt =
    number_at_place (take m (drop i samples)) k
    ∙ ap reading_of (get_or-take m (drop i samples) k Missing lt ∙ get_or-drop i samples k Missing)
    ∙ sym (number_at_place samples (i + k))

distance_more : (m : ℕ) (a : Series) (i : ℕ) (b : Series) (j : ℕ)
    → distance (suc m) a i b j ≡ plus (distance m a i b j) (square_between (number_at a (i + m)) (number_at b (j + m)))
unfolding distance
distance_more m a i b j = refl

distance_none : (a : Series) (i : ℕ) (b : Series) (j : ℕ) → distance 0 a i b j ≡ Some 0
unfolding distance
distance_none a i b j = refl

-- a window as a pattern has the distances that it has in its series
pattern_distance : (samples : List Sample) (m i : ℕ) (b : Series) (j n : ℕ) → n ≤ m
    → distance n (series_of (take m (drop i samples))) 0 b j ≡ distance n (series_of samples) i b j
pattern_distance samples m i b j zero le = distance_none (series_of (take m (drop i samples))) 0 b j
    ∙ sym (distance_none (series_of samples) i b j)
pattern_distance samples m i b j (suc n) le =
    let place : 0 + n ≡ n = omega arith in
    distance_more n (series_of (take m (drop i samples))) 0 b j
    ∙ ap (λ d. plus d (square_between (number_at (series_of (take m (drop i samples))) (0 + n))
    (number_at b (j + n)))) (pattern_distance samples m i b j n (omega arith))
    ∙ ap (λ x. plus (distance n (series_of samples) i b j) (square_between x (number_at b (j + n))))
    (ap (number_at (series_of (take m (drop i samples)))) place ∙ window_number samples m i n (omega arith))
    ∙ sym (distance_more n (series_of samples) i b j)

same_map : {X : Type 0} (f g : ℕ → X) → ((i : ℕ) → f i ≡ g i) → (xs : List ℕ) → map f xs ≡ map g xs
same_map f g h xs = λ k. map (λ i. h i k) xs

pub window_length : (samples : List Sample) (m i : ℕ) → i + m ≤ length samples → length (take m (drop i samples)) ≡ m
window_length samples m i within = simp (length-take, length-drop) (omega arith)

pub distances_of_window : (samples : List Sample) (m i : ℕ) (b : Series) → i + m ≤ length samples
    → distances_of (series_of (take m (drop i samples))) b ≡ map
    (λ j. option_map square (distance m (series_of samples) i b j)) (range_with_len 0 (windows_of m b))
distances_of_window samples m i b within =
    let long = length-map (take m (drop i samples)) reading_of ∙ window_length samples m i within in
    ap (λ n. map (λ j. option_map square (distance n (series_of (take m (drop i samples))) 0 b j))
    (range_with_len 0 (windows_of n b))) long
    ∙ same_map _ _ (λ j. ap (option_map square) (pattern_distance samples m i b j m (omega arith)))
    (range_with_len 0 (windows_of m b))

-- ---- free windows

free_more : (m : ℕ) (a : Series) (i : ℕ) → is_free (suc m) a i ≡ (is_free m a i && is_some (number_at a (i + m)))
unfolding is_free
free_more m a i = refl

first_so : (s t : Bool) → (s && t) ≡ true → s ≡ true
first_so true t e = refl
first_so false t e = e

second_so : (s t : Bool) → (s && t) ≡ true → t ≡ true
second_so true t e = e
second_so false t e = absurd (false≢true e)

-- each sample of a free window is there
pub free_there : (m : ℕ) (a : Series) (i k : ℕ) → is_free m a i ≡ true → k < m → is_some (number_at a (i + k)) ≡ true
free_there zero a i k free lt = absurd (omega (arith, lt))
free_there (suc m) a i k free lt =
    let both = sym (free_more m a i) ∙ free in
    ⊎_elim (λ less. free_there m a i k (first_so (is_free m a i) (is_some (number_at a (i + m))) both) less)
    (λ rest.
    let last : k ≡ m = omega arith in
    subst (λ n. is_some (number_at a (i + n)) ≡ true) (sym last)
    (second_so (is_free m a i) (is_some (number_at a (i + m))) both))
    (cases_lt k m)

-- no sample of a free window is missing
pub none_missing : (samples : List Sample) (m i : ℕ) → i + m ≤ length samples → is_free m (series_of samples) i ≡ true
    → Contains (take m (drop i samples)) Missing → ⊥
none_missing samples m i within free (k, lt, e) =
    let short : k < m = omega (arith, lt, window_length samples m i within) in
    let here : number_at (series_of samples) (i + k) ≡ None =
    number_at_place samples (i + k)
    ∙ ap reading_of (sym (get_or-take m (drop i samples) k Missing short ∙ get_or-drop i samples k Missing) ∙ e) in
    false≢true (ap is_some (sym here) ∙ free_there m (series_of samples) i k free short)

number_past : (samples : List Sample) (n : ℕ) → length samples ≤ n → number_at (series_of samples) n ≡ None
number_past samples n past = number_at_place samples n ∙ ap reading_of (get_or_past samples n Missing past)

-- a free window lies in the series
pub free_within : (samples : List Sample) (m i : ℕ) → 0 < m → is_free m (series_of samples) i ≡ true
    → i + m ≤ length samples
free_within samples m i some free =
    ⊎_elim (λ past.
    let last = free_there m (series_of samples) i (m - 1) free (omega arith) in
    let there : length samples ≤ i + (m - 1) = omega arith in
    absurd (false≢true (ap is_some (sym (number_past samples (i + (m - 1)) there)) ∙ last)))
    (λ within. within) (cases_lt (length samples) (i + m))

-- ---- a window and itself

square_of_one : (x : Option ℤ) (d : ℕ) → square_between x x ≡ Some d → d ≡ 0
square_of_one None d e = cc
square_of_one (Some x) d e =
    let none : unsigned_abs (x -ℤ x) ≡ 0 = omega (arith, ints) in
    let same : squared_difference x x ≡ d = cc in
    sym same ∙ (λ k. none k * none k)

sum_of_none : (x y : Option ℕ) (d : ℕ) → plus x y ≡ Some d → ((e : ℕ) → x ≡ Some e → e ≡ 0)
    → ((e : ℕ) → y ≡ Some e → e ≡ 0) → d ≡ 0
sum_of_none None y d e f g = cc
sum_of_none (Some a) None d e f g = cc
sum_of_none (Some a) (Some b) d e f g =
    let sum : a + b ≡ d = cc in
    omega (arith, f a refl, g b refl)

pub itself_is_none : (m : ℕ) (a : Series) (i d : ℕ) → distance m a i a i ≡ Some d → d ≡ 0
itself_is_none zero a i d e = let same : 0 ≡ d = some_same (sym (distance_none a i a i) ∙ e) in sym same
  where
    some_same : {x y : ℕ} → Some x ≡ Some y → x ≡ y
    some_same e = cc
itself_is_none (suc m) a i d e =
    sum_of_none (distance m a i a i) (square_between (number_at a (i + m)) (number_at a (i + m))) d
    (sym (distance_more m a i a i) ∙ e)
    (λ x h. itself_is_none m a i x h) (λ x h. square_of_one (number_at a (i + m)) x h)

-- ---- refusals

-- what holds of a value holds of it where only the refusal is told in other words
pub ok_mapped : {T E F : Type 0} (P : T → Type 0) (Q : E → F → Type 0) (r : Result T E) (s : Result T F)
    → MatchResult r (λ x. s ≡ Ok x) (λ e. IsErrAnd s (Q e)) → IfOk r P → IfOk s P
ok_mapped P Q (Ok x) s h p = subst (λ o. IfOk o P) (sym h) p
ok_mapped P Q (Err e) (Ok y) h p = absurd h
ok_mapped P Q (Err e) (Err f) h p = tt

-- ---- the entry of a window

distance_of_free : (m : ℕ) (a : Series) (i : ℕ) (d : Option ℕ) → d ≡ distance m a i a i → IsSome d
    → distance m a i a i ≡ Some 0
distance_of_free m a i None e h = absurd (false≢true h)
distance_of_free m a i (Some d) e h = sym e ∙ ap Some (itself_is_none m a i d (sym e))

-- what holds of a window that has an entry
pub record IsCandidate (m : ℕ) (a : Series) (candidate : Near) : Type 0 where
  pub free : is_free m a candidate.index ≡ true
  pub itself : distance m a candidate.index a candidate.index ≡ Some 0
  pub nearest : (j d : ℕ) → j < windows_of m a → is_allowed m candidate.index j ≡ true
      → distance m a candidate.index a j ≡ Some d → candidate.dist.0 ≤ d

pub candidate_by_laws : (m : ℕ) (a : Series) (candidate : Near) → DistanceIsOfFreeWindows → EntriesAreNearest
    → HasEntryDistance m a candidate → IsCandidate m a candidate
candidate_by_laws m a candidate free_law nearest_law (near, e, f) =
    let nearest : IsNearestWindow m (is_allowed m candidate.index) a candidate.index a near =
    subst (IsNearest m (is_allowed m candidate.index) a candidate.index a) e
    (nearest_law.all (is_allowed m) m a candidate.index) in
    let both = (free_law m a candidate.index a near.index).0 (ap is_some nearest.distance_is) in
    record {
      free = both.0;
      itself = distance_of_free m a candidate.index (distance m a candidate.index a candidate.index) refl
          ((free_law m a candidate.index a candidate.index).1 (both.0, both.0));
      nearest = λ j d lt may at.
          let same = ap (λ (s : Sq). s.0) f in
          ⊎_elim (λ less. omega arith) (λ tied. let level = tied.0 in omega arith) (nearest.none_nearer j d lt may at);
    }
