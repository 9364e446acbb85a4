-- What is kept of the windows of a series that has one sample more.
use Rattle.std.proofs.Common.{◌*◌, ◌^◌}
use Rattle.std.proofs.Common.{◌≡◌, ℕ, zero, suc, ◌+◌, ◌-◌, ◌<◌, ◌≤◌, inl, inr, List, [], ◌∷◌, ◌++◌, length, get_or}
use Rattle.std.proofs.Common.{take}
use Rattle.std.proofs.Common.{Bool, true, false, refl, sym, ap, ◌∙◌, arith, subst}
use Rattle.std.specs.Prelude.{Option, Some, None, ℤ, pos, ◌-ℤ◌, ◌≤ℤ◌, unsigned_abs, nat_eq, nat_lt, ◌&&◌, min}
use Rattle.std.specs.List.{range_with_len}
use Rattle.std.proofs.Math.ListN.{get_or-append}
use Rattle.std.proofs.Math.Seq.{get_or-append_seam, take-length}
use Rattle.std.proofs.lemmas.Bool.{cases_lt}
use Rattle.std.proofs.lemmas.List.{ext_get_or, length-append, length-map, length-set, map-append, take_more}
use Rattle.std.proofs.lemmas.List.{get_or-set_same, get_or-set_other, length-take-le}
use Rattle.std.proofs.lemmas.Bool.Decides.{nat_tests}
use Rattle.std.proofs.lemmas.Int.{ints}
use Rattle.std.proofs.lemmas.Simd.{zip2-map}
use Rattle.mp_nums.specs.declared.nearest.Near.{Near}
use Rattle.mp_nums.specs.declared.samples.Sample.{Sample}
use Rattle.mp_nums.specs.declared.samples.Sample.TheVariants.{Missing, Value}
use Rattle.mp_nums.specs.Near.{nearer_of}
use Rattle.mp_defs.specs.Limits.{max_window}
use Rattle.mp_defs.specs.Series.{Series, reading_of, series_of}
use Rattle.mp_defs.specs.SeriesLaws.{series_are_of_samples}
use Rattle.mp_defs.specs.Window.{is_free, excl, is_allowed, windows}
use Rattle.mp_defs.specs.Least.{near}
use Rattle.mp_defs.specs.LeastLaws.{grows_by_one_candidate}
use Rattle.mp_defs.specs.Laws.{IsNearest}
use Rattle.mp_defs.specs.Profile.{column, entry, left_entry, right_entry, windows_of, matrix_profile}
use Rattle.mp_defs.specs.ColumnLaws.{columns_have_places}
use Rattle.mp_defs.specs.NearestLaws.{entries_are_nearest, entries_are_of_both_sides, zone_is_mutual}
use Rattle.mp_partial.specs.Values.{Column, merged_column}
use Rattle.mp_stream.specs.Blocks.{AreKnown, StayKnown, numbered, renumbered}
use Rattle.mp_series.specs.Samples.{number_in, numbers_in}
use Rattle.mp_stream.specs.Limits.{limit_by, StartsAtMost, AllStartAtMost, AreLimits}
use Rattle.mp_stream.specs.Rows.{HavePlaces, IsBefore, IsTaken, row_candidate, sum_at, square_at, offered_before}
use Rattle.mp_stream.specs.Rows.{with_best}
use Rattle.mp_stream.specs.Rows.{IsRow, distance_from, last_place}
use Rattle.mp_stream.specs.declared.entries.Entries.{Entries}
use Rattle.mp_sums.specs.Sums.{filled}
use Rattle.mp_stream.specs.Appended.{with_one, AreNumbers}
use Rattle.mp_sums.specs.Ranges.{AreWithin, IsInRange, Reaches, SumsFit}
use Rattle.mp_sums.specs.RangeLaws.{squares_in_range}
use Rattle.std.proofs.Math.Nat.{mul-le-mul_left}
use Rattle.mp_stream.specs.Offers.{AreOffered}
use Rattle.mp_stream.specs.Streams.{HaveRows, HasRowOf, IsGrown, IsKnown, IsOf, IsOffered, IsWaiting, Streamed}
use Rattle.mp_stream.specs.Streams.{without_last}
use Rattle.mp_stream.specs.declared.profiles.GrowingProfile.{GrowingProfile}
use Rattle.mp_sums.specs.declared.ranges.Range.{Range}
use Rattle.mp_stream.proofs.Moving.{sum_small}
use Rattle.mp_stream.proofs.SumLemmas.{sum_none, sum_more}
use Rattle.mp_stream.proofs.Steps.{front_taken, push_more}
use Rattle.mp_stream.proofs.EntryLemmas.{free_front, left_stays, left_last, left_last_none, right_entries}
use Rattle.mp_stream.proofs.EntryLemmas.{right_entries_stay, windows_more}
use Rattle.mp_stream.proofs.Taken.{renumbered_whole}

-- ---- columns

pub column_is : (f : ℕ → Option Near) (w : ℕ) (list : List (Option Near)) → length list ≡ w
    → ((i : ℕ) → i < w → get_or list i None ≡ f i) → list ≡ column f w
column_is f w list long each =
    ext_get_or None list (column f w) (long ∙ sym (columns_have_places.count f w))
    (λ i lt. let below : i < w = omega (arith, lt, long) in
    each i below ∙ sym (columns_have_places.at_place f w i below))

-- the entries, from the left and the right ones
pub all_entries : (m : ℕ) (a : Series) (all left right : List (Option Near)) → all ≡ merged_column left right
    → left ≡ (matrix_profile m a).left → right ≡ (matrix_profile m a).right → all ≡ (matrix_profile m a).all
all_entries m a all left right e f g =
    let w = windows_of m a in
    let both = λ (i : ℕ). nearer_of (left_entry (is_allowed m) m a i) (right_entry (is_allowed m) m a i) in
    e ∙ ap (λ x. merged_column x right) f ∙ ap (merged_column (matrix_profile m a).left) g
    ∙ zip2-map nearer_of (left_entry (is_allowed m) m a) (right_entry (is_allowed m) m a) (range_with_len 0 w)
    ∙ column_is (entry (is_allowed m) m a) w (column both w) (columns_have_places.count both w)
    (λ i lt. columns_have_places.at_place both w i lt
    ∙ sym (entries_are_of_both_sides (is_allowed m) (zone_is_mutual.irreflexive m) m a i))

-- what is known of a profile is known of that of other samples that it became
pub known_through : (m : ℕ) (front items : List Sample) (old new : GrowingProfile) (known : Column) → IsOf m front old
    → IsOf m items new → old.entries.profile.all ≡ merged_column old.entries.profile.left old.entries.profile.right
    → new.entries.profile.all ≡ merged_column new.entries.profile.left new.entries.profile.right
    → StayKnown old.entries.profile new.entries.profile
    → AreKnown known (matrix_profile m (series_of front)).all old.entries.profile.changed
    → AreKnown known (matrix_profile m (series_of items)).all new.entries.profile.changed
known_through m front items old new known h k lesser lesser' stay was =
    let before = all_entries m (series_of front) _ _ _ lesser h.left h.right in
    let after = all_entries m (series_of items) _ _ _ lesser' k.left k.right in
    subst (λ (all : Column). AreKnown known all new.entries.profile.changed) after
    (stay known (subst (λ (all : Column). AreKnown known all old.entries.profile.changed) (sym before) was))

-- what is known of a stream is known of one that differs in room and reads alone
pub known_same : (known : Column) (old new : Streamed) → new.items ≡ old.items → new.m ≡ old.m
    → new.changed ≡ old.changed → IsKnown known old → IsKnown known new
known_same known old new items m changed h = rw (items, m, changed) h

-- ---- samples

pub split_last : (items : List Sample) → 1 ≤ length items
    → items ≡ without_last items ++ get_or items (length items - 1) Missing ∷ []
split_last items le =
    let n = length items - 1 in
    let all : n + 1 ≡ length items = omega arith in
    sym (take-length items) ∙ ap (λ k. take k items) (sym all) ∙ take_more items n Missing (omega arith)

pub front_is : (front items : List Sample) (sample : Sample) → items ≡ front ++ sample ∷ [] → without_last items ≡ front
front_is front items sample e =
    let long = length-append front (sample ∷ []) in
    ap without_last e ∙ ap (λ n. take n (front ++ sample ∷ [])) (omega (arith, long)) ∙ front_taken front (sample ∷ [])

pub without_last_long : (items : List Sample) → length (without_last items) ≡ length items - 1
without_last_long items = length-take-le (length items - 1) items (omega arith)

pub series_with : (items : List Sample) (s : Sample) → series_of (items ++ s ∷ []) ≡ with_one (series_of items)
    (reading_of s)
series_with items s = map-append reading_of items (s ∷ [])

pub number_filled : (s : Sample) → number_in s ≡ filled (reading_of s)
number_filled Missing = refl
number_filled (Value n) = refl

number_of : (items : List Sample) (i : ℕ) → get_or (numbers_in items) i (pos 0) ≡ number_in (get_or items i Missing)
number_of [] i = refl
number_of (x ∷ items) zero = refl
number_of (x ∷ items) (suc i) = number_of items i

pub numbers_are : (items : List Sample) → AreNumbers (series_of items) (numbers_in items)
numbers_are items i =
    number_of items i ∙ number_filled (get_or items i Missing)
    ∙ ap filled (sym (series_are_of_samples.numbers items i))

-- ---- sums of the windows before a last sample

square_front : (xs ys : List ℤ) (i j : ℕ) → i < length xs → j < length xs
    → square_at (xs ++ ys) i j ≡ square_at xs i j
square_front xs ys i j lt lt' =
    rw (get_or-append xs ys (pos 0) i lt, get_or-append xs ys (pos 0) j lt') refl

pub sum_front : (xs ys : List ℤ) (m i j : ℕ) → i + m ≤ length xs → j + m ≤ length xs
    → sum_at (xs ++ ys) m i j ≡ sum_at xs m i j
sum_front xs ys zero i j le le' = sum_none (xs ++ ys) i j ∙ sym (sum_none xs i j)
sum_front xs ys (suc m) i j le le' =
    let one : m + 1 ≡ suc m = omega arith in
    subst (λ n. sum_at (xs ++ ys) n i j ≡ sum_at xs n i j) one
    (rw (
      sum_more (xs ++ ys) m i j,
      sum_more xs m i j,
      sum_front xs ys m i j (omega arith) (omega arith),
      square_front xs ys (i + m) (j + m) (omega arith) (omega arith),
    ) refl)

-- the sums before the last window, in a row that has room for one more
row_before : (m : ℕ) (items : List Sample) (row grown : List ℕ) → 1 ≤ m → m ≤ length items
    → length row ≡ last_place m items → IsRow (numbers_in (without_last items)) m
    (last_place m (without_last items)) row
    → grown ≡ row ++ 0 ∷ [] → (i : ℕ) → i < last_place m items
    → get_or grown i 0 ≡ sum_at (numbers_in items) m i (last_place m items - 1)
row_before m items row grown least long places before e i lt =
    let front = without_last items in
    let last = get_or items (length items - 1) Missing in
    let whole : numbers_in items ≡ numbers_in front ++ number_in last ∷ [] =
    ap numbers_in (split_last items (omega arith)) ∙ map-append number_in front (last ∷ []) in
    let many : length (numbers_in front) ≡ length front = length-map front number_in in
    let count = without_last_long items in
    let here : last_place m front ≡ last_place m items - 1 = omega (arith, count) in
    let below : i < length row = omega (arith, lt, places) in
    ap (λ list. get_or list i 0) e ∙ get_or-append row (0 ∷ []) 0 i below ∙ before i below
    ∙ ap (sum_at (numbers_in front) m i) here
    ∙ sym (sum_front (numbers_in front) (number_in last ∷ []) m i (last_place m items - 1)
    (omega (arith, lt, count, many)) (omega (arith, lt, count, many)))
    ∙ ap (λ list. sum_at list m i (last_place m items - 1)) (sym whole)

-- a row and room for the next, with a place more
places_wait : (m : ℕ) (items : List Sample) (row grown next : List ℕ) → 1 ≤ m → m ≤ length items
    → length row ≡ windows (length (without_last items)) m → grown ≡ row ++ 0 ∷ []
    → length next ≡ windows (length (without_last items)) m + 1 → HavePlaces (last_place m items + 1) grown next
places_wait m items row grown next least long places e more =
    let count = without_last_long items in
    record {
      sums_are = ap length e ∙ length-append row (0 ∷ []) ∙ omega (arith, count, places);
      next_are = omega (arith, count, more);
    }

row_waits : (m : ℕ) (items : List Sample) (row grown next : List ℕ) → 3 ≤ m → m ≤ max_window → m ≤ length items
    → length row ≡ windows (length (without_last items)) m
    → IsRow (numbers_in (without_last items)) m (last_place m (without_last items)) row → grown ≡ row ++ 0 ∷ []
    → length next ≡ windows (length (without_last items)) m + 1
    → IsBefore m (numbers_in items) (last_place m items) grown next
row_waits m items row grown next least width long places before e more = record {
  least = least;
  width = width;
  long = omega (arith, least, long, length-map items number_in);
  places = places_wait m items row grown next (omega (arith, least)) long places e more;
  row = row_before m items row grown (omega (arith, least)) long (omega (arith, without_last_long items, places))
      before e;
}

-- ---- one window more

-- a column that grew by a place without an entry
pub pushed_before : (column : List (Option Near)) (i : ℕ) → i < length column
    → get_or (column ++ None ∷ []) i None ≡ get_or column i None
pushed_before column i lt = get_or-append column (None ∷ []) None i lt

pub pushed_last : (column : List (Option Near)) (w : ℕ) → length column ≡ w → get_or (column ++ None ∷ []) w None ≡ None
pushed_last column w e =
    ap (λ k. get_or (column ++ None ∷ []) k None) (sym e) ∙ get_or-append_seam column None [] None

pub pushed_from : (column : List (Option Near)) (i : ℕ) → length column ≤ i → get_or (column ++ None ∷ []) i None ≡ None
pushed_from [] zero le = refl
pushed_from [] (suc i) le = refl
pushed_from (x ∷ column) zero le = absurd (omega (arith, le))
pushed_from (x ∷ column) (suc i) le = pushed_from column i (omega (arith, le))

pub best_other : (column : List (Option Near)) (w i : ℕ) (best : Option Near) → (i ≡ w → ⊥)
    → get_or (with_best column w best) i None ≡ get_or column i None
best_other column w i None ne = refl
best_other column w i (Some found) ne = get_or-set_other column w i (nearer_of (get_or column w None)
    (Some found)) None ne

first_found : (x : Option Near) (found : Near) → x ≡ None → nearer_of x (Some found) ≡ Some found
first_found None found e = refl
first_found (Some y) found e = absurd (cc)

pub best_here : (column : List (Option Near)) (w : ℕ) (best : Option Near) → w < length column
    → get_or column w None ≡ None
    → get_or (with_best column w best) w None ≡ best
best_here column w None lt e = e
best_here column w (Some found) lt e =
    get_or-set_same column w (nearer_of (get_or column w None) (Some found)) None lt
    ∙ first_found (get_or column w None) found e

pub best_long : (column : List (Option Near)) (w : ℕ) (best : Option Near)
    → length (with_best column w best) ≡ length column
best_long column w None = refl
best_long column w (Some found) = length-set column w (nearer_of (get_or column w None) (Some found))

-- the windows that were there, one sample before
pub record IsBeforeLast (m : ℕ) (a : Series) (s : Option ℤ) (xs : List ℤ) : Type 0 where
  pub long : m ≤ length a + 1
  pub numbers : AreNumbers (with_one a s) xs

pub frees_grow : (m : ℕ) (a : Series) (s : Option ℤ) (free : List Bool) (is_free_last : Bool) → m ≤ length a + 1
    → length free ≡ windows_of m a → ((i : ℕ) → i < windows_of m a → get_or free i false ≡ is_free m a i)
    → is_free_last ≡ is_free m (with_one a s) (windows_of m a)
    → (i : ℕ) → i < windows_of m a + 1
    → get_or (free ++ is_free_last ∷ []) i false ≡ is_free m (with_one a s) i
frees_grow m a s free is_free_last le long before last =
    push_more false (λ i x. x ≡ is_free m (with_one a s) i) free (windows_of m a) is_free_last long
    (λ i lt. before i lt ∙ sym (free_front m a s i (omega (arith, lt)))) last

-- the left column, by what the last window finds
lefts_grow : (m : ℕ) (a : Series) (s : Option ℤ) (left new : List (Option Near)) (best : Option Near)
    → m ≤ length a + 1 → left ≡ (matrix_profile m a).left → new ≡ with_best (left ++ None ∷ []) (windows_of m a) best
    → best ≡ left_entry (is_allowed m) m (with_one a s) (windows_of m a) → new ≡ (matrix_profile m (with_one a s)).left
lefts_grow m a s left new best le e f found =
    let b = with_one a s in
    let w = windows_of m a in
    let more = windows_more m a s le in
    let grown = left ++ None ∷ [] in
    let count : length left ≡ w = ap length e ∙ columns_have_places.count (left_entry (is_allowed m) m a) w in
    f ∙ column_is (left_entry (is_allowed m) m b) (windows_of m b) (with_best grown w best)
    (best_long grown w best ∙ length-append left (None ∷ []) ∙ ap (λ n. n + 1) count ∙ sym more)
    (λ i lt. elim (cases_lt i w) [
      | inl less ↦ best_other grown w i best (λ same. omega (arith, same, less))
          ∙ pushed_before left i (omega (arith, less, count))
          ∙ ap (λ list. get_or list i None) e
          ∙ columns_have_places.at_place (left_entry (is_allowed m) m a) w i less
          ∙ sym (left_stays (is_allowed m) m a s i le less)
      | inr ge ↦ let same : w ≡ i = omega (arith, ge, lt, more) in
          subst (λ k. get_or (with_best grown w best) k None ≡ left_entry (is_allowed m) m b k) same
          (best_here grown w best (omega (arith, length-append left (None ∷ []), count)) (pushed_last left w count)
          ∙ found)
    ])

-- ---- all that is kept

-- the distances of a window at place w
abbrev row_at : ℕ → List Sample → ℕ → ℕ → ℕ
row_at m items w = distance_from m (numbers_in items) w

-- those of the last window
abbrev last_distance : ℕ → List Sample → ℕ → ℕ
last_distance m items = row_at m items (last_place m items)

-- how many windows the last one is offered to
abbrev offered_to : ℕ → List Sample → Bool → ℕ
offered_to m items last_free = offered_before last_free m (last_place m items)

-- the series with its last sample, and the windows that it had before
pub record IsSplit (m : ℕ) (items : List Sample) : Type 0 where
  pub series : series_of items
      ≡ with_one (series_of (without_last items)) (reading_of (get_or items (length items - 1) Missing))
  pub count : windows_of m (series_of (without_last items)) ≡ last_place m items
  pub front : windows (length (without_last items)) m ≡ last_place m items
  pub more : windows (length items) m ≡ last_place m items + 1
  pub before : IsBeforeLast m (series_of (without_last items)) (reading_of (get_or items (length items - 1) Missing))
      (numbers_in items)

pub is_split : (m : ℕ) (items : List Sample) → 1 ≤ m → m ≤ length items → IsSplit m items
is_split m items least le =
    let front = without_last items in
    let last = get_or items (length items - 1) Missing in
    let long = without_last_long items in
    let fewer : windows (length front) m ≡ last_place m items = omega (arith, long) in
    let series : series_of items ≡ with_one (series_of front) (reading_of last) =
    ap series_of (split_last items (omega arith)) ∙ series_with front last in
    record {
      series = series;
      count = ap (λ n. windows n m) (length-map front reading_of) ∙ fewer;
      front = fewer;
      more = omega (arith, long);
      before = record {
        long = omega (arith, long, length-map front reading_of);
        numbers = subst (λ a. AreNumbers a (numbers_in items)) series (numbers_are items);
      };
    }

frees_of : (m : ℕ) (items : List Sample) (last_free : Bool) (before grown : GrowingProfile)
    → HasRowOf m (without_last items) before → IsSplit m items → IsGrown last_free before grown
    → last_free ≡ is_free m (series_of items) (last_place m items)
    → (i : ℕ) → i < windows_of m (series_of (without_last items)) + 1
    → get_or grown.free.items i false
    ≡ is_free m (with_one (series_of (without_last items)) (reading_of (get_or items (length items - 1) Missing))) i
frees_of m items last_free before grown h split grown_is last i lt =
    let front = without_last items in
    let t = reading_of (get_or items (length items - 1) Missing) in
    let v = windows_of m (series_of front) in
    let many : v ≡ windows (length front) m = ap (λ n. windows n m) (length-map front reading_of) in
    ap (λ list. get_or list i false) grown_is.free
    ∙ frees_grow m (series_of front) t before.free.items last_free split.before.long (h.frees ∙ sym many)
    (λ k less. h.free k (omega (arith, less, many)))
    (last ∙ ap (is_free m (series_of items)) (sym split.count) ∙ ap (λ a. is_free m a v) split.series) i lt

last_is : (m : ℕ) (items : List Sample) (last_free value : Bool) → IsSplit m items
    → last_free ≡ is_free m (series_of items) (last_place m items) → last_free ≡ value
    → is_free m (with_one (series_of (without_last items)) (reading_of (get_or items (length items - 1) Missing)))
    (windows_of m (series_of (without_last items))) ≡ value
last_is m items last_free value split last e =
    ap (λ a. is_free m a (windows_of m (series_of (without_last items)))) (sym split.series)
    ∙ ap (is_free m (series_of items)) split.count ∙ sym last ∙ e

-- what the last window finds to its left
best_found : (m : ℕ) (items : List Sample) (last_free : Bool) (before grown : GrowingProfile)
    → IsOf m (without_last items) before → IsSplit m items → IsGrown last_free before grown
    → last_free ≡ is_free m (series_of items) (last_place m items) → (t : Bool) → last_free ≡ t
    → near (row_candidate grown.free.items (last_distance m items)) (offered_to m items last_free)
    ≡ left_entry (is_allowed m) m
    (with_one (series_of (without_last items)) (reading_of (get_or items (length items - 1) Missing)))
    (windows_of m (series_of (without_last items)))
best_found m items last_free before grown h split grown_is last true some =
    let free = grown.free.items in
    ap (λ t. near (row_candidate free (last_distance m items)) (offered_before t m (last_place m items))) some
    ∙ ap (λ j. near (row_candidate free (row_at m items j)) (j - excl m)) (sym split.count)
    ∙ left_last m _ _ (numbers_in items) free split.before.long split.before.numbers
    (frees_of m items last_free before grown h.row split grown_is last) (last_is m items last_free true split last some)
best_found m items last_free before grown h split grown_is last false none =
    let c = row_candidate grown.free.items (last_distance m items) in
    ap (λ t. near c (offered_before t m (last_place m items))) none ∙ grows_by_one_candidate.no_candidates c
    ∙ sym (left_last_none m _ _ (numbers_in items) split.before.long split.before.numbers
    (last_is m items last_free false split last none))

left_after : (m : ℕ) (items : List Sample) (last_free : Bool) (before grown after : GrowingProfile)
    → IsOf m (without_last items) before → IsSplit m items → IsGrown last_free before grown
    → IsOffered m (numbers_in items) (last_place m items) last_free grown after
    → last_free ≡ is_free m (series_of items) (last_place m items)
    → after.entries.profile.left ≡ (matrix_profile m (series_of items)).left
left_after m items last_free before grown after h split grown_is offered last =
    let w = last_place m items in
    let best = near (row_candidate grown.free.items (last_distance m items)) (offered_to m items last_free) in
    let column = before.entries.profile.left ++ None ∷ [] in
    lefts_grow m (series_of (without_last items)) (reading_of (get_or items (length items - 1) Missing))
    before.entries.profile.left after.entries.profile.left best split.before.long h.left
    (subst (λ j. after.entries.profile.left ≡ with_best column j best) (sym split.count)
    (offered.left ∙ ap (λ first. with_best grown.entries.profile.left w (renumbered first best))
    (grown_is.first ∙ h.first)
    ∙ ap (with_best grown.entries.profile.left w) (renumbered_whole best)
    ∙ ap (λ list. with_best list w best) grown_is.left))
    (best_found m items last_free before grown h split grown_is last last_free refl)
    ∙ ap (λ a. (matrix_profile m a).left) (sym split.series)

-- what stands to the right of each window
rights_found : (m : ℕ) (items : List Sample) (last_free : Bool) (before grown : GrowingProfile)
    (old new : List (Option Near)) → IsOf m (without_last items) before → IsSplit m items
    → IsGrown last_free before grown
    → last_free ≡ is_free m (series_of items) (last_place m items)
    → ((i : ℕ) → i < windows_of m (series_of (without_last items))
    → get_or old i None ≡ right_entry (is_allowed m) m (series_of (without_last items)) i)
    → get_or old (windows_of m (series_of (without_last items))) None ≡ None
    → IsTaken grown.free.items (last_distance m items) (last_place m items) 0 (offered_to m items last_free) old new
    → (t : Bool) → last_free ≡ t → (i : ℕ) → i < windows_of m (series_of (without_last items)) + 1
    → get_or new i None ≡ right_entry (is_allowed m) m
    (with_one (series_of (without_last items)) (reading_of (get_or items (length items - 1) Missing))) i
rights_found m items last_free before grown old new h split grown_is last stood none taken true some i lt =
    let free = grown.free.items in
    let w = last_place m items in
    right_entries m _ _ (numbers_in items) free old new split.before.long split.before.numbers
    (frees_of m items last_free before grown h.row split grown_is last) (last_is m items last_free true split last some)
    stood none
    (subst (λ j. IsTaken free (row_at m items j) j 0 (j - excl m) old new) (sym split.count)
    (subst (λ t. IsTaken free (last_distance m items) w 0 (offered_before t m w) old new) some taken)) i lt
rights_found m items last_free before grown old new h split grown_is last stood none taken false kind i lt =
    let free = grown.free.items in
    let w = last_place m items in
    let nothing = subst (λ t. IsTaken free (last_distance m items) w 0 (offered_before t m w) old new) kind taken in
    nothing.behind i (omega arith)
    ∙ right_entries_stay m _ _ (numbers_in items) old split.before.long split.before.numbers
    (last_is m items last_free false split last kind) stood none i lt

right_after : (m : ℕ) (items : List Sample) (last_free : Bool) (before grown after : GrowingProfile)
    → IsOf m (without_last items) before → IsSplit m items → IsGrown last_free before grown
    → IsOffered m (numbers_in items) (last_place m items) last_free grown after
    → last_free ≡ is_free m (series_of items) (last_place m items)
    → after.entries.profile.right ≡ (matrix_profile m (series_of items)).right
right_after m items last_free before grown after h split grown_is offered last =
    let a = series_of (without_last items) in
    let b = with_one a (reading_of (get_or items (length items - 1) Missing)) in
    let right = before.entries.profile.right in
    let new = after.entries.profile.right in
    let w = windows_of m a in
    let more = windows_more m a (reading_of (get_or items (length items - 1) Missing)) split.before.long in
    let count : length right ≡ w = ap length h.right ∙ columns_have_places.count (right_entry (is_allowed m) m a) w in
    let taken : IsTaken grown.free.items (last_distance m items) (last_place m items) 0 (offered_to m items last_free)
    (right ++ None ∷ []) new =
    subst (λ column. IsTaken grown.free.items (last_distance m items) (last_place m items) 0
    (offered_to m items last_free) column new) grown_is.right
    (subst (λ first. IsTaken grown.free.items (last_distance m items) (numbered first (last_place m items)) 0
    (offered_to m items last_free) grown.entries.profile.right new) (grown_is.first ∙ h.first) offered.right) in
    column_is (right_entry (is_allowed m) m b) (windows_of m b) new
    (taken.places ∙ length-append right (None ∷ []) ∙ ap (λ n. n + 1) count ∙ sym more)
    (λ i lt. rights_found m items last_free before grown (right ++ None ∷ []) new h split grown_is last
    (λ k less. pushed_before right k (omega (arith, less, count)) ∙ ap (λ list. get_or list k None) h.right
    ∙ columns_have_places.at_place (right_entry (is_allowed m) m a) w k less)
    (pushed_last right w count) taken last_free refl i (omega (arith, lt, more)))
    ∙ ap (λ a. (matrix_profile m a).right) (sym split.series)

-- the columns have a place for each window
pub rights_count : (m : ℕ) (items : List Sample) (growing : GrowingProfile) → IsOf m items growing
    → length growing.entries.profile.right ≡ windows (length items) m
rights_count m items growing h =
    ap length h.right
    ∙ columns_have_places.count (right_entry (is_allowed m) m (series_of items)) (windows_of m (series_of items))
    ∙ ap (λ n. windows n m) (length-map items reading_of)

-- ---- limits

limit_of_none : (t : Bool) → limit_by t None ≡ 2 ^ 63
limit_of_none true = refl
limit_of_none false = refl

pub limits_grow : (is_narrow : Bool) (right : List (Option Near)) (limits : List ℕ)
    → AreLimits (limit_by is_narrow) right limits
    → AreLimits (limit_by is_narrow) (right ++ None ∷ []) (limits ++ 2 ^ 63 ∷ [])
limits_grow is_narrow right limits h =
    let count = length-append right (None ∷ []) in
    record {
      places = length-append limits (2 ^ 63 ∷ []) ∙ ap (λ n. n + 1) h.places ∙ sym count;
      each = λ i lt. elim (cases_lt i (length right)) [
        | inl less ↦ get_or-append limits (2 ^ 63 ∷ []) 0 i (omega (arith, less, h.places)) ∙ h.each i less
            ∙ ap (limit_by is_narrow) (sym (pushed_before right i less))
        | inr ge ↦ let same : length limits ≡ i = omega (arith, ge, lt, count, h.places) in
            subst (λ k. get_or (limits ++ 2 ^ 63 ∷ []) k 0 ≡ limit_by is_narrow (get_or (right ++ None ∷ []) k None))
            same
            (get_or-append_seam limits (2 ^ 63) [] 0 ∙ sym (limit_of_none is_narrow)
            ∙ ap (limit_by is_narrow) (sym (pushed_last right (length limits) (sym h.places))))
      ];
    }

starts_before : (m : ℕ) (may : ℕ → Bool) (a : Series) (i : ℕ) (found : Option Near) → IsNearest m may a i a found
    → StartsAtMost (windows_of m a) found
starts_before m may a i None h = tt
starts_before m may a i (Some found) h = omega (arith, h.window)

-- the right entries start before the windows' end
pub rights_start : (m : ℕ) (items : List Sample) (w : ℕ) (right : List (Option Near))
    → windows_of m (series_of items) ≡ w → right ≡ (matrix_profile m (series_of items)).right
    → AllStartAtMost w (right ++ None ∷ [])
rights_start m items w right at e i =
    let a = series_of items in
    let count : length right ≡ w =
    ap length e ∙ columns_have_places.count (right_entry (is_allowed m) m a) (windows_of m a) ∙ at in
    elim (cases_lt i w) [
      | inl less ↦ subst (StartsAtMost w) (sym (pushed_before right i (omega (arith, less, count))
          ∙ ap (λ list. get_or list i None) e
          ∙ columns_have_places.at_place (right_entry (is_allowed m) m a) (windows_of m a) i (omega (arith, less, at))))
          (subst (λ n. StartsAtMost n (right_entry (is_allowed m) m a i)) at
          (starts_before m (λ j. is_allowed m i j && nat_lt i j) a i (right_entry (is_allowed m) m a i)
          (entries_are_nearest.right (is_allowed m) m a i)))
      | inr ge ↦ subst (StartsAtMost w) (sym (pushed_from right i (omega (arith, ge, count)))) tt
    ]

-- with a place for the last window
pub grown_waits : (m : ℕ) (items : List Sample) (last_free : Bool) (before grown : GrowingProfile) → 3 ≤ m
    → m ≤ max_window → m ≤ length items → HasRowOf m (without_last items) before → IsSplit m items
    → IsGrown last_free before grown → length before.entries.profile.right ≡ last_place m items
    → numbered before.entries.profile.first (last_place m items) < 2 ^ 64
    → AllStartAtMost (numbered before.entries.profile.first (last_place m items))
    (before.entries.profile.right ++ None ∷ [])
    → AreWithin before.range (numbers_in items) → IsWaiting m (numbers_in items) (last_place m items) grown
grown_waits m items last_free before grown least width long h split grown_is rights number starts range =
    let w = last_place m items in
    let right = before.entries.profile.right in
    let next = ap (λ n. n + 1) h.rows.narrow.next_are in
    let wide_next = ap (λ n. n + 1) h.rows.wide.next_are in
    record {
      frees = ap length grown_is.free ∙ length-append before.free.items (last_free ∷ [])
          ∙ ap (λ n. n + 1) (h.frees ∙ split.front);
      range = subst (λ r. AreWithin r (numbers_in items)) (sym grown_is.range) range;
      rows = record {
        narrow = places_wait m items _ _ _ (omega (arith, least)) long h.rows.narrow.sums_are grown_is.narrow
            (grown_is.narrow_next ∙ next);
        wide = places_wait m items _ _ _ (omega (arith, least)) long h.rows.wide.sums_are grown_is.wide
            (grown_is.wide_next ∙ wide_next);
      };
      ready = record {
        rights = ap length grown_is.right ∙ length-append right (None ∷ []) ∙ ap (λ n. n + 1) rights;
        number = subst (λ first. numbered first w < 2 ^ 64) (sym grown_is.first) number;
        starts = subst (λ first. AllStartAtMost (numbered first w) grown.entries.profile.right) (sym grown_is.first)
            (subst (AllStartAtMost (numbered before.entries.profile.first w)) (sym grown_is.right) starts);
        limits = subst (λ t. AreLimits (limit_by t) grown.entries.profile.right grown.entries.limits.items)
            (sym grown_is.is_narrow)
            (subst (λ column. AreLimits (limit_by before.is_narrow) column grown.entries.limits.items)
            (sym grown_is.right)
            (subst (AreLimits (limit_by before.is_narrow) (right ++ None ∷ [])) (sym grown_is.limits)
            (limits_grow before.is_narrow right before.entries.limits.items h.limits)));
      };
      fits = λ is. subst (SumsFit m 63) (sym grown_is.range) (h.fits (sym grown_is.is_narrow ∙ is));
      narrow = λ is. row_waits m items _ _ _ least width long h.rows.narrow.sums_are
          (h.narrow (sym grown_is.is_narrow ∙ is)) grown_is.narrow (grown_is.narrow_next ∙ next);
      wide = λ is. row_waits m items _ _ _ least width long h.rows.wide.sums_are
          (h.wide (sym grown_is.is_narrow ∙ is)) grown_is.wide (grown_is.wide_next ∙ wide_next);
    }

-- where all windows are there
pub all_wait : (m : ℕ) (items : List Sample) (last_free : Bool) (before grown : GrowingProfile) → 3 ≤ m
    → m ≤ max_window → m ≤ length items → length items ≤ 2 ^ 62 → IsOf m (without_last items) before → IsSplit m items
    → IsGrown last_free before grown → AreWithin before.range (numbers_in items)
    → IsWaiting m (numbers_in items) (last_place m items) grown
all_wait m items last_free before grown least width long few h split grown_is range =
    let front = without_last items in
    let w = last_place m items in
    let right = before.entries.profile.right in
    grown_waits m items last_free before grown least width long h.row split grown_is
    (rights_count m front before h ∙ split.front)
    (subst (λ first. numbered first w < 2 ^ 64) (sym h.first) (omega (arith, few)))
    (subst (λ first. AllStartAtMost (numbered first w) (right ++ None ∷ [])) (sym h.first)
    (rights_start m front w right split.count h.right)) range

-- what the offers are, by a row of the kind that is kept
pub is_offered : (t : Bool) (m : ℕ) (xs : List ℤ) (w : ℕ) (last_free : Bool) (end last : ℕ) (free : List Bool)
    (best : Option Near) (middle : Entries) (grown after : GrowingProfile) → grown.is_narrow ≡ t
    → free ≡ grown.free.items → last ≡ w → end ≡ offered_before last_free m last
    → AreOffered (limit_by t) free (distance_from m xs w) w 0 end grown.entries middle
    → best ≡ near (row_candidate free (distance_from m xs w)) end
    → after.entries.profile.right ≡ middle.profile.right
    → after.entries.profile.left ≡ with_best middle.profile.left last (renumbered middle.profile.first best)
    → after.entries.profile.first ≡ middle.profile.first → after.entries.limits ≡ middle.limits
    → after.free ≡ grown.free → after.range ≡ grown.range → after.is_narrow ≡ grown.is_narrow
    → HaveRows (w + 1) after → (t ≡ true → IsRow xs m w after.narrow.sums.items)
    → (t ≡ false → IsRow xs m w after.wide.sums.items) → IsOffered m xs w last_free grown after
is_offered t m xs w last_free end last free best middle grown after kind free_is last_is end_is offered best_is right
    left first limits frees range is_narrow rows narrow wide =
    let to : end ≡ offered_before last_free m w = end_is ∙ ap (offered_before last_free m) last_is in
    let dist = distance_from m xs w in
    let old = grown.entries.profile in
    record {
      right = subst (IsTaken grown.free.items dist (numbered old.first w) 0 (offered_before last_free m w) old.right)
          (sym right)
          (subst (λ e. IsTaken grown.free.items dist (numbered old.first w) 0 e old.right middle.profile.right) to
          (subst (λ f. IsTaken f dist (numbered old.first w) 0 end old.right middle.profile.right) free_is
          offered.right));
      left = left ∙ ap (λ column. with_best column last (renumbered middle.profile.first best)) offered.only.left
          ∙ ap (λ j. with_best old.left j (renumbered middle.profile.first best)) last_is
          ∙ ap (λ f. with_best old.left w (renumbered f best)) offered.only.first
          ∙ ap (λ found. with_best old.left w (renumbered old.first found))
          (best_is ∙ ap (λ f. near (row_candidate f dist) end) free_is
          ∙ ap (near (row_candidate grown.free.items dist)) to);
      first = first ∙ offered.only.first;
      free = frees;
      range = range;
      is_narrow = is_narrow;
      limits = subst (λ column. AreLimits (limit_by grown.is_narrow) column after.entries.limits.items) (sym right)
          (subst (λ items. AreLimits (limit_by grown.is_narrow) middle.profile.right items.items) (sym limits)
          (subst (λ k. AreLimits (limit_by k) middle.profile.right middle.limits.items)
          (sym kind) offered.ready.limits));
      rows = rows;
      narrow = λ is. narrow (sym kind ∙ is);
      wide = λ is. wide (sym kind ∙ is);
    }

-- the numbers of all samples, as they were lent
lent_numbers : (items : List Sample) (lent : List ℤ) (count : ℕ) → lent ≡ take count (numbers_in items)
    → count ≡ length items → lent ≡ numbers_in items
lent_numbers items lent count e whole =
    let all : count ≡ length (numbers_in items) = whole ∙ sym (length-map items number_in) in
    e ∙ ap (λ n. take n (numbers_in items)) all ∙ take-length (numbers_in items)

place_in_numbers : (m : ℕ) (items : List Sample) → last_place m (numbers_in items) ≡ last_place m items
place_in_numbers m items = ap (λ n. windows n m - 1) (length-map items number_in)

pub waits_lent : (m : ℕ) (items : List Sample) (lent : List ℤ) (count : ℕ) (grown : GrowingProfile)
    → lent ≡ take count (numbers_in items) → count ≡ length items
    → IsWaiting m (numbers_in items) (last_place m items) grown → IsWaiting m lent (last_place m lent) grown
waits_lent m items lent count grown e whole h =
    subst (λ xs. IsWaiting m xs (last_place m xs) grown) (sym (lent_numbers items lent count e whole))
    (subst (λ last. IsWaiting m (numbers_in items) last grown) (sym (place_in_numbers m items)) h)

pub offered_lent : (m : ℕ) (items : List Sample) (lent : List ℤ) (count : ℕ) (last_free : Bool)
    (grown after : GrowingProfile)
    → lent ≡ take count (numbers_in items) → count ≡ length items
    → IsOffered m lent (last_place m lent) last_free grown after
    → IsOffered m (numbers_in items) (last_place m items) last_free grown after
offered_lent m items lent count last_free grown after e whole h =
    subst (λ last. IsOffered m (numbers_in items) last last_free grown after) (place_in_numbers m items)
    (subst (λ xs. IsOffered m xs (last_place m xs) last_free grown after) (lent_numbers items lent count e whole) h)

-- with the last window offered, what is kept beside the nearest windows
pub row_grows : (m : ℕ) (items : List Sample) (last_free : Bool) (before grown after : GrowingProfile)
    → HasRowOf m (without_last items) before → IsSplit m items → IsGrown last_free before grown
    → IsOffered m (numbers_in items) (last_place m items) last_free grown after
    → last_free ≡ is_free m (series_of items) (last_place m items)
    → IsWaiting m (numbers_in items) (last_place m items) grown → HasRowOf m items after
row_grows m items last_free before grown after h split grown_is offered last waiting = record {
  frees = ap (λ free. length free.items) offered.free ∙ ap length grown_is.free
      ∙ length-append before.free.items (last_free ∷ []) ∙ ap (λ n. n + 1) (h.frees ∙ split.front) ∙ sym split.more;
  free = λ i lt. ap (λ free. get_or free.items i false) offered.free
      ∙ frees_of m items last_free before grown h split grown_is last i
      (omega (arith, lt, split.more, split.count)) ∙ ap (λ a. is_free m a i) (sym split.series);
  range = subst (λ range. AreWithin range (numbers_in items)) (sym offered.range) waiting.range;
  limits = subst (λ t. AreLimits (limit_by t) after.entries.profile.right after.entries.limits.items)
      (sym offered.is_narrow) offered.limits;
  rows = subst (λ n. HaveRows n after) (sym split.more) offered.rows;
  fits = λ is. subst (SumsFit m 63) (sym offered.range) (waiting.fits (sym offered.is_narrow ∙ is));
  narrow = λ is. offered.narrow (sym offered.is_narrow ∙ is);
  wide = λ is. offered.wide (sym offered.is_narrow ∙ is);
}

-- and the profile of all windows
pub all_grow : (m : ℕ) (items : List Sample) (last_free : Bool) (before grown after : GrowingProfile)
    → IsOf m (without_last items) before → IsSplit m items → IsGrown last_free before grown
    → IsOffered m (numbers_in items) (last_place m items) last_free grown after
    → last_free ≡ is_free m (series_of items) (last_place m items)
    → IsWaiting m (numbers_in items) (last_place m items) grown → IsOf m items after
all_grow m items last_free before grown after h split grown_is offered last waiting = record {
  first = offered.first ∙ grown_is.first ∙ h.first;
  left = left_after m items last_free before grown after h split grown_is offered last;
  right = right_after m items last_free before grown after h split grown_is offered last;
  row = row_grows m items last_free before grown after h.row split grown_is offered last waiting;
  exact = λ fits. offered.is_narrow ∙ grown_is.is_narrow
      ∙ h.exact (subst (SumsFit m 63) (offered.range ∙ grown_is.range) fits);
  none = λ zero. subst (SumsFit m 63) (sym (offered.range ∙ grown_is.range))
      (h.none (omega (arith, zero, without_last_long items)));
}

-- ---- whether 64 bits hold the sums

-- a number alone has no differences
number_fits : (m : ℕ) (range : Range) → range.greatest ≡ range.least → SumsFit m 63 range
number_fits m range same =
    let zero : unsigned_abs (range.greatest -ℤ range.least) ≡ 0 = omega (arith, ints, same) in
    subst (λ n. m * (n * n) < 2 ^ 63) (sym zero) (omega arith)

-- those of a range fit where those of a wider one do
narrower_fits : (m : ℕ) (old new : Range) → old.least ≤ℤ old.greatest → Reaches new old → SumsFit m 63 new
    → SumsFit m 63 old
narrower_fits m old new ordered reach fits =
    let greatest : IsInRange new old.greatest = (omega (arith, ints, ordered, reach.0), reach.1) in
    let least : IsInRange new old.least = (reach.0, omega (arith, ints, ordered, reach.1)) in
    let squares = squares_in_range new old.greatest old.least greatest least in
    omega (arith, mul-le-mul_left m squares, fits)

narrow_by : (m n : ℕ) (items : List Sample) (before : GrowingProfile) (range : Range) → length items ≡ n
    → IsOf m items before → (0 < length items → Reaches range before.range) → SumsFit m 63 range
    → before.is_narrow ≡ true
narrow_by m zero items before range is h wider fits = h.exact (h.none is)
narrow_by m (suc n) items before range is h wider fits =
    let some : 0 < length items = omega (arith, is) in
    let first = h.row.range 0 (omega (arith, some, length-map items number_in)) in
    h.exact (narrower_fits m before.range range (omega (arith, ints, first)) (wider some) fits)

-- where 64 bits hold those of a range that reaches further, the row has 64 bits before
pub narrow_before : (m : ℕ) (items : List Sample) (before : GrowingProfile) (range : Range) → IsOf m items before
    → (0 < length items → Reaches range before.range) → SumsFit m 63 range → before.is_narrow ≡ true
narrow_before m items before range = narrow_by m (length items) items before range refl

-- ---- the first time

saturated_sum : (sum wide narrow : ℕ) → narrow ≡ min wide (2 ^ 64 - 1) → wide ≡ sum → sum < 2 ^ 63 → narrow ≡ sum
saturated_sum sum wide narrow e f lt = omega (arith, e, f, lt)

pub narrow_first : (m : ℕ) (items : List Sample) (range : Range) (wide narrow : List ℕ) → 1 ≤ m
    → length wide ≡ windows (length items) m → length narrow ≡ length wide → AreWithin range (numbers_in items)
    → SumsFit m 63 range → IsRow (numbers_in items) m (windows (length items) m - 1) wide
    → ((i : ℕ) → i < length wide → get_or narrow i 0 ≡ min (get_or wide i 0) (2 ^ 64 - 1))
    → IsRow (numbers_in items) m (windows (length items) m - 1) narrow
narrow_first m items range wide narrow least long same within fit row sums i lt =
    let many = length-map items number_in in
    let below : i < length wide = omega (arith, lt, same) in
    saturated_sum _ _ _ (sums i below) (row i below)
    (sum_small range (numbers_in items) m i (windows (length items) m - 1) within fit
    (omega (arith, below, long, many, least)) (omega (arith, below, long, many, least)))

pub all_first : (m : ℕ) (items : List Sample) (growing : GrowingProfile) → 1 ≤ m
    → growing.entries.profile.first ≡ None
    → growing.entries.profile.left ≡ (matrix_profile m (series_of items)).left
    → growing.entries.profile.right ≡ (matrix_profile m (series_of items)).right
    → length growing.free.items ≡ windows (length items) m
    → ((i : ℕ) → i < windows (length items) m → get_or growing.free.items i false ≡ is_free m (series_of items) i)
    → AreWithin growing.range (numbers_in items) → (growing.is_narrow ≡ true → SumsFit m 63 growing.range)
    → (SumsFit m 63 growing.range → growing.is_narrow ≡ true)
    → (length items ≡ 0 → growing.range.greatest ≡ growing.range.least)
    → HaveRows (windows (length items) m) growing
    → IsRow (numbers_in items) m (last_place m items) growing.wide.sums.items
    → ((i : ℕ) → i < length growing.wide.sums.items
    → get_or growing.narrow.sums.items i 0 ≡ min (get_or growing.wide.sums.items i 0) (2 ^ 64 - 1))
    → AreLimits (limit_by growing.is_narrow) growing.entries.profile.right growing.entries.limits.items
    → IsOf m items growing
all_first m items growing least first left right frees free range fits exact none rows row sums limits = record {
  first = first;
  left = left;
  right = right;
  row = record {
    frees = frees;
    free = free;
    range = range;
    limits = limits;
    rows = rows;
    fits = fits;
    narrow = λ is. narrow_first m items growing.range growing.wide.sums.items growing.narrow.sums.items least
        rows.wide.sums_are (rows.narrow.sums_are ∙ sym rows.wide.sums_are) range (fits is) row sums;
    wide = λ _. row;
  };
  exact = exact;
  none = λ zero. number_fits m growing.range (none zero);
}

-- ---- a sample without a window

no_windows : (m : ℕ) (items : List Sample) (f g : ℕ → Option Near) (list : List (Option Near)) → length items < m
    → list ≡ column f (windows_of m (series_of (without_last items))) → list ≡ column g (windows_of m (series_of items))
no_windows m items f g list lt e =
    let front = without_last items in
    let before : windows_of m (series_of front) ≡ 0 =
    omega (arith, length-map front reading_of, without_last_long items) in
    let after : windows_of m (series_of items) ≡ 0 = omega (arith, length-map items reading_of) in
    let none : length list ≡ windows_of m (series_of items) =
    ap length e ∙ columns_have_places.count f (windows_of m (series_of front)) ∙ before ∙ sym after in
    column_is g (windows_of m (series_of items)) list none (λ i less. absurd (omega (arith, less, after)))

-- what is kept beside the nearest windows
pub row_stays : (m : ℕ) (items : List Sample) (before : GrowingProfile) → length items < m
    → AreWithin before.range (numbers_in items) → HasRowOf m (without_last items) before → HasRowOf m items before
row_stays m items before lt range h =
    let front = without_last items in
    let none : windows (length front) m ≡ windows (length items) m = omega (arith, without_last_long items) in
    let zeros : windows (length items) m ≡ 0 = omega arith in
    record {
      frees = h.frees ∙ none;
      free = λ i less. absurd (omega (arith, less, zeros));
      range = range;
      limits = h.limits;
      rows = subst (λ n. HaveRows n before) none h.rows;
      fits = h.fits;
      narrow = λ is i less. absurd (omega (arith, less, h.rows.narrow.sums_are, none, zeros));
      wide = λ is i less. absurd (omega (arith, less, h.rows.wide.sums_are, none, zeros));
    }

-- and the profile of all windows
pub all_stay : (m : ℕ) (items : List Sample) (before : GrowingProfile) → length items < m
    → AreWithin before.range (numbers_in items) → IsOf m (without_last items) before → IsOf m items before
all_stay m items before lt range h =
    let front = without_last items in
    record {
      first = h.first;
      left = no_windows m items (left_entry (is_allowed m) m (series_of front))
          (left_entry (is_allowed m) m (series_of items)) before.entries.profile.left lt h.left;
      right = no_windows m items (right_entry (is_allowed m) m (series_of front))
          (right_entry (is_allowed m) m (series_of items)) before.entries.profile.right lt h.right;
      row = row_stays m items before lt range h.row;
      exact = h.exact;
      none = λ zero. h.none (omega (arith, zero, without_last_long items));
    }

-- ---- a wider range

pub wider_within : (old new : Range) (numbers : List ℤ) → (0 < length numbers → Reaches new old) → AreWithin old numbers
    → AreWithin new numbers
wider_within old new numbers wider h k lt =
    let reach = wider (omega (arith, lt)) in
    let within = h k lt in
    (omega (arith, ints, reach, within), omega (arith, ints, reach, within))

pub range_grows : (new : Range) (front items : List Sample) (sample : Sample) → items ≡ front ++ sample ∷ []
    → AreWithin new (numbers_in front) → AreWithin new (number_in sample ∷ []) → AreWithin new (numbers_in items)
range_grows new front items sample e h last =
    let whole : numbers_in items ≡ numbers_in front ++ number_in sample ∷ [] =
    ap numbers_in e ∙ map-append number_in front (sample ∷ []) in
    subst (AreWithin new) (sym whole)
    (λ k lt. push_more (pos 0) (λ _ x. (new.least ≤ℤ x) × (x ≤ℤ new.greatest)) (numbers_in front)
    (length (numbers_in front))
    (number_in sample) refl h (last 0 (omega arith)) k
    (omega (arith, lt, length-append (numbers_in front) (number_in sample ∷ []))))

first_only : (count long : ℕ) → count ≡ long → 0 < long - 1 → nat_eq count 1 ≡ false
first_only count long e lt = grind (arith, nat_tests)

-- the range of the samples before the last one, where it only widens behind the first
pub front_within : (items : List Sample) (old new : Range) (count : ℕ) → count ≡ length items
    → (nat_eq count 1 ≡ false → Reaches new old) → AreWithin old (numbers_in (without_last items))
    → AreWithin new (numbers_in (without_last items))
front_within items old new count e wider =
    let front = without_last items in
    wider_within old new (numbers_in front)
    (λ some. wider (first_only count (length items) e (omega (
      arith,
      some,
      length-map front number_in,
      without_last_long items,
    ))))

-- ---- a range that is taken

only_first : (count long before : ℕ) → count ≡ long → long ≡ before + 1 → before ≡ 0 → nat_eq count 1 ≡ true
only_first count long before e f g = grind (arith, nat_tests)

-- with the range of one sample more, the row of those before it has 64 bits exactly where these hold its sums
pub covered : (m : ℕ) (items : List Sample) (sample : Sample) (before after : GrowingProfile) (range : Range)
    (count : ℕ)
    → items ≡ without_last items ++ sample ∷ [] → count ≡ length items
    → (nat_eq count 1 ≡ true → range.greatest ≡ range.least) → (nat_eq count 1 ≡ false → Reaches range before.range)
    → after.range ≡ range → (SumsFit m 63 range → after.is_narrow ≡ before.is_narrow)
    → after.entries.profile ≡ before.entries.profile
    → IsOf m (without_last items) before → HasRowOf m (without_last items) after → IsOf m (without_last items) after
covered m items sample before after range count whole is first wider taken bits same h now =
    let front = without_last items in
    let more : length items ≡ length front + 1 = ap length whole ∙ length-append front (sample ∷ []) in
    record {
      first = ap (λ profile. profile.first) same ∙ h.first;
      left = ap (λ profile. profile.left) same ∙ h.left;
      right = ap (λ profile. profile.right) same ∙ h.right;
      row = now;
      exact = λ fits.
          let fit : SumsFit m 63 range = subst (SumsFit m 63) taken fits in
          bits fit ∙ narrow_before m front before range h
          (λ some. wider (first_only count (length items) is (omega (arith, some, more)))) fit;
      none = λ zero. subst (SumsFit m 63) (sym taken)
          (number_fits m range (first (only_first count (length items) (length front) is more zero)));
    }
