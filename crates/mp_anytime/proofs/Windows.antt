-- What is kept, with one window more and with some diagonals more.
use Rattle.std.proofs.Common.{◌≡◌, ℕ, zero, suc, ◌+◌, ◌-◌, ◌<◌, ◌≤◌, inl, inr, List, []}
use Rattle.std.proofs.Common.{◌∷◌, ◌++◌, length, get_or}
use Rattle.std.proofs.Common.{Bool, true, false}
use Rattle.std.proofs.Common.{take, drop, refl, sym, ap, ◌∙◌, arith, subst}
use Rattle.std.specs.Int.{abs_diff}
use Rattle.std.specs.Prelude.{All, Option, None, ℤ, pos, map, nat_lt, slice_index, ◌&&◌, ◌||◌}
use Rattle.std.proofs.Math.ListN.{get_or-append}
use Rattle.std.proofs.Math.Seq.{get_or-append_seam}
use Rattle.std.proofs.lemmas.Bool.{cases_eq, cases_lt}
use Rattle.std.proofs.lemmas.List.{length-map, length-append, length-take, map-append, take_all, take_more}
use Rattle.std.proofs.lemmas.Simd.{length-zip2, zip2_splat}
use Rattle.std.proofs.lemmas.List.{length-replicate}
use Rattle.mp_nums.specs.declared.nearest.Near.{Near}
use Rattle.mp_nums.specs.Near.{nearer_of}
use Rattle.mp_nums.specs.declared.samples.Sample.{Sample}
use Rattle.mp_nums.specs.declared.samples.Sample.TheVariants.{Missing}
use Rattle.mp_defs.specs.Series.{Series, reading_of, series_of}
use Rattle.mp_defs.specs.ColumnLaws.{columns_have_places}
use Rattle.mp_defs.specs.Window.{is_allowed, windows}
use Rattle.mp_defs.specs.Profile.{column, left_entry, nearest_column, profile, right_entry, windows_of}
use Rattle.mp_partial.specs.Profiled.{Profiled}
use Rattle.mp_defs.specs.NearestLaws.{zone_is_mutual}
use Rattle.mp_defs.specs.SeriesLaws.{series_are_of_samples}
use Rattle.mp_partial.specs.Values.{Column, Value, empty_column, empty_columns, merged_column, merged_columns}
use Rattle.mp_stream.specs.Appended.{EntriesGrow, with_one}
use Rattle.mp_tiles.specs.Among.{columns_value, either_way}
use Rattle.mp_tiles.specs.Scanning.{IsScanned}
use Rattle.mp_tiles.specs.SideLaws.{profiles_are_of_both_sides}
use Rattle.mp_results.specs.Reversal.{numbers}
use Rattle.mp_results.specs.Covering.{is_covered}
use Rattle.mp_results.specs.LazyProfile.{is_allowed_along, lazy_profile}
use Rattle.mp_anytime.specs.Scanning.{AreEarlier, AreLater, lie_along}
use Rattle.mp_anytime.specs.Bounds.{both_sides, columns_of, kept_sides, numbered, numbered_slots}
use Rattle.mp_anytime.specs.Waiting.{AreWaiting, IsCounted}
use Rattle.mp_anytime.specs.Kept.{AreDistinct, AreSums, IsAlongCovered, IsDiagonal, IsOf, IsSumAt, is_last_pair}
use Rattle.mp_anytime.specs.Kept.{IsExtended, IsGrown, IsListed, IsWaiting, last_place, without_last}
use Rattle.mp_anytime.specs.Sums.{HavePlaces, IsPut, sum_in}
use Rattle.mp_anytime.specs.declared.sums.Sums.{Sums}
use Rattle.mp_anytime.proofs.Distinct.{distinct_more, none_distinct}
use Rattle.mp_nums.specs.Listed.{Listed}
use Rattle.mp_series.specs.Samples.{number_in, numbers_in}
use Rattle.mp_sums.specs.Ranges.{AreWithin, IsInRange, Reaches}
use Rattle.std.proofs.lemmas.Int.{ints}
use Rattle.mp_sums.specs.declared.ranges.Range.{Range}
use Rattle.mp_tiles.specs.Scanning.{HasPlaces as HasEntries}
use Rattle.mp_anytime.specs.declared.coverage.Coverage.{Coverage}
use Rattle.mp_anytime.proofs.Choosing.{other_test}
use Rattle.mp_anytime.proofs.Entries.{each_merged, each_numbered, kept_is, left_is_earlier, merged_again}
use Rattle.mp_anytime.proofs.Entries.{right_is_later}
use Rattle.mp_anytime.proofs.Counting.{counted_more, none_counted}
use Rattle.mp_anytime.proofs.Appending.{first_pairs, grown_left, grown_right, joined_column}
use Rattle.mp_anytime.proofs.Distances.{sum_front}
use Rattle.mp_anytime.proofs.LazyLemmas.{along_both, left_of, lazy_is_along, right_of, three, value_none}

-- ---- one sample more

front_taken : {A : Type 0} (xs ys : List A) → take (length xs) (xs ++ ys) ≡ xs
front_taken [] ys = refl
front_taken (x ∷ xs) ys = ap (λ l. x ∷ l) (front_taken xs ys)

-- what stood before the last one
pub front_is : (front items : List Sample) (sample : Sample) → items ≡ front ++ sample ∷ []
    → without_last items ≡ front
front_is front items sample e =
    let long = length-append front (sample ∷ []) in
    ap without_last e ∙ ap (λ n. take n (front ++ sample ∷ [])) (omega (arith, long))
    ∙ front_taken front (sample ∷ [])

pub last_sample : (items : List Sample) → 1 ≤ length items
    → items ≡ without_last items ++ get_or items (length items - 1) Missing ∷ []
last_sample items some =
    let one : length items ≡ length items - 1 + 1 = omega arith in
    sym (take_all (length items) items (omega arith)) ∙ ap (λ n. take n items) one
    ∙ take_more items (length items - 1) Missing (omega arith)

pub front_long : (items : List Sample) → length (without_last items) ≡ length items - 1
front_long items = omega (arith, length-take (length items - 1) items)

pub series_with : (items front : List Sample) (sample : Sample) → items ≡ front ++ sample ∷ []
    → series_of items ≡ with_one (series_of front) (reading_of sample)
series_with items front sample e = ap series_of e ∙ map-append reading_of front (sample ∷ [])

pub diagonals_stay : (m w v : ℕ) (covered : List ℕ) → w ≤ v → All (IsDiagonal m w) covered
    → All (IsDiagonal m v) covered
diagonals_stay m w v covered le all k d lt = ((all k d lt).0, omega (arith, (all k d lt).1, le))

-- ---- columns

left_along : (m w : ℕ) (covered : List ℕ) (a : Series) → All (IsDiagonal m w) covered
    → (lazy_profile m covered a).left ≡ (profile (lie_along covered) m a).left
left_along m w covered a all = left_of _ _ _ _ _ _ (lazy_is_along m w covered a all)

right_along : (m w : ℕ) (covered : List ℕ) (a : Series) → All (IsDiagonal m w) covered
    → (lazy_profile m covered a).right ≡ (profile (lie_along covered) m a).right
right_along m w covered a all = right_of _ _ _ _ _ _ (lazy_is_along m w covered a all)

-- the last window is compared along the covered diagonals
pub left_grows : (grow : EntriesGrow) (m w : ℕ) (covered : List ℕ) (a : Series) (s : Option ℤ)
    (old grown new : Profiled)
    → m ≤ length a + 1 → windows_of m a ≡ w → All (IsDiagonal m w) covered
    → old.left ≡ (lazy_profile m covered a).left → grown.left ≡ old.left ++ None ∷ []
    → IsScanned (is_last_pair covered w) m (with_one a s) grown new
    → new.left ≡ (lazy_profile m covered (with_one a s)).left
left_grows grow m w covered a s old grown new long count all was more scanned =
    let b = with_one a s in
    let counted : windows_of m b ≡ w + 1 = grow.windows m a s long ∙ ap (λ n. n + 1) count in
    let first : grown.left ≡ nearest_column (λ i j. first_pairs covered w i j && nat_lt j i) m b b =
    more ∙ ap (λ (c : Column). c ++ None ∷ []) (was ∙ left_along m w covered a all)
    ∙ sym (grown_left grow m a s covered long)
    ∙ ap (λ n. nearest_column (λ i j. first_pairs covered n i j && nat_lt j i) m b b) count in
    scanned.sides.left
    ∙ ap (λ (c : Column). merged_column c
    (nearest_column (λ i j. either_way (is_last_pair covered w) i j && nat_lt j i) m b b))
    first
    ∙ joined_column covered m b w (λ i j. nat_lt j i) counted
    ∙ sym (left_along m (w + 1) covered b (diagonals_stay m w (w + 1) covered (omega arith) all))

pub right_grows : (grow : EntriesGrow) (m w : ℕ) (covered : List ℕ) (a : Series) (s : Option ℤ)
    (old grown new : Profiled)
    → m ≤ length a + 1 → windows_of m a ≡ w → All (IsDiagonal m w) covered
    → old.right ≡ (lazy_profile m covered a).right → grown.right ≡ old.right ++ None ∷ []
    → IsScanned (is_last_pair covered w) m (with_one a s) grown new
    → new.right ≡ (lazy_profile m covered (with_one a s)).right
right_grows grow m w covered a s old grown new long count all was more scanned =
    let b = with_one a s in
    let counted : windows_of m b ≡ w + 1 = grow.windows m a s long ∙ ap (λ n. n + 1) count in
    let first : grown.right ≡ nearest_column (λ i j. first_pairs covered w i j && nat_lt i j) m b b =
    more ∙ ap (λ (c : Column). c ++ None ∷ []) (was ∙ right_along m w covered a all)
    ∙ sym (grown_right grow m a s covered long)
    ∙ ap (λ n. nearest_column (λ i j. first_pairs covered n i j && nat_lt i j) m b b) count in
    scanned.sides.right
    ∙ ap (λ (c : Column). merged_column c
    (nearest_column (λ i j. either_way (is_last_pair covered w) i j && nat_lt i j) m b b))
    first
    ∙ joined_column covered m b w (λ i j. nat_lt i j) counted
    ∙ sym (right_along m (w + 1) covered b (diagonals_stay m w (w + 1) covered (omega arith) all))

-- the sums of the pairs before the last window's
pub sums_front : (m w : ℕ) (a : Series) (s : Option ℤ) (covered : List ℕ) (sums : Sums) → windows_of m a ≡ w
    → All (IsDiagonal m w) covered → AreSums m a covered (w - 1) sums
    → AreSums m (with_one a s) covered (w - 1) sums
sums_front m w a s covered sums count all h = record {
  each = λ k lt.
      let less = (all k 0 lt).1 in
      sum_front m a s (w - 1 - slice_index covered k) (w - 1) (sum_in sums (slice_index covered k))
      (omega (arith, less, count)) (omega (arith, less, count)) (h.each k lt);
}

-- ---- more diagonals

all_both : {X : Type 0} (P : X → Type 0) (xs ys : List X) → All P xs → All P ys → All P (xs ++ ys)
all_both P [] ys h g k d lt = g k d lt
all_both P (x ∷ xs) ys h g zero d lt = h zero d (omega arith)
all_both P (x ∷ xs) ys h g (suc k) d lt =
    all_both P xs ys (λ i e less. h (suc i) e (omega (arith, less))) g k d (omega (arith, lt))

pub diagonals_both : (m w : ℕ) (covered chosen : List ℕ) → All (IsDiagonal m w) covered
    → All (IsDiagonal m w) chosen
    → All (IsDiagonal m w) (covered ++ chosen)
diagonals_both m w covered chosen h g = all_both (IsDiagonal m w) covered chosen h g

-- none of them is a window that comes later
pub not_covered : (m w : ℕ) (covered : List ℕ) → All (IsDiagonal m w) covered → is_covered covered w ≡ false
not_covered m w [] all = refl
not_covered m w (d ∷ ds) all =
    ap (λ t. t || is_covered ds w) (other_test d w (λ e. omega (arith, (all 0 d (omega arith)).1, e)))
    ∙ not_covered m w ds (λ k e lt. all (suc k) e (omega (arith, lt)))

-- how many windows a profile has
pub kept_places : (m : ℕ) (items : List Sample) (covered : List ℕ) (p : Profiled)
    → IsAlongCovered m items covered p
    → length p.left ≡ windows (length items) m
kept_places m items covered p h =
    ap length h.left
    ∙ columns_have_places.count (left_entry (is_allowed_along covered m) m (series_of items))
    (windows_of m (series_of items))
    ∙ series_are_of_samples.windows_are m items

-- what was found is of both sides of what was kept and of the chosen diagonals
abbrev pub IsFoundOf : (Near → Bool) → ℕ → List Sample → List ℕ → Profiled → Profiled → Type 0
IsFoundOf fits m items chosen old found =
    columns_of found
    ≡ merged_columns (columns_of (both_sides (numbered_slots fits old.left) (numbered_slots fits old.right) 0))
    (columns_value (profile (lie_along chosen) m (series_of items)))

pub is_found : (fits : Near → Bool) (m : ℕ) (items : List Sample) (chosen : List ℕ) (old found : Profiled)
    → length old.left ≡ length old.all
    → length old.right ≡ length old.all
    → columns_of found ≡ merged_columns (columns_of (kept_sides fits old))
    (columns_value (profile (lie_along chosen) m (series_of items))) → IsFoundOf fits m items chosen old found
is_found fits m items chosen old found left right e =
    e ∙ ap (λ (p : Profiled). merged_columns (columns_of p)
    (columns_value (profile (lie_along chosen) m (series_of items)))) (kept_is fits old left right)

pub found_places : (fits : Near → Bool) (m : ℕ) (items : List Sample) (covered chosen : List ℕ) (old found : Profiled)
    → IsAlongCovered m items covered old
    → IsFoundOf fits m items chosen old found → length found.left ≡ windows_of m (series_of items)
found_places fits m items covered chosen old found was e =
    let a = series_of items in
    let p = profile (lie_along chosen) m a in
    let kept : length (numbered_slots fits old.left) ≡ windows_of m a =
    length-map old.left (numbered fits) ∙ ap length was.left
    ∙ columns_have_places.count (left_entry (is_allowed_along covered m) m a) (windows_of m a) in
    ap length (left_of _ _ _ _ _ _ e)
    ∙ length-zip2 nearer_of (numbered_slots fits old.left) p.left
    (kept ∙ sym (columns_have_places.count (left_entry (lie_along chosen) m a) (windows_of m a)))
    ∙ kept

-- what was written to a part of a list that is all of it
pub written_back : (xs ys : List ℕ) → length xs ≡ length ys
    → take (length ys) (xs ++ drop (length xs) ys) ≡ xs
written_back xs ys e =
    ap (λ n. take n (xs ++ drop (length xs) ys)) (sym e) ∙ front_taken xs (drop (length xs) ys)

-- ---- no diagonals

pub none_along : (m : ℕ) (items : List Sample) (p : Profiled)
    → ◌≡◌ {A = Value} (p.all ∷ p.left ∷ p.right ∷ []) (empty_columns 3 (windows (length items) m))
    → IsAlongCovered m items [] p
none_along m items p e =
    let a = series_of items in
    let same : empty_columns 3 (windows (length items) m) ≡ columns_value (lazy_profile m [] a) =
    ap (empty_columns 3) (sym (series_are_of_samples.windows_are m items))
    ∙ sym (value_none (is_allowed_along [] m) m a (λ i j. never (is_allowed m i j))) in
    record {
      left = left_of _ _ _ _ _ _ (e ∙ same);
      right = right_of _ _ _ _ _ _ (e ∙ same);
    }
  where
    never : (t : Bool) → (t && false) ≡ false
    never true = refl
    never false = refl

none_in : (f : Option Near → Option Near) (w : ℕ) → f None ≡ None → map f (empty_column w) ≡ empty_column w
none_in f zero e = refl
none_in f (suc w) e = ap (λ x. x ∷ map f (empty_column w)) e ∙ ap (λ (c : Column). None ∷ c) (none_in f w e)

none_merged : (w : ℕ) → merged_column (empty_column w) (empty_column w) ≡ empty_column w
none_merged w =
    zip2_splat nearer_of (empty_column w) w None (length-replicate w None) ∙ none_in (λ x. nearer_of x None) w refl

no_numbers : (xs : List ℕ) → length xs ≡ 0 → xs ≡ []
no_numbers [] e = refl
no_numbers (x ∷ xs) e = absurd (omega (arith, e))

-- then nothing is kept
pub nothing_kept : (fits : Near → Bool) (m : ℕ) (items : List Sample) (covered : List ℕ) (p : Profiled)
    → length covered ≡ 0
    → IsAlongCovered m items covered p → length p.left ≡ length p.all → length p.right ≡ length p.all
    → columns_of (kept_sides fits p) ≡ empty_columns 3 (length p.all)
nothing_kept fits m items covered p none h left right =
    ap columns_of (kept_is fits p left right)
    ∙ three _ _ _ _ _ _
    (ap (λ (c : Column). merged_column c (numbered_slots fits p.right)) left_is
    ∙ ap (merged_column (empty_column (length p.all))) right_is ∙ none_merged (length p.all))
    left_is right_is
  where
    a : Series
    a = series_of items

    w : ℕ
    w = windows_of m a

    never : (t : Bool) → (t && false) ≡ false
    never true = refl
    never false = refl

    empty : columns_value (lazy_profile m [] a) ≡ empty_columns 3 w
    empty = value_none (is_allowed_along [] m) m a (λ i j. never (is_allowed m i j))

    was : IsAlongCovered m items [] p
    was = subst (λ ds. IsAlongCovered m items ds p) (no_numbers covered none) h

    numbered_none : (c : Column) → c ≡ empty_column w → length c ≡ length p.all
        → numbered_slots fits c ≡ empty_column (length p.all)
    numbered_none c is count =
        ap (numbered_slots fits) is ∙ none_in (numbered fits) w refl
        ∙ ap empty_column (sym (length-replicate {A = Option Near} w None) ∙ sym (ap length is) ∙ count)

    left_is : numbered_slots fits p.left ≡ empty_column (length p.all)
    left_is = numbered_none p.left (was.left ∙ left_of _ _ _ _ _ _ empty) left

    right_is : numbered_slots fits p.right ≡ empty_column (length p.all)
    right_is = numbered_none p.right (was.right ∙ right_of _ _ _ _ _ _ empty) right

-- ---- both sides

pub all_entries : (m : ℕ) (covered : List ℕ) (a : Series) (all left right : Column)
    → all ≡ merged_column left right
    → left ≡ (lazy_profile m covered a).left → right ≡ (lazy_profile m covered a).right
    → all ≡ (lazy_profile m covered a).all
all_entries m covered a all left right e f g =
    e ∙ ap (λ (c : Column). merged_column c right) f ∙ ap (merged_column (lazy_profile m covered a).left) g
    ∙ sym (profiles_are_of_both_sides.any (is_allowed_along covered m) never m a)
  where
    never : (i : ℕ) → is_allowed_along covered m i i ≡ false
    never i = ap (λ t. t && is_covered covered (abs_diff i i)) (zone_is_mutual.irreflexive m i)

-- ---- what was found is taken over

pub covers_more : (fits : Near → Bool) (m w : ℕ) (items : List Sample) (covered chosen : List ℕ)
    (old found new : Profiled)
    → All (IsDiagonal m w) covered → All (IsDiagonal m w) chosen → IsAlongCovered m items covered old
    → IsFoundOf fits m items chosen old found
    → new.left ≡ merged_column old.left found.left → new.right ≡ merged_column old.right found.right
    → IsAlongCovered m items (covered ++ chosen) new
covers_more fits m w items covered chosen old found new all all' was e l r =
    let a = series_of items in
    let both = diagonals_both m w covered chosen all all' in
    let whole = along_both covered chosen m a in
    let p = profile (lie_along chosen) m a in
    record {
      left = l ∙ ap (merged_column old.left) (left_of _ _ _ _ _ _ e) ∙ merged_again fits old.left p.left
          ∙ ap (λ (c : Column). merged_column c p.left) (was.left ∙ left_along m w covered a all)
          ∙ sym (left_of _ _ _ _ _ _ whole)
          ∙ sym (left_along m w (covered ++ chosen) a both);
      right = r ∙ ap (merged_column old.right) (right_of _ _ _ _ _ _ e) ∙ merged_again fits old.right p.right
          ∙ ap (λ (c : Column). merged_column c p.right) (was.right ∙ right_along m w covered a all)
          ∙ sym (right_of _ _ _ _ _ _ whole)
          ∙ sym (right_along m w (covered ++ chosen) a both);
    }

-- on which sides windows were found
pub found_earlier : (fits : Near → Bool) (m : ℕ) (items : List Sample) (covered chosen : List ℕ) (old found : Profiled)
    → IsAlongCovered m items covered old
    → IsFoundOf fits m items chosen old found → AreEarlier found.left
found_earlier fits m items covered chosen old found was e =
    let a = series_of items in
    let p = profile (lie_along chosen) m a in
    let kept : AreEarlier old.left =
    subst AreEarlier (sym was.left) (left_is_earlier (is_allowed_along covered m) m a) in
    let long : length p.left ≡ length (numbered_slots fits old.left) =
    columns_have_places.count (left_entry (lie_along chosen) m a) (windows_of m a)
    ∙ sym (length-map old.left (numbered fits) ∙ ap length was.left
    ∙ columns_have_places.count (left_entry (is_allowed_along covered m) m a) (windows_of m a)) in
    subst AreEarlier (sym (left_of _ _ _ _ _ _ e))
    (each_merged (λ k near. near.index < k) (numbered_slots fits old.left) p.left long
    (each_numbered fits (λ k near. near.index < k) old.left kept) (left_is_earlier (lie_along chosen) m a))

pub found_later : (fits : Near → Bool) (m : ℕ) (items : List Sample) (covered chosen : List ℕ) (old found : Profiled)
    → IsAlongCovered m items covered old
    → IsFoundOf fits m items chosen old found
    → AreLater (windows_of m (series_of items)) found.right
found_later fits m items covered chosen old found was e =
    let a = series_of items in
    let w = windows_of m a in
    let p = profile (lie_along chosen) m a in
    let kept : AreLater w old.right =
    subst (AreLater w) (sym was.right) (right_is_later (is_allowed_along covered m) m a) in
    let long : length p.right ≡ length (numbered_slots fits old.right) =
    columns_have_places.count (right_entry (lie_along chosen) m a) w
    ∙ sym (length-map old.right (numbered fits) ∙ ap length was.right
    ∙ columns_have_places.count (right_entry (is_allowed_along covered m) m a) w) in
    subst (AreLater w) (sym (right_of _ _ _ _ _ _ e))
    (each_merged (λ k near. (k < near.index) × (near.index < w)) (numbered_slots fits old.right) p.right long
    (each_numbered fits (λ k near. (k < near.index) × (near.index < w)) old.right kept)
    (right_is_later (lie_along chosen) m a))

pub both_ways : (t : Bool) → t ≡ true → t ≡ false → ⊥
both_ways true p q = absurd (cc)
both_ways false p q = absurd (cc)

-- what is kept where no diagonal is covered
pub none_kept : (m count : ℕ) (items : List Sample) (coverage : Coverage) → windows (length items) m ≡ count
    → ◌≡◌ {A = Value} (coverage.profile.all ∷ coverage.profile.left ∷ coverage.profile.right ∷ [])
    (empty_columns 3 count)
    → coverage.covered.items ≡ [] → HavePlaces count coverage.sums → length coverage.limits.items ≡ count
    → coverage.are_limits_known ≡ false → AreWaiting m count [] coverage.waiting → count ≤ numbers
    → IsOf m items coverage
none_kept m count items coverage is value no_covered places limits unknown waiting few = record {
  listed = record {
    diagonals = subst (λ ds. All (IsDiagonal m (windows (length items) m)) ds) (sym no_covered)
        (λ k d lt. absurd (omega (arith, lt)));
    distinct = none_distinct coverage.covered.items no_covered;
    lasts = record { each = λ k lt. absurd (omega (arith, lt, ap length no_covered)) };
    places = subst (λ w. HavePlaces w coverage.sums) (sym is) places;
    limits_are = limits ∙ sym is;
    range = λ some. absurd (omega (arith, some, ap length no_covered));
    waiting = subst (λ ds. AreWaiting m (windows (length items) m) ds coverage.waiting) (sym no_covered)
        (subst (λ w. AreWaiting m w [] coverage.waiting) (sym is) waiting);
  };
  counted = subst (IsCounted m (windows (length items) m)) (sym no_covered)
      (none_counted m (windows (length items) m) (omega (arith, is, few)));
  profile = subst (λ ds. IsAlongCovered m items ds coverage.profile) (sym no_covered)
      (none_along m items coverage.profile (value ∙ ap (empty_columns 3) (sym is)));
  limits = λ known. absurd (both_ways coverage.are_limits_known known unknown);
}

-- ---- all that is kept, with one window more

-- a window was added, and its pairs are still to be taken
pub now_waiting : (m : ℕ) (items front : List Sample) (sample : Sample) (old grown : Coverage) (last : ℕ)
    → items ≡ front ++ sample ∷ [] → 1 ≤ m → m ≤ length items → last ≡ length old.profile.left
    → IsOf m front old
    → IsGrown m old grown → (0 < length old.covered.items → AreWithin old.range (numbers_in items))
    → IsWaiting m items last grown
now_waiting m items front sample old grown last e least long is was g range =
    let covered = old.covered.items in
    let many : length items ≡ length front + 1 = ap length e ∙ length-append front (sample ∷ []) in
    let place : last ≡ windows (length front) m = is ∙ kept_places m front covered old.profile was.profile in
    let all : All (IsDiagonal m last) covered =
    subst (λ w. All (IsDiagonal m w) covered) (sym place) was.listed.diagonals in
    let whole = series_with items front sample e in
    let before : AreSums m (series_of items) covered (last - 1) old.sums =
    subst (λ a. AreSums m a covered (last - 1) old.sums) (sym whole)
    (sums_front m last (series_of front) (reading_of sample) covered old.sums
    (series_are_of_samples.windows_are m front ∙ sym place) all
    (subst (λ w. AreSums m (series_of front) covered (w - 1) old.sums) (sym place) was.listed.lasts)) in
    record {
      within = omega (arith, many, place, least, long);
      diagonals = subst (λ ds. All (IsDiagonal m last) ds) (sym g.covered) all;
      distinct = subst AreDistinct (sym g.covered) was.listed.distinct;
      lasts = subst (λ ds. AreSums m (series_of items) ds (last - 1) grown.sums) (sym g.covered)
          (record {
            each = λ k lt.
                subst (λ s. IsSumAt m (series_of items) (last - 1 - slice_index covered k) (last - 1) s)
                (sym (g.sums (slice_index covered k) (omega (arith, (all k 0 lt).1, is)))) (before.each k lt);
          });
      places = subst (λ n. HavePlaces (n + 1) grown.sums) (sym is) g.places;
      limits_are = g.limits_are ∙ ap (λ n. n + 1) (was.listed.limits_are ∙ sym place);
      range = λ some. subst (λ (r : Range). AreWithin r (numbers_in items)) (sym g.range)
          (range (omega (arith, some, ap length g.covered)));
      waits = subst (λ ds. AreWaiting m (last + 1) ds grown.waiting) (sym g.covered)
          (subst (λ n. AreWaiting m (n + 1) covered grown.waiting) (sym is)
          (g.waits covered (subst (λ n. is_covered covered n ≡ false) is (not_covered m last covered all))
          (subst (λ n. AreWaiting m n covered old.waiting) (sym place ∙ is) was.listed.waiting)));
      windows_are = subst (λ n. HasEntries (n + 1) grown.profile) (sym is) g.windows_are;
      limits = λ known. g.limits (was.limits (sym g.known ∙ known));
    }

-- its pairs were taken
pub window_added : (grow : EntriesGrow) (m : ℕ) (items front : List Sample) (sample : Sample)
    (old grown new : Coverage) (last : ℕ) → items ≡ front ++ sample ∷ [] → 1 ≤ m → m ≤ length items
    → last ≡ length old.profile.left → IsOf m front old → IsGrown m old grown → IsWaiting m items last grown
    → IsExtended m items last grown new → length items ≤ numbers → IsOf m items new
window_added grow m items front sample old grown new last e least long is was g h x few =
    let covered = old.covered.items in
    let same : new.covered.items ≡ covered = x.covered ∙ g.covered in
    let a = series_of front in
    let s = reading_of sample in
    let many : length items ≡ length front + 1 = ap length e ∙ length-append front (sample ∷ []) in
    let place : last ≡ windows (length front) m = is ∙ kept_places m front covered old.profile was.profile in
    let more : windows (length items) m ≡ last + 1 = omega (arith, many, place, least, long) in
    let last_is : last ≡ last_place m items = omega (arith, more) in
    let counted : windows_of m a ≡ last = series_are_of_samples.windows_are m front ∙ sym place in
    let room : m ≤ length a + 1 = omega (arith, long, many, length-map front reading_of) in
    let whole = series_with items front sample e in
    let all : All (IsDiagonal m last) covered =
    subst (λ w. All (IsDiagonal m w) covered) (sym place) was.listed.diagonals in
    let scanned : IsScanned (is_last_pair covered last) m (series_of items) grown.profile new.profile =
    subst (λ ds. IsScanned (is_last_pair ds last) m (series_of items) grown.profile new.profile) g.covered x.scanned in
    let along : IsScanned (is_last_pair covered last) m (with_one a s) grown.profile new.profile =
    subst (λ (y : Series). IsScanned (is_last_pair covered last) m y grown.profile new.profile) whole scanned in
    record {
      listed = record {
        diagonals = subst (λ ds. All (IsDiagonal m (windows (length items) m)) ds) (sym same)
            (subst (λ w. All (IsDiagonal m w) covered) (sym more)
            (diagonals_stay m last (last + 1) covered (omega arith) all));
        distinct = subst AreDistinct (sym same) was.listed.distinct;
        lasts = subst (λ ds. AreSums m (series_of items) ds (last_place m items) new.sums) (sym x.covered)
            (subst (λ j. AreSums m (series_of items) grown.covered.items j new.sums) last_is x.lasts);
        places = subst (λ w. HavePlaces w new.sums) (sym more) x.places;
        limits_are = x.limits_are ∙ sym more;
        range = λ some. subst (λ (r : Range). AreWithin r (numbers_in items)) (sym x.range)
            (h.range (omega (arith, some, ap length x.covered)));
        waiting = subst (λ ds. AreWaiting m (windows (length items) m) ds new.waiting) (sym x.covered)
            (subst (λ w. AreWaiting m w grown.covered.items new.waiting) (sym more)
            (subst (AreWaiting m (last + 1) grown.covered.items) (sym x.waiting) h.waits));
      };
      counted = subst (IsCounted m (windows (length items) m)) (sym same)
          (subst (λ w. IsCounted m w covered) (sym more)
          (counted_more m last covered (omega (arith, more, least, long, few)) (not_covered m last covered all)
          (subst (λ w. IsCounted m w covered) (sym place) was.counted)));
      profile = subst (λ ds. IsAlongCovered m items ds new.profile) (sym same)
          (record {
            left = subst (λ (y : Series). new.profile.left ≡ (lazy_profile m covered y).left) (sym whole)
                (left_grows grow m last covered a s old.profile grown.profile new.profile room counted all
                was.profile.left g.left along);
            right = subst (λ (y : Series). new.profile.right ≡ (lazy_profile m covered y).right) (sym whole)
                (right_grows grow m last covered a s old.profile grown.profile new.profile room counted all
                was.profile.right g.right along);
          });
      limits = x.limits;
    }

-- a sample without a window changes nothing
pub sample_added : (m : ℕ) (items front : List Sample) (sample : Sample) (coverage : Coverage)
    → items ≡ front ++ sample ∷ [] → length items < m
    → (0 < length coverage.covered.items → AreWithin coverage.range (numbers_in items)) → IsOf m front coverage
    → IsOf m items coverage
sample_added m items front sample coverage e short range was =
    let many : length items ≡ length front + 1 = ap length e ∙ length-append front (sample ∷ []) in
    let none : windows (length front) m ≡ windows (length items) m = omega (arith, many, short) in
    let counted : windows_of m (series_of items) ≡ 0 =
    series_are_of_samples.windows_are m items ∙ omega (arith, short) in
    let before : windows_of m (series_of front) ≡ 0 =
    series_are_of_samples.windows_are m front ∙ omega (arith, many, short) in
    let covered = coverage.covered.items in
    record {
      listed = record {
        diagonals = subst (λ w. All (IsDiagonal m w) covered) none was.listed.diagonals;
        distinct = was.listed.distinct;
        lasts = record {
          each = λ k lt. absurd (omega (arith, (was.listed.diagonals k 0 lt).1, many, short));
        };
        places = subst (λ w. HavePlaces w coverage.sums) none was.listed.places;
        limits_are = was.listed.limits_are ∙ none;
        range = range;
        waiting = subst (λ w. AreWaiting m w covered coverage.waiting) none was.listed.waiting;
      };
      counted = subst (λ w. IsCounted m w covered) none was.counted;
      profile = record {
        left = was.profile.left ∙ ap (column (left_entry (is_allowed_along covered m) m (series_of front))) before
            ∙ sym (ap (column (left_entry (is_allowed_along covered m) m (series_of items))) counted);
        right = was.profile.right ∙ ap (column (right_entry (is_allowed_along covered m) m (series_of front))) before
            ∙ sym (ap (column (right_entry (is_allowed_along covered m) m (series_of items))) counted);
      };
      limits = was.limits;
    }

-- ---- a diagonal more

pub listed_more : (m : ℕ) (items : List Sample) (diagonal sum : ℕ) (old new : Coverage)
    → IsDiagonal m (windows (length items) m) diagonal → is_covered old.covered.items diagonal ≡ false
    → AreWithin old.range (numbers_in items) → IsListed m items old
    → new.covered.items ≡ old.covered.items ++ diagonal ∷ [] → IsPut diagonal sum old.sums new.sums
    → new.limits ≡ old.limits → new.range ≡ old.range
    → IsSumAt m (series_of items) (last_place m items - diagonal) (last_place m items) sum
    → AreWaiting m (windows (length items) m) (old.covered.items ++ diagonal ∷ []) new.waiting
    → IsListed m items new
listed_more m items diagonal sum old new is fresh within was more put limits range here waiting =
    let covered = old.covered.items in
    let last = last_place m items in
    let long = length-append covered (diagonal ∷ []) in
    record {
      diagonals = subst (λ ds. All (IsDiagonal m (windows (length items) m)) ds) (sym more)
          (diagonals_both m (windows (length items) m) covered (diagonal ∷ []) was.diagonals
          only_one);
      distinct = subst AreDistinct (sym more) (distinct_more covered diagonal was.distinct fresh);
      lasts = subst (λ ds. AreSums m (series_of items) ds last new.sums) (sym more)
          (record { each = λ k lt. placed k (omega (arith, lt, long)) });
      places = record { lowers = put.lowers ∙ was.places.lowers; uppers = put.uppers ∙ was.places.uppers };
      limits_are = ap (λ (l : Listed ℕ). length l.items) limits ∙ was.limits_are;
      range = λ _. subst (λ (r : Range). AreWithin r (numbers_in items)) (sym range) within;
      waiting = subst (λ ds. AreWaiting m (windows (length items) m) ds new.waiting) (sym more) waiting;
    }
  where
    only_one : (k d : ℕ) → k < length (diagonal ∷ [])
        → IsDiagonal m (windows (length items) m) (get_or (diagonal ∷ []) k d)
    only_one zero d lt = is
    only_one (suc k) d lt = absurd (omega (arith, lt))

    IsThere : ℕ → Type 0
    IsThere d = IsSumAt m (series_of items) (last_place m items - d) (last_place m items) (sum_in new.sums d)

    own : IsThere diagonal
    own = subst (λ s. IsSumAt m (series_of items) (last_place m items - diagonal) (last_place m items) s)
        (sym put.here)
        here

    kept : (d : ℕ) → IsSumAt m (series_of items) (last_place m items - d) (last_place m items) (sum_in old.sums d)
        → IsThere d
    kept d h = elim (cases_eq d diagonal) [
      | inl same ↦ subst IsThere (sym same) own
      | inr other ↦
          subst (λ s. IsSumAt m (series_of items) (last_place m items - d) (last_place m items) s)
          (sym (put.others d other)) h
    ]

    placed : (k : ℕ) → k < length old.covered.items + 1
        → IsThere (get_or (old.covered.items ++ diagonal ∷ []) k 0)
    placed k lt = elim (cases_lt k (length old.covered.items)) [
      | inl less ↦
          subst IsThere (sym (get_or-append old.covered.items (diagonal ∷ []) 0 k less))
          (kept (get_or old.covered.items k 0) (was.lasts.each k less))
      | inr ge ↦
          let at : length old.covered.items ≡ k = omega (arith, lt, ge) in
          subst IsThere
          (sym (ap (λ q. get_or (old.covered.items ++ diagonal ∷ []) q 0) (sym at)
          ∙ get_or-append_seam old.covered.items diagonal [] 0))
          own
    ]

-- ---- the range of the samples

pub wider_range : (range before : Range) (xs : List ℤ) → Reaches range before → AreWithin before xs
    → AreWithin range xs
wider_range range before xs wider h k lt =
    let is = h k lt in (omega (arith, ints, wider.0, is.0), omega (arith, ints, wider.1, is.1))

pub range_with : (items front : List Sample) (sample : Sample) (range before : Range)
    → items ≡ front ++ sample ∷ []
    → Reaches range before → IsInRange range (number_in sample) → AreWithin before (numbers_in front)
    → AreWithin range (numbers_in items)
range_with items front sample range before e wider here within k lt =
    subst (λ (xs : List ℤ). IsInRange range (get_or xs k (pos 0))) (sym numbers_are)
    (at (omega (arith, lt, ap length numbers_are, length-append (numbers_in front) (number_in sample ∷ []))))
  where
    numbers_are : numbers_in items ≡ numbers_in front ++ number_in sample ∷ []
    numbers_are = ap numbers_in e ∙ map-append number_in front (sample ∷ [])

    wide : (x : ℤ) → IsInRange before x → IsInRange range x
    wide x h = (omega (arith, ints, wider.0, h.0), omega (arith, ints, wider.1, h.1))

    at : k < length (numbers_in front) + 1
        → IsInRange range (get_or (numbers_in front ++ number_in sample ∷ []) k (pos 0))
    at less = elim (cases_lt k (length (numbers_in front))) [
      | inl lt' ↦
          subst (IsInRange range) (sym (get_or-append (numbers_in front) (number_in sample ∷ []) (pos 0) k lt'))
          (wide (get_or (numbers_in front) k (pos 0)) (within k lt'))
      | inr ge ↦
          let last : length (numbers_in front) ≡ k = omega (arith, less, ge) in
          subst (IsInRange range)
          (sym (ap (λ q. get_or (numbers_in front ++ number_in sample ∷ []) q (pos 0)) (sym last)
          ∙ get_or-append_seam (numbers_in front) (number_in sample) [] (pos 0)))
          here
    ]
