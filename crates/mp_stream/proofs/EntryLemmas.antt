-- What one more sample makes of the entries of a series.
use Rattle.std.proofs.Common.{◌≡◌, ℕ, zero, suc, ◌+◌, ◌-◌, ◌<◌, ◌≤◌, inl, inr, List, [], ◌∷◌, ◌++◌, length, get_or}
use Rattle.std.proofs.Common.{Bool}
use Rattle.std.proofs.Common.{true, false, refl, sym, ap, ◌∙◌, arith, subst}
use Rattle.std.specs.Prelude.{Option, Some, None, if◌then◌else◌, ◌&&◌, nat_lt, slice_get, ℤ, is_some}
use Rattle.std.proofs.lemmas.Bool.{cases_lt}
use Rattle.std.proofs.lemmas.Bool.Decides.{nat_tests}
use Rattle.std.proofs.lemmas.List.{length_push}
use Rattle.mp_nums.specs.declared.nearest.Near.{Near}
use Rattle.mp_nums.specs.Near.{nearer_of}
use Rattle.mp_nums.specs.NearLaws.{nearer_with_none}
use Rattle.mp_defs.specs.Series.{Series, present, number_at}
use Rattle.mp_defs.specs.Window.{is_free, excl, is_allowed}
use Rattle.mp_defs.specs.Distance.{squared_difference, square_between, plus, distance}
use Rattle.mp_defs.specs.DistanceLaws.{grows_by_one_sample, symmetric}
use Rattle.mp_defs.specs.Least.{near, near_at, at_distance, candidate}
use Rattle.mp_defs.specs.LeastLaws.{grows_by_one_candidate, near_same, near_none}
use Rattle.mp_defs.specs.Profile.{nearest, left_entry, right_entry, windows_of}
use Rattle.mp_stream.specs.Rows.{IsTaken, row_candidate, lowered, sum_at}
use Rattle.mp_sums.specs.Sums.{filled}
use Rattle.mp_stream.specs.Appended.{with_one, AreNumbers, EntriesGrow}
use Rattle.mp_stream.proofs.SumLemmas.{sum_none, sum_more}

-- ---- one sample more

get_front : {X : Type 0} (xs ys : List X) (i : ℕ) → i < length xs → slice_get (xs ++ ys) i ≡ slice_get xs i
get_front [] ys i lt = absurd (omega arith)
get_front (x ∷ xs) ys zero lt = refl
get_front (x ∷ xs) ys (suc i) lt = get_front xs ys i (omega arith)

number_front : (a : Series) (s : Option ℤ) (i : ℕ) → i < length a → number_at (a ++ s ∷ []) i ≡ number_at a i
number_front a s i lt = ap present (get_front a (s ∷ []) i lt)

pub free_front : (m : ℕ) (a : Series) (s : Option ℤ) (i : ℕ) → i + m ≤ length a
    → is_free m (with_one a s) i ≡ is_free m a i
free_front zero a s i le =
    grows_by_one_sample.free_at_first (with_one a s) i ∙ sym (grows_by_one_sample.free_at_first a i)
free_front (suc m) a s i le =
    let one : m + 1 ≡ suc m = omega arith in
    subst (λ n. is_free n (with_one a s) i ≡ is_free n a i) one
    (rw (
      grows_by_one_sample.one_more_free m (with_one a s) i,
      grows_by_one_sample.one_more_free m a i,
      free_front m a s i (omega arith),
      number_front a s (i + m) (omega arith),
    ) refl)

distance_front : (m : ℕ) (a : Series) (s : Option ℤ) (i k : ℕ) → i + m ≤ length a → k + m ≤ length a
    → distance m (a ++ s ∷ []) i (a ++ s ∷ []) k ≡ distance m a i a k
distance_front zero a s i k le le' =
    grows_by_one_sample.no_samples (a ++ s ∷ []) i (a ++ s ∷ []) k
    ∙ sym (grows_by_one_sample.no_samples a i a k)
distance_front (suc m) a s i k le le' =
    let one : m + 1 ≡ suc m = omega arith in
    subst (λ n. distance n (a ++ s ∷ []) i (a ++ s ∷ []) k ≡ distance n a i a k) one
    (rw (
      grows_by_one_sample.one_more m (a ++ s ∷ []) i (a ++ s ∷ []) k,
      grows_by_one_sample.one_more m a i a k,
      distance_front m a s i k (omega arith) (omega arith),
      number_front a s (i + m) (omega arith),
      number_front a s (k + m) (omega arith),
    ) refl)

-- ---- a distance by the sum

one_more : (f g : Bool) (s : ℕ) (x y : Option ℤ)
    → plus (if f && g then Some s else None) (square_between x y)
    ≡ (if (f && is_some x) && (g && is_some y) then Some (s + squared_difference (filled x) (filled y)) else None)
one_more true true s None y = refl
one_more true true s (Some x) None = refl
one_more true true s (Some x) (Some y) = refl
one_more true false s None y = refl
one_more true false s (Some x) y = refl
one_more false g s x y = refl

pub distance_by_sum : (m : ℕ) (a : Series) (xs : List ℤ) (i k : ℕ) → AreNumbers a xs
    → distance m a i a k ≡ (if is_free m a i && is_free m a k then Some (sum_at xs m i k) else None)
distance_by_sum zero a xs i k are =
    rw (
      grows_by_one_sample.no_samples a i a k,
      grows_by_one_sample.free_at_first a i,
      grows_by_one_sample.free_at_first a k,
      sum_none xs i k,
    ) refl
distance_by_sum (suc m) a xs i k are =
    let one : m + 1 ≡ suc m = omega arith in
    subst (λ n. distance n a i a k ≡ (if is_free n a i && is_free n a k then Some (sum_at xs n i k) else None)) one
    (rw (
      grows_by_one_sample.one_more m a i a k,
      distance_by_sum m a xs i k are,
      grows_by_one_sample.one_more_free m a i,
      grows_by_one_sample.one_more_free m a k,
      sum_more xs m i k,
      are (i + m),
      are (k + m),
    )
    (one_more (is_free m a i) (is_free m a k) (sum_at xs m i k) (number_at a (i + m)) (number_at a (k + m))))

-- ---- the least of candidates

near_more : (c : ℕ → Option Near) (n : ℕ) → near c (n + 1) ≡ nearer_of (near c n) (c n)
near_more c n = grows_by_one_candidate.one_more c n

pub with_none : (x : Option Near) → nearer_of x None ≡ x
with_none x = (nearer_with_none x).1

-- no candidates from k on
pub near_front : (c : ℕ → Option Near) (k n : ℕ) → ((j : ℕ) → k ≤ j → j < k + n → c j ≡ None)
    → near c (k + n) ≡ near c k
near_front c k zero h = let same : k ≡ k + 0 = omega arith in subst (λ x. near c x ≡ near c k) same refl
near_front c k (suc n) h =
    let same : k + n + 1 ≡ k + suc n = omega arith in
    subst (λ x. near c x ≡ near c k) same
    (near_more c (k + n) ∙ ap (nearer_of (near c (k + n))) (h (k + n) (omega arith) (omega arith))
    ∙ with_none (near c (k + n)) ∙ near_front c k n (λ j low lt. h j low (omega (arith, lt))))

-- ---- entries by any test of pairs

pub windows_more : (m : ℕ) (a : Series) (s : Option ℤ) → m ≤ length a + 1
    → windows_of m (with_one a s) ≡ windows_of m a + 1
windows_more m a s le = let e = length_push a s in omega (arith, e)

-- the nearest of windows that may be chosen, with one window more
nearest_more : (m : ℕ) (may : ℕ → Bool) (a : Series) (s : Option ℤ) (i : ℕ) → m ≤ length a + 1 → i < windows_of m a
    → nearest m may (with_one a s) i (with_one a s)
    ≡ nearer_of (nearest m may a i a) (candidate may (λ j. distance m (with_one a s) i (with_one a s) j)
    (windows_of m a))
nearest_more m may a s i le lt =
    let b = with_one a s in
    let w = windows_of m a in
    ap (near (candidate may (λ j. distance m b i b j))) (windows_more m a s le)
    ∙ near_more (candidate may (λ j. distance m b i b j)) w
    ∙ ap (λ x. nearer_of x (candidate may (λ j. distance m b i b j) w))
    (near_same (candidate may (λ j. distance m b i b j)) (candidate may (λ j. distance m a i a j)) w
    (λ j below. ap (λ d. if may j then at_distance j d else None)
    (distance_front m a s i j (omega arith) (omega (arith, below)))))

not_if : (t : Bool) (i j : ℕ) → j ≤ i → (t && nat_lt i j) ≡ false
not_if t i j le = grind (arith, nat_tests)

pub left_stays : (may : ℕ → ℕ → Bool) (m : ℕ) (a : Series) (s : Option ℤ) (i : ℕ) → m ≤ length a + 1
    → i < windows_of m a → left_entry may m (with_one a s) i ≡ left_entry may m a i
left_stays may m a s i le lt =
    let b = with_one a s in
    let w = windows_of m a in
    nearest_more m (λ j. may i j && nat_lt j i) a s i le lt
    ∙ ap (λ t. nearer_of (left_entry may m a i) (if t then at_distance w (distance m b i b w) else None))
    (not_if (may i w) w i (omega arith))
    ∙ with_none (left_entry may m a i)

pub right_last : (may : ℕ → ℕ → Bool) (m : ℕ) (a : Series) (s : Option ℤ) → m ≤ length a + 1
    → right_entry may m (with_one a s) (windows_of m a) ≡ None
right_last may m a s le =
    let b = with_one a s in
    let w = windows_of m a in
    let more = windows_more m a s le in
    near_none (candidate (λ j. may w j && nat_lt w j) (λ j. distance m b w b j)) (windows_of m b)
    (λ j lt. ap (λ t. if t then at_distance j (distance m b w b j) else None)
    (not_if (may w j) w j (omega (arith, lt, more))))

pub entries_grow : EntriesGrow
entries_grow = record {
  windows = windows_more;
  left = left_stays;
  right = λ may m a s i. nearest_more m (λ j. may i j && nat_lt i j) a s i;
  last_right = right_last;
}

-- ---- right entries outside the exclusion zone

may_right : (m i w : ℕ) → i + excl m < w → (is_allowed m i w && nat_lt i w) ≡ true
may_right m i w lt = grind (arith, nat_tests)

may_not : (m i w : ℕ) → i < w → w ≤ i + excl m → (is_allowed m i w && nat_lt i w) ≡ false
may_not m i w lt le = grind (arith, nat_tests)

pub taken_if : (f g : Bool) (old : Option Near) (j d : ℕ) → g ≡ true
    → nearer_of old (at_distance j (if f && g then Some d else None))
    ≡ (if f then nearer_of old (Some (near_at j d)) else old)
taken_if true true old j d e = refl
taken_if false true old j d e = with_none old
taken_if true false old j d e = absurd (cc)
taken_if false false old j d e = with_none old

right_more : (m : ℕ) (a : Series) (s : Option ℤ) (xs : List ℤ) (free : List Bool) (i : ℕ) → m ≤ length a + 1
    → i + excl m < windows_of m a → AreNumbers (with_one a s) xs
    → get_or free i false ≡ is_free m (with_one a s) i → is_free m (with_one a s) (windows_of m a) ≡ true
    → lowered free (λ k. sum_at xs m k (windows_of m a)) (windows_of m a) i (right_entry (is_allowed m) m a i)
    ≡ right_entry (is_allowed m) m (with_one a s) i
right_more m a s xs free i le lt are e f =
    let b = with_one a s in
    let w = windows_of m a in
    let old = right_entry (is_allowed m) m a i in
    sym (nearest_more m (λ j. is_allowed m i j && nat_lt i j) a s i le (omega arith)
    ∙ ap (λ t. nearer_of old (if t then at_distance w (distance m b i b w) else None)) (may_right m i w lt)
    ∙ ap (λ d. nearer_of old (at_distance w d)) (distance_by_sum m b xs i w are)
    ∙ taken_if (is_free m b i) (is_free m b w) old w (sum_at xs m i w) f
    ∙ ap (λ t. if t then nearer_of old (Some (near_at w (sum_at xs m i w))) else old) (sym e))

right_stays : (m : ℕ) (a : Series) (s : Option ℤ) (i : ℕ) → m ≤ length a + 1 → i < windows_of m a
    → windows_of m a ≤ i + excl m → right_entry (is_allowed m) m a i ≡ right_entry (is_allowed m) m (with_one a s) i
right_stays m a s i le lt near_by =
    let b = with_one a s in
    let w = windows_of m a in
    let old = right_entry (is_allowed m) m a i in
    sym (nearest_more m (λ j. is_allowed m i j && nat_lt i j) a s i le lt
    ∙ ap (λ t. nearer_of old (if t then at_distance w (distance m b i b w) else None)) (may_not m i w lt near_by)
    ∙ with_none old)

-- the right column after the offers is that of the series with its new sample
pub right_entries : (m : ℕ) (a : Series) (s : Option ℤ) (xs : List ℤ) (free : List Bool) (old new : List (Option Near))
    → m ≤ length a + 1 → AreNumbers (with_one a s) xs
    → ((i : ℕ) → i < windows_of m a + 1 → get_or free i false ≡ is_free m (with_one a s) i)
    → is_free m (with_one a s) (windows_of m a) ≡ true
    → ((i : ℕ) → i < windows_of m a → get_or old i None ≡ right_entry (is_allowed m) m a i)
    → get_or old (windows_of m a) None ≡ None
    → IsTaken free (λ i. sum_at xs m i (windows_of m a)) (windows_of m a) 0 (windows_of m a - excl m) old new
    → (i : ℕ) → i < windows_of m a + 1 → get_or new i None ≡ right_entry (is_allowed m) m (with_one a s) i
right_entries m a s xs free old new le are frees last before none h i lt =
    let w = windows_of m a in
    elim (cases_lt i (w - excl m)) [
      | inl within ↦ h.within i (omega arith) within
          ∙ ap (lowered free (λ k. sum_at xs m k w) w i) (before i (omega (arith, within)))
          ∙ right_more m a s xs free i le (omega (arith, within)) are (frees i lt) last
      | inr behind ↦ h.behind i behind ∙ elim (cases_lt i w) [
        | inl less ↦ before i less ∙ right_stays m a s i le less (omega (arith, behind))
        | inr ge ↦ let same : w ≡ i = omega (arith, ge, lt) in
            subst (λ k. get_or old k None ≡ right_entry (is_allowed m) m (with_one a s) k) same
            (none ∙ sym (right_last (is_allowed m) m a s le))
      ]
    ]

pub right_if : (t : Bool) (w : ℕ) (x : Option ℕ) (old : Option Near) → x ≡ None
    → nearer_of old (if t then at_distance w x else None) ≡ old
right_if true w None old e = with_none old
right_if true w (Some d) old e = absurd (cc)
right_if false w x old e = with_none old

pub none_if : (f g : Bool) (d : ℕ) → g ≡ false → (if f && g then Some d else None) ≡ None
none_if true true d e = absurd (cc)
none_if true false d e = refl
none_if false g d e = refl

-- where the last window isn't free, nothing changes
pub right_entries_stay : (m : ℕ) (a : Series) (s : Option ℤ) (xs : List ℤ) (old : List (Option Near))
    → m ≤ length a + 1 → AreNumbers (with_one a s) xs → is_free m (with_one a s) (windows_of m a) ≡ false
    → ((i : ℕ) → i < windows_of m a → get_or old i None ≡ right_entry (is_allowed m) m a i)
    → get_or old (windows_of m a) None ≡ None
    → (i : ℕ) → i < windows_of m a + 1 → get_or old i None ≡ right_entry (is_allowed m) m (with_one a s) i
right_entries_stay m a s xs old le are last before none i lt =
    let b = with_one a s in
    let w = windows_of m a in
    let here = right_entry (is_allowed m) m a i in
    elim (cases_lt i w) [
      | inl less ↦ before i less
          ∙ sym (nearest_more m (λ j. is_allowed m i j && nat_lt i j) a s i le less
          ∙ right_if (is_allowed m i w && nat_lt i w) w (distance m b i b w) here
          (distance_by_sum m b xs i w are ∙ none_if (is_free m b i) (is_free m b w) (sum_at xs m i w) last))
      | inr ge ↦ let same : w ≡ i = omega (arith, ge, lt) in
          subst (λ k. get_or old k None ≡ right_entry (is_allowed m) m (with_one a s) k) same
          (none ∙ sym (right_last (is_allowed m) m a s le))
    ]

-- ---- the left entry of the last window

may_left : (m w k : ℕ) → k + excl m < w → (is_allowed m w k && nat_lt k w) ≡ true
may_left m w k lt = grind (arith, nat_tests)

may_not_left : (m w k : ℕ) → w ≤ k + excl m → (is_allowed m w k && nat_lt k w) ≡ false
may_not_left m w k le = grind (arith, nat_tests)

pub candidate_if : (f g : Bool) (j d : ℕ) → g ≡ true
    → at_distance j (if f && g then Some d else None) ≡ (if f then Some (near_at j d) else None)
candidate_if true true j d e = refl
candidate_if false g j d e = refl
candidate_if true false j d e = absurd (cc)

-- the best of the row is that of the last window
pub left_last : (m : ℕ) (a : Series) (s : Option ℤ) (xs : List ℤ) (free : List Bool) → m ≤ length a + 1
    → AreNumbers (with_one a s) xs
    → ((i : ℕ) → i < windows_of m a + 1 → get_or free i false ≡ is_free m (with_one a s) i)
    → is_free m (with_one a s) (windows_of m a) ≡ true
    → near (row_candidate free (λ i. sum_at xs m i (windows_of m a))) (windows_of m a - excl m)
    ≡ left_entry (is_allowed m) m (with_one a s) (windows_of m a)
left_last m a s xs free le are frees last =
    let b = with_one a s in
    let w = windows_of m a in
    let end = w - excl m in
    let c = candidate (λ k. is_allowed m w k && nat_lt k w) (λ k. distance m b w b k) in
    let rest : end + (w + 1 - end) ≡ windows_of m b = omega (arith, windows_more m a s le) in
    sym (subst (λ n. near c n ≡ near c end) rest (near_front c end (w + 1 - end)
    (λ k low lt. ap (λ t. if t then at_distance k (distance m b w b k) else None)
    (may_not_left m w k (omega (arith, low)))))
    ∙ near_same c (row_candidate free (λ i. sum_at xs m i w)) end
    (λ k lt. ap (λ t. if t then at_distance k (distance m b w b k) else None) (may_left m w k (omega (arith, lt)))
    ∙ ap (at_distance k) (symmetric m b w b k ∙ distance_by_sum m b xs k w are)
    ∙ candidate_if (is_free m b k) (is_free m b w) k (sum_at xs m k w) last
    ∙ ap (λ t. if t then Some (near_at k (sum_at xs m k w)) else None) (sym (frees k (omega (arith, lt))))))

left_if : (t : Bool) (k : ℕ) (x : Option ℕ) → x ≡ None → (if t then at_distance k x else None) ≡ None
left_if true k None e = refl
left_if true k (Some d) e = absurd (cc)
left_if false k x e = refl

-- a last window that isn't free has none
pub left_last_none : (m : ℕ) (a : Series) (s : Option ℤ) (xs : List ℤ) → m ≤ length a + 1
    → AreNumbers (with_one a s) xs → is_free m (with_one a s) (windows_of m a) ≡ false
    → left_entry (is_allowed m) m (with_one a s) (windows_of m a) ≡ None
left_last_none m a s xs le are last =
    let b = with_one a s in
    let w = windows_of m a in
    near_none (candidate (λ k. is_allowed m w k && nat_lt k w) (λ k. distance m b w b k)) (windows_of m b)
    (λ k lt. left_if (is_allowed m w k && nat_lt k w) k (distance m b w b k)
    (symmetric m b w b k ∙ distance_by_sum m b xs k w are
    ∙ none_if (is_free m b k) (is_free m b w) (sum_at xs m k w) last))
