-- Samples that are read one after another, and the sums of pairs that are extended.
use Rattle.std.proofs.Common.{◌≡◌, ℕ, ◌+◌, ◌-◌, ◌^◌, ◌<◌, ◌≤◌, inl, inr, List, [], length}
use Rattle.std.proofs.Common.{get_or, set, take, drop, refl, sym, ap, ◌∙◌, arith, subst}
use Rattle.std.specs.Prelude.{min, pos, ℤ, Bool, ◌||◌, ◌&&◌, ◌==◌, true, false}
use Rattle.std.specs.Int.{abs_diff}
use Rattle.std.proofs.lemmas.Bool.Decides.{nat_tests}
use Rattle.std.proofs.lemmas.Bool.{cases_eq}
use Rattle.std.proofs.lemmas.List.{length-take, length-drop, length-map, get_or-take, get_or-drop, get_or-set_same}
use Rattle.std.proofs.lemmas.List.{get_or_default, get_or-set_other}
use Rattle.std.proofs.lemmas.List.Folds.{list_any-append, list_any_more}
use Rattle.std.proofs.Math.Seq.{take-add}
use Rattle.mp_nums.specs.declared.samples.Sample.{Sample}
use Rattle.mp_defs.specs.Series.{Series, series_of}
use Rattle.mp_defs.specs.Profile.{windows_of}
use Rattle.mp_partial.specs.Profiled.{Profiled}
use Rattle.mp_series.specs.Samples.{Counted, after_reads, number_in, numbers_in}
use Rattle.mp_defs.specs.Distance.{squared_difference}
use Rattle.mp_sums.specs.Sums.{numbers_of}
use Rattle.mp_sums.specs.SumLaws.{square_read}
use Rattle.mp_scans.specs.Offering.{only}
use Rattle.mp_tiles.specs.Scanning.{HasPlaces, IsScanned}
use Rattle.mp_tiles.specs.OfferingLaws.{each_to_other}
use Rattle.mp_results.specs.Covering.{is_covered}
use Rattle.mp_anytime.specs.Kept.{OnlyReads, is_last_pair, square_at}
use Rattle.mp_anytime.proofs.Distances.{number_same}

-- ---- reads

pub none_read : (s : Counted) → OnlyReads 0 s s
none_read s = record { items = refl; spare = refl; reads_rise = omega arith; reads = omega arith }

pub some_read : (s t : Counted) (n : ℕ) → t ≡ after_reads s n → s.reads < 2 ^ 128 → OnlyReads n s t
some_read s t n e small =
    let reads : t.reads ≡ min (s.reads + n) (2 ^ 128 - 1) = ap (λ (x : Counted). x.reads) e in
    record {
      items = ap (λ (x : Counted). x.items) e;
      spare = ap (λ (x : Counted). x.spare) e;
      reads_rise = omega (arith, reads, small);
      reads = omega (arith, reads);
    }

pub then_read : (s t u : Counted) (n k all : ℕ) → n + k ≡ all → OnlyReads n s t → OnlyReads k t u
    → OnlyReads all s u
then_read s t u n k all e h g = record {
  items = g.items ∙ h.items;
  spare = g.spare ∙ h.spare;
  reads_rise = omega (arith, h.reads_rise, g.reads_rise);
  reads = omega (arith, h.reads, g.reads, e);
}

pub fewer_read : (s t : Counted) (n k : ℕ) → n ≤ k → OnlyReads n s t → OnlyReads k s t
fewer_read s t n k le h = record {
  items = h.items;
  spare = h.spare;
  reads_rise = h.reads_rise;
  reads = omega (arith, h.reads, le);
}

-- the number of a sample that was lent
pub lent_number : (items : List Sample) (i : ℕ) → get_or (take 1 (drop i (numbers_in items))) 0 (pos 0)
    ≡ numbers_of (series_of items) i
lent_number items i =
    get_or-take 1 (drop i (numbers_in items)) 0 (pos 0) (omega arith)
    ∙ get_or-drop i (numbers_in items) 0 (pos 0)
    ∙ ap (λ k. get_or (numbers_in items) k (pos 0)) there
    ∙ number_same items i
  where
    there : i + 0 ≡ i
    there = omega arith

pub lent_some : (items : List Sample) (i : ℕ) (xs : List ℤ) → i < length items
    → xs ≡ take 1 (drop i (numbers_in items))
    → 0 < length xs
lent_some items i xs lt e =
    let long = length-map items number_in in
    omega (arith, ap length e, length-take 1 (drop i (numbers_in items)), length-drop i (numbers_in items), long, lt)

-- the one number that was lent
pub lent_one : (items : List Sample) (i : ℕ) (xs : List ℤ) (x : ℤ) → i < length items
    → xs ≡ take 1 (drop i (numbers_in items)) → x ≡ get_or xs 0 x → x ≡ numbers_of (series_of items) i
lent_one items i xs x lt e is =
    is ∙ get_or_default xs 0 x (pos 0) (lent_some items i xs lt e) ∙ ap (λ (l : List ℤ). get_or l 0 (pos 0)) e
    ∙ lent_number items i

-- the same of successive ones
pub lent_numbers : (items : List Sample) (i n k : ℕ) (xs : List ℤ) → xs ≡ take n (drop i (numbers_in items)) → k < n
    → get_or xs k (pos 0) ≡ numbers_of (series_of items) (i + k)
lent_numbers items i n k xs e lt =
    ap (λ (l : List ℤ). get_or l k (pos 0)) e
    ∙ get_or-take n (drop i (numbers_in items)) k (pos 0) lt ∙ get_or-drop i (numbers_in items) k (pos 0)
    ∙ number_same items (i + k)

pub lent_long : (items : List Sample) (i n : ℕ) (xs : List ℤ) → i + n ≤ length items
    → xs ≡ take n (drop i (numbers_in items)) → length xs ≡ n
lent_long items i n xs within e =
    let long = length-map items number_in in
    omega (
      arith,
      ap length e,
      length-take n (drop i (numbers_in items)),
      length-drop i (numbers_in items),
      long,
      within,
    )

-- the square of two numbers that were lent
pub lent_square : (items : List Sample) (i j square : ℕ) (xs ys : List ℤ) (x y : ℤ) → i < length items
    → j < length items
    → xs ≡ take 1 (drop i (numbers_in items)) → ys ≡ take 1 (drop j (numbers_in items)) → x ≡ get_or xs 0 x
    → y ≡ get_or ys 0 y → square ≡ squared_difference x y → square ≡ square_at (series_of items) i j
lent_square items i j square xs ys x y lt lt' e f x_is y_is is =
    square_read xs ys 0 0 square x y (lent_some items i xs lt e) (lent_some items j ys lt' f) x_is y_is is
    ∙ ap (λ z. squared_difference z (get_or ys 0 (pos 0)))
    (ap (λ (l : List ℤ). get_or l 0 (pos 0)) e ∙ lent_number items i)
    ∙ ap (squared_difference (numbers_of (series_of items) i))
    (ap (λ (l : List ℤ). get_or l 0 (pos 0)) f ∙ lent_number items j)

-- the same places
pub square_there : (a : Series) (i i' j j' : ℕ) → i ≡ i' → j ≡ j' → square_at a i j ≡ square_at a i' j'
square_there a i i' j j' e f = ap (λ n. square_at a n j) e ∙ ap (square_at a i') f

-- ---- the pairs of the last window

pub no_last_pair : (last m : ℕ) (a : Series) (p : Profiled) → HasPlaces (windows_of m a) p
    → IsScanned (is_last_pair [] last) m a p p
no_last_pair last m a p places =
    each_to_other.none m a a (is_last_pair [] last) p (places, refl) (λ i j. never (j == last))
  where
    never : (t : Bool) → (t && false) ≡ false
    never t = grind (arith, nat_tests)

pub last_pair_more : (covered : List ℕ) (k i last m : ℕ) (a : Series) (old mid new : Profiled)
    → k < length covered
    → i ≡ last - get_or covered k 0 → get_or covered k 0 < last → windows_of m a ≡ last + 1
    → HasPlaces (windows_of m a) old → IsScanned (is_last_pair (take k covered) last) m a old mid
    → IsScanned (only i last) m a mid new → IsScanned (is_last_pair (take (k + 1) covered) last) m a old new
last_pair_more covered k i last m a old mid new lt e within count places s t =
    each_to_other.same m a a (λ r c. is_last_pair (take k covered) last r c || only i last r c)
    (is_last_pair (take (k + 1) covered) last) old new (places, refl)
    (each_to_other.both m a a (is_last_pair (take k covered) last) (only i last) old mid new s t)
    (λ r c lt' _. one_more r c (omega (arith, lt', count)))
  where
    by_test : (t r c d : ℕ) (was : Bool) → t < r + 1 → d < r → (((c == r) && was) || ((t == r - d) && (c == r)))
        ≡ ((c == r) && (was || (d == abs_diff t c)))
    by_test t r c d was lt less = grind (arith, nat_tests)

    one_more : (r c : ℕ) → r < last + 1 → (is_last_pair (take k covered) last r c || only i last r c)
        ≡ is_last_pair (take (k + 1) covered) last r c
    one_more r c less =
        ap (λ n. is_last_pair (take k covered) last r c || ((r == n) && (c == last))) e
        ∙ by_test r last c (get_or covered k 0) (is_covered (take k covered) (abs_diff r c)) less within
        ∙ ap (λ t. (c == last) && t) (sym (list_any_more (λ other. other == abs_diff r c) covered k 0 lt))

-- the same with those of a part more
pub last_pairs_more : (covered : List ℕ) (first count last m : ℕ) (a : Series) (old mid new : Profiled)
    → HasPlaces (windows_of m a) old → IsScanned (is_last_pair (take first covered) last) m a old mid
    → IsScanned (is_last_pair (take count (drop first covered)) last) m a mid new
    → IsScanned (is_last_pair (take (first + count) covered) last) m a old new
last_pairs_more covered first count last m a old mid new places s t =
    each_to_other.same m a a
    (λ r c. is_last_pair (take first covered) last r c || is_last_pair (take count (drop first covered)) last r c)
    (is_last_pair (take (first + count) covered) last) old new (places, refl)
    (each_to_other.both m a a (is_last_pair (take first covered) last)
    (is_last_pair (take count (drop first covered)) last) old mid new s t)
    (λ r c _ _. joined (c == last) (is_covered (take first covered) (abs_diff r c))
    (is_covered (take count (drop first covered)) (abs_diff r c))
    (is_covered (take (first + count) covered) (abs_diff r c))
    (ap (λ ds. is_covered ds (abs_diff r c)) (take-add first count covered)
    ∙ list_any-append (λ other. other == abs_diff r c) (take first covered) (take count (drop first covered))))
  where
    joined : (t u v w : Bool) → w ≡ (u || v) → ((t && u) || (t && v)) ≡ (t && w)
    joined true u v w e = sym e
    joined false u v w e = refl

-- ---- one place of a list that is written

pub set_more : {A : Type 0} (none : A) (P : ℕ → A → Type 0) (xs : List A) (t : ℕ) (y : A) → t < length xs
    → ((q : ℕ) → q < t → P q (get_or xs q none)) → P t y → (q : ℕ) → q < t + 1
    → P q (get_or (set xs t y) q none)
set_more none P xs t y lt before here q below = elim (cases_eq q t) [
  | inl same ↦ subst (λ p. P p (get_or (set xs t y) p none)) (sym same)
      (subst (P t) (sym (get_or-set_same xs t y none lt)) here)
  | inr other ↦ subst (P q) (sym (get_or-set_other xs t q y none other)) (before q (omega (arith, below, other)))
]

pub set_behind : (xs : List ℕ) (t y q : ℕ) → t + 1 ≤ q → get_or (set xs t y) q 0 ≡ get_or xs q 0
set_behind xs t y q le = get_or-set_other xs t q y 0 (λ e. omega (arith, le, e))
