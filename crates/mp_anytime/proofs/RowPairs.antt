-- The pairs of the last window, by their diagonals.
use Rattle.std.proofs.Common.{◌≡◌, ℕ, ◌+◌, ◌-◌, ◌^◌, ◌<◌, ◌≤◌, inl, inr, List, []}
use Rattle.std.proofs.Common.{◌∷◌, ◌++◌, length, get_or, set}
use Rattle.std.proofs.Common.{refl, sym, ap, ◌∙◌}
use Rattle.std.proofs.Common.{arith, subst, Bool, true, false}
use Rattle.std.proofs.Math.Bool.{not}
use Rattle.std.specs.Prelude.{Option, Some, None, All, ◌==◌, ◌&&◌, ◌||◌, nat_le, nat_lt}
use Rattle.std.specs.Int.{abs_diff}
use Rattle.std.proofs.Math.ListN.{get_or-append}
use Rattle.std.proofs.Math.Seq.{get_or-append_seam}
use Rattle.std.proofs.lemmas.Bool.{cases_eq, cases_lt}
use Rattle.std.proofs.lemmas.Bool.Decides.{nat_tests}
use Rattle.std.proofs.lemmas.List.{get_or-set_same, get_or-set_other, length-append, length-set}
use Rattle.mp_nums.specs.declared.nearest.Near.{Near}
use Rattle.mp_nums.specs.declared.samples.Sample.{Sample}
use Rattle.mp_nums.specs.Near.{nearer_of}
use Rattle.mp_defs.specs.Series.{series_of}
use Rattle.mp_defs.specs.SeriesLaws.{series_are_of_samples}
use Rattle.mp_defs.specs.Window.{excl}
use Rattle.mp_defs.specs.Distance.{distance}
use Rattle.mp_defs.specs.Profile.{windows_of}
use Rattle.mp_series.specs.Samples.{numbers_in}
use Rattle.mp_sums.specs.Sums.{numbers_of, square_sum}
use Rattle.mp_sums.specs.SumLaws.{distances_are_sums}
use Rattle.mp_partial.specs.Profiled.{Profiled}
use Rattle.mp_partial.specs.Values.{Column, merged_column, offered}
use Rattle.mp_results.specs.Covering.{is_covered, is_uncovered}
use Rattle.mp_scans.specs.Offering.{only}
use Rattle.mp_scans.specs.Slots.{Covers}
use Rattle.mp_tiles.specs.OfferingLaws.{each_to_other}
use Rattle.mp_tiles.specs.Scanning.{HasPlaces, IsScanned}
use Rattle.mp_anytime.specs.Kept.{AreSums, IsDiagonal, IsSumAt, is_last_pair}
use Rattle.mp_anytime.specs.Limits.{AreLimits, limit_of}
use Rattle.mp_anytime.specs.Offers.{ChangesAt, IsCoveredWithin, IsMovedSum, IsReady, IsRow, is_last_from}
use Rattle.mp_anytime.specs.Sums.{HavePlaces, LieClose, sum_in}
use Rattle.mp_anytime.specs.Waiting.{AreWaiting}
use Rattle.mp_anytime.specs.declared.sums.Sums.{Sums}
use Rattle.mp_results.specs.Reversal.{numbers}
use Rattle.mp_anytime.proofs.Distinct.{each_covered}
use Rattle.mp_anytime.proofs.LazyLemmas.{outside_zone}
use Rattle.mp_anytime.proofs.Quiet.{quiet_pairs}
use Rattle.mp_anytime.proofs.RowSums.{no_upper, small_sum}
use Rattle.mp_anytime.proofs.Scans.{still_places}
use Rattle.mp_anytime.proofs.Windows.{both_ways, not_covered}

-- ---- limits

-- what isn't below the limit of a slot gives it nothing
pub beyond_limit : (slot : Option Near) (index d : ℕ) → limit_of slot ≤ d → d < 2 ^ 63 → Covers slot index d
beyond_limit None index d le lt = absurd (omega (arith, le, lt))
beyond_limit (Some near) index d le lt = farther near index d (omega (arith, le, lt))
  where
    farther : (near : Near) (index d : ℕ) → near.dist.0 < d → Covers (Some near) index d
    farther near index d lt = grind (arith, nat_tests)

pub limit_is_small : (slot : Option Near) → limit_of slot ≤ 2 ^ 63
limit_is_small None = omega arith
limit_is_small (Some near) = omega arith

pub small_limits : (column : Column) (limits : List ℕ) → AreLimits column limits → (i : ℕ) → i < length limits
    → get_or limits i 0 ≤ 2 ^ 63
small_limits column limits h i lt =
    subst (λ n. n ≤ 2 ^ 63) (sym (h.each i (omega (arith, lt, h.places)))) (limit_is_small (get_or column i None))

pub offered_changes : (place : ℕ) (old new : Column) (near : Near) → new ≡ offered old place near
    → ChangesAt place old new
offered_changes place old new near e =
    let found = nearer_of (get_or old place None) (Some near) in
    record {
      places = ap length e ∙ length-set old place found;
      others = λ q ne. ap (λ (c : Column). get_or c q None) e ∙ get_or-set_other old place q found None ne;
    }

-- the limit of the place that changed is found anew
limits_set : (place limit : ℕ) (old new : Column) (limits : List ℕ) → place < length old → AreLimits old limits
    → ChangesAt place old new → limit ≡ limit_of (get_or new place None)
    → AreLimits new (set limits place limit)
limits_set place limit old new limits lt h changed is = record {
  places = length-set limits place limit ∙ h.places ∙ sym changed.places;
  each = λ q less. elim (cases_eq q place) [
    | inl same ↦
        subst (λ p. get_or (set limits place limit) p 0 ≡ limit_of (get_or new p None)) (sym same)
        (get_or-set_same limits place limit 0 (omega (arith, lt, h.places)) ∙ is)
    | inr other ↦
        get_or-set_other limits place q limit 0 other ∙ h.each q (omega (arith, less, changed.places))
        ∙ ap limit_of (sym (changed.others q other))
  ];
}

-- a window more, of which nothing was found
pub limits_more : (old new : Column) (limits more : List ℕ) → new ≡ old ++ None ∷ []
    → more ≡ limits ++ 2 ^ 63 ∷ []
    → AreLimits old limits → AreLimits new more
limits_more old new limits more e f h =
    let long = ap length e ∙ length-append old (None ∷ []) in
    let many = ap length f ∙ length-append limits (2 ^ 63 ∷ []) in
    record {
      places = omega (arith, long, many, h.places);
      each = λ i lt. at i (omega (arith, lt, long));
    }
  where
    at : (i : ℕ) → i < length old + 1 → get_or more i 0 ≡ limit_of (get_or new i None)
    at i less = elim (cases_lt i (length old)) [
      | inl lt ↦
          ap (λ (l : List ℕ). get_or l i 0) f
          ∙ get_or-append limits (2 ^ 63 ∷ []) 0 i (omega (arith, lt, h.places)) ∙ h.each i lt
          ∙ ap limit_of (sym (ap (λ (c : Column). get_or c i None) e ∙ get_or-append old (None ∷ []) None i lt))
      | inr ge ↦
          let here : length old ≡ i = omega (arith, less, ge) in
          ap (λ (l : List ℕ). get_or l i 0) f
          ∙ ap (λ q. get_or (limits ++ 2 ^ 63 ∷ []) q 0) (sym (h.places ∙ here))
          ∙ get_or-append_seam limits (2 ^ 63) [] 0
          ∙ ap limit_of (sym (ap (λ (c : Column). get_or c i None) e
          ∙ ap (λ q. get_or (old ++ None ∷ []) q None) (sym here) ∙ get_or-append_seam old None [] None))
    ]

-- ---- windows

pub grown_places : (old new : Profiled) → length old.all ≡ length old.left → length old.right ≡ length old.left
    → new.all ≡ old.all ++ None ∷ [] → new.left ≡ old.left ++ None ∷ []
    → new.right ≡ old.right ++ None ∷ []
    → HasPlaces (length old.left + 1) new
grown_places old new all right e f g = record {
  all = omega (arith, all, ap length e ∙ length-append old.all (None ∷ []));
  sides = record {
    left = ap length f ∙ length-append old.left (None ∷ []);
    right = omega (arith, right, ap length g ∙ length-append old.right (None ∷ []));
  };
}

pub row_count : (m : ℕ) (items : List Sample) (last : ℕ) → 1 ≤ m → last + m ≡ length items
    → windows_of m (series_of items) ≡ last + 1
row_count m items last some within = series_are_of_samples.windows_are m items ∙ omega (arith, within, some)

pub row_places : (m : ℕ) (items : List Sample) (last : ℕ) (p : Profiled) → 1 ≤ m → last + m ≡ length items
    → HasPlaces (last + 1) p → HasPlaces (windows_of m (series_of items)) p
row_places m items last p some within places =
    subst (λ w. HasPlaces w p) (sym (row_count m items last some within)) places

places_back : (m : ℕ) (items : List Sample) (last : ℕ) (p : Profiled) → 1 ≤ m → last + m ≡ length items
    → HasPlaces (windows_of m (series_of items)) p → HasPlaces (last + 1) p
places_back m items last p some within places =
    subst (λ w. HasPlaces w p) (row_count m items last some within) places

pub scanned_places : (m : ℕ) (items : List Sample) (last : ℕ) (pairs : ℕ → ℕ → Bool) (old new : Profiled)
    → 1 ≤ m
    → last + m ≡ length items → HasPlaces (last + 1) old → IsScanned pairs m (series_of items) old new
    → HasPlaces (last + 1) new
scanned_places m items last pairs old new some within places s =
    places_back m items last new some within
    (still_places pairs m (series_of items) old new (row_places m items last old some within places) s)

pub ready_again : (m : ℕ) (items : List Sample) (last place limit : ℕ) (pairs : ℕ → ℕ → Bool)
    (old new : Profiled)
    (limits : List ℕ) → 1 ≤ m → last + m ≡ length items → place < last + 1 → IsReady last old limits
    → IsScanned pairs m (series_of items) old new → ChangesAt place old.right new.right
    → limit ≡ limit_of (get_or new.right place None) → IsReady last new (set limits place limit)
ready_again m items last place limit pairs old new limits some within lt ready s changed is = record {
  places = scanned_places m items last pairs old new some within ready.places s;
  limits = limits_set place limit old.right new.right limits (omega (arith, lt, ready.places.sides.right)) ready.limits
      changed is;
}

-- ---- pairs that give nothing

record IsAt (covered : List ℕ) (last first end i j : ℕ) : Type 0 where
  column : j ≡ last
  is_in : is_covered covered (last - i) ≡ true
  behind : first ≤ last - i
  before : last - i < end

is_at : (covered : List ℕ) (last first end i j : ℕ) → is_last_from covered last first end i j ≡ true
    → IsAt covered last first end i j
is_at covered last first end i j e = record {
  column = same (is_covered covered (last - i)) j last first (last - i) end e;
  is_in = among (is_covered covered (last - i)) (j == last) (nat_le first (last - i) && nat_lt (last - i) end) e;
  behind = not_less (is_covered covered (last - i)) (j == last) first (last - i) end e;
  before = less (is_covered covered (last - i)) (j == last) first (last - i) end e;
}
  where
    same : (t : Bool) (j last first x end : ℕ) → ((j == last) && (t && (nat_le first x && nat_lt x end))) ≡ true
        → j ≡ last
    same t j last first x end e = grind (arith, nat_tests)

    among : (t s u : Bool) → (s && (t && u)) ≡ true → t ≡ true
    among true s u e = refl
    among false true u e = e
    among false false u e = e

    not_less : (t s : Bool) (first x end : ℕ) → (s && (t && (nat_le first x && nat_lt x end))) ≡ true
        → first ≤ x
    not_less t s first x end e = grind (arith, nat_tests)

    less : (t s : Bool) (first x end : ℕ) → (s && (t && (nat_le first x && nat_lt x end))) ≡ true → x < end
    less t s first x end e = grind (arith, nat_tests)

-- the pair of a covered diagonal gives neither of its windows anything
quiet_pair : (m : ℕ) (items : List Sample) (covered : List ℕ) (waiting : List Bool) (sums : List ℕ) (last best : ℕ)
    (p : Profiled) (limits : List ℕ) → IsRow m items covered waiting sums last → IsReady last p limits
    → best ≡ limit_of (get_or p.left last None) → (x i j d : ℕ) → last - x ≡ i → j ≡ last → x < last
    → is_covered covered x ≡ true → get_or limits (last - x) 0 ≤ get_or sums x 0 → best ≤ get_or sums x 0
    → distance m (series_of items) i (series_of items) j ≡ Some d
    → Covers (get_or p.right i None) j d × Covers (get_or p.left j None) i d
quiet_pair m items covered waiting sums last best p limits row ready best_is x i j d i_is j_is lt is above above_best
    there =
    let here : distance m (series_of items) i (series_of items) last ≡ Some d =
    subst (λ q. distance m (series_of items) i (series_of items) q ≡ Some d) j_is there in
    let sum : get_or sums x 0 ≡ square_sum m (numbers_of (series_of items)) (last - x)
    (numbers_of (series_of items)) last = (row.lasts x lt is).sum_is in
    let same : d ≡ get_or sums x 0 =
    distances_are_sums m (series_of items) i (series_of items) last d here
    ∙ sym (sum
    ∙ ap (λ q. square_sum m (numbers_of (series_of items)) q (numbers_of (series_of items)) last) i_is) in
    let small = row.small x lt is in
    let limit : get_or limits (last - x) 0 ≡ limit_of (get_or p.right (last - x) None) =
    ready.limits.each (last - x) (omega (arith, ready.places.sides.right)) in
    let of_row : limit_of (get_or p.right (last - x) None) ≤ d = omega (arith, limit, same, above) in
    let of_last : limit_of (get_or p.left last None) ≤ d = omega (arith, best_is, same, above_best) in (
      subst (λ q. Covers (get_or p.right q None) j d) i_is
          (beyond_limit (get_or p.right (last - x) None) j d of_row (omega (arith, same, small))),
      subst (λ q. Covers (get_or p.left q None) i d) (sym j_is)
          (beyond_limit (get_or p.left last None) i d of_last (omega (arith, same, small))),
    )

pub quiet_row : (m : ℕ) (items : List Sample) (covered : List ℕ) (waiting : List Bool) (sums : List ℕ)
    (last first end best : ℕ) (p : Profiled) (limits : List ℕ) → IsRow m items covered waiting sums last
    → IsReady last p limits → p.all ≡ merged_column p.left p.right → 1 ≤ first → end ≤ last
    → best ≡ limit_of (get_or p.left last None)
    → ((d : ℕ) → first ≤ d → d < end → get_or limits (last - d) 0 ≤ get_or sums d 0)
    → ((d : ℕ) → first ≤ d → d < end → best ≤ get_or sums d 0)
    → IsScanned (is_last_from covered last first end) m (series_of items) p p
quiet_row m items covered waiting sums last first end best p limits row ready lesser some within best_is above
    above_best =
    quiet_pairs (is_last_from covered last first end) m (series_of items) p
    (row_places m items last p row.shortest row.within ready.places) lesser
    (λ i j e. let at = is_at covered last first end i j e in omega (arith, at.column, at.behind, some))
    (λ i j d e there.
    let at = is_at covered last first end i j e in
    quiet_pair m items covered waiting sums last best p limits row ready best_is (last - i) i j d
    (omega (arith, at.behind, some)) at.column (omega (arith, at.before, within)) at.is_in
    (above (last - i) at.behind at.before) (above_best (last - i) at.behind at.before) there)

-- from the last window back to one before it
apart_back : (last i j : ℕ) → i < last + 1 → (j == last) ≡ true → last - i ≡ abs_diff i j
apart_back last i j lt is = grind (arith, nat_tests)

-- the same of some covered diagonals
pub quiet_listed : (m : ℕ) (items : List Sample) (covered listed : List ℕ) (waiting : List Bool) (sums : List ℕ)
    (last best : ℕ) (p : Profiled) (limits : List ℕ) → IsRow m items covered waiting sums last
    → IsReady last p limits → p.all ≡ merged_column p.left p.right
    → All (IsCoveredWithin m last covered) listed → best ≡ limit_of (get_or p.left last None)
    → All (λ d. (get_or limits (last - d) 0 ≤ get_or sums d 0) × (best ≤ get_or sums d 0)) listed
    → IsScanned (is_last_pair listed last) m (series_of items) p p
quiet_listed m items covered listed waiting sums last best p limits row ready lesser all best_is above =
    let places = row_places m items last p row.shortest row.within ready.places in
    each_to_other.same m (series_of items) (series_of items) (λ i j. (j == last) && is_covered listed (last - i))
    (is_last_pair listed last) p p (places, refl)
    (quiet_pairs (λ i j. (j == last) && is_covered listed (last - i)) m (series_of items) p places lesser
    (λ i j e. omega (arith, column j (is_covered listed (last - i)) e, (of_pair i j e).0.zone))
    (λ i j d e there.
    let at = of_pair i j e in
    quiet_pair m items covered waiting sums last best p limits row ready best_is (last - i) i j d
    (omega (arith, at.0.zone)) (column j (is_covered listed (last - i)) e) at.0.within at.0.is at.1.0 at.1.1 there))
    (λ i j lt _. agree i j (omega (arith, lt, row_count m items last row.shortest row.within)) (j == last) refl)
  where
    column : (j : ℕ) (t : Bool) → ((j == last) && t) ≡ true → j ≡ last
    column j t e = grind (arith, nat_tests)

    among : (s t : Bool) → (s && t) ≡ true → t ≡ true
    among true t e = e
    among false t e = absurd (cc)

    of_pair : (i j : ℕ) → ((j == last) && is_covered listed (last - i)) ≡ true
        → IsCoveredWithin m last covered (last - i)
        × ((get_or limits (last - (last - i)) 0 ≤ get_or sums (last - i) 0) × (best ≤ get_or sums (last - i) 0))
    of_pair i j e =
        each_covered (λ d. IsCoveredWithin m last covered d
        × ((get_or limits (last - d) 0 ≤ get_or sums d 0) × (best ≤ get_or sums d 0))) listed
        (λ k lt. (all k 0 lt, above k 0 lt)) (last - i)
        (among (j == last) (is_covered listed (last - i)) e)

    agree : (i j : ℕ) → i < last + 1 → (t : Bool) → (j == last) ≡ t
        → ((j == last) && is_covered listed (last - i)) ≡ is_last_pair listed last i j
    agree i j lt false is =
        ap (λ t. t && is_covered listed (last - i)) is ∙ sym (ap (λ t. t && is_covered listed (abs_diff i j)) is)
    agree i j lt true is = ap (λ x. (j == last) && is_covered listed x) (apart_back last i j lt is)

-- ---- one pair

-- the pair of the last window and one before it is that of its diagonal
one_pair : (covered : List ℕ) (last d r c : ℕ) → d < last → is_covered covered d ≡ true → r < last + 1
    → only (last - d) last r c ≡ is_last_from covered last d (d + 1) r c
one_pair covered last d r c lt is less = elim (cases_eq r (last - d)) [
  | inl same ↦
      let back : last - r ≡ d = omega (arith, same, lt) in
      same_case (last - r) same back
      ∙ ap (λ t. (c == last) && (t && (nat_le d (last - r) && nat_lt (last - r) (d + 1))))
      (sym (ap (is_covered covered) back ∙ is))
  | inr other ↦
      other_case (is_covered covered (last - r)) (last - r) other (λ e. other (omega (arith, e, less)))
]
  where
    same_case : (x : ℕ) → r ≡ last - d → x ≡ d
        → ((r == last - d) && (c == last)) ≡ ((c == last) && (true && (nat_le d x && nat_lt x (d + 1))))
    same_case x e f = grind (arith, nat_tests)

    other_case : (t : Bool) (x : ℕ) → (r ≡ last - d → ⊥) → (x ≡ d → ⊥)
        → ((r == last - d) && (c == last)) ≡ ((c == last) && (t && (nat_le d x && nat_lt x (d + 1))))
    other_case t x ne ne' = grind (arith, nat_tests)

pub one_last : (m : ℕ) (items : List Sample) (covered : List ℕ) (last d : ℕ) (old new : Profiled) → 1 ≤ m
    → last + m ≡ length items → d < last → is_covered covered d ≡ true → HasPlaces (last + 1) old
    → IsScanned (only (last - d) last) m (series_of items) old new
    → IsScanned (is_last_from covered last d (d + 1)) m (series_of items) old new
one_last m items covered last d old new some within lt is places s =
    let count = row_count m items last some within in
    each_to_other.same m (series_of items) (series_of items) (only (last - d) last)
    (is_last_from covered last d (d + 1)) old new (row_places m items last old some within places, refl) s
    (λ r c less _. one_pair covered last d r c lt is (omega (arith, less, count)))

-- and the other way round
pub last_alone : (m : ℕ) (items : List Sample) (covered : List ℕ) (last d : ℕ) (old new : Profiled) → 1 ≤ m
    → last + m ≡ length items → d < last → is_covered covered d ≡ true → HasPlaces (last + 1) old
    → IsScanned (is_last_from covered last d (d + 1)) m (series_of items) old new
    → IsScanned (only (last - d) last) m (series_of items) old new
last_alone m items covered last d old new some within lt is places s =
    let count = row_count m items last some within in
    each_to_other.same m (series_of items) (series_of items) (is_last_from covered last d (d + 1))
    (only (last - d) last) old new (row_places m items last old some within places, refl) s
    (λ r c less _. sym (one_pair covered last d r c lt is (omega (arith, less, count))))

pub no_last : (m : ℕ) (items : List Sample) (covered : List ℕ) (last d : ℕ) (p : Profiled) → 1 ≤ m
    → last + m ≡ length items → is_covered covered d ≡ false → HasPlaces (last + 1) p
    → IsScanned (is_last_from covered last d (d + 1)) m (series_of items) p p
no_last m items covered last d p some within none places =
    each_to_other.none m (series_of items) (series_of items) (is_last_from covered last d (d + 1)) p
    (row_places m items last p some within places, refl) (λ i j. never i j)
  where
    other_case : (s t : Bool) (x : ℕ) → (x ≡ d → ⊥)
        → (s && (t && (nat_le d x && nat_lt x (d + 1)))) ≡ false
    other_case s t x ne = grind (arith, nat_tests)

    nothing : (s u : Bool) → (s && (false && u)) ≡ false
    nothing true u = refl
    nothing false u = refl

    never : (i j : ℕ) → is_last_from covered last d (d + 1) i j ≡ false
    never i j = elim (cases_eq (last - i) d) [
      | inl same ↦
          ap (λ t. (j == last) && (t && (nat_le d (last - i) && nat_lt (last - i) (d + 1))))
          (ap (is_covered covered) same ∙ none)
          ∙ nothing (j == last) (nat_le d (last - i) && nat_lt (last - i) (d + 1))
      | inr other ↦ other_case (j == last) (is_covered covered (last - i)) (last - i) other
    ]

-- ---- pairs one after another

pub none_from : (m : ℕ) (items : List Sample) (covered : List ℕ) (last first : ℕ) (p : Profiled) → 1 ≤ m
    → last + m ≡ length items → HasPlaces (last + 1) p
    → IsScanned (is_last_from covered last first first) m (series_of items) p p
none_from m items covered last first p some within places =
    each_to_other.none m (series_of items) (series_of items) (is_last_from covered last first first) p
    (row_places m items last p some within places, refl)
    (λ i j. never (j == last) (is_covered covered (last - i)) (last - i))
  where
    never : (s t : Bool) (x : ℕ) → (s && (t && (nat_le first x && nat_lt x first))) ≡ false
    never s t x = grind (arith, nat_tests)

pub then_from : (m : ℕ) (items : List Sample) (covered : List ℕ) (last first mid end : ℕ) (old now new : Profiled)
    → 1 ≤ m → last + m ≡ length items → first ≤ mid → mid ≤ end → HasPlaces (last + 1) old
    → IsScanned (is_last_from covered last first mid) m (series_of items) old now
    → IsScanned (is_last_from covered last mid end) m (series_of items) now new
    → IsScanned (is_last_from covered last first end) m (series_of items) old new
then_from m items covered last first mid end old now new some within le le' places s t =
    each_to_other.same m (series_of items) (series_of items)
    (λ i j. is_last_from covered last first mid i j || is_last_from covered last mid end i j)
    (is_last_from covered last first end) old new (row_places m items last old some within places, refl)
    (each_to_other.both m (series_of items) (series_of items) (is_last_from covered last first mid)
    (is_last_from covered last mid end) old now new s t)
    (λ i j _ _. joined (j == last) (is_covered covered (last - i)) (last - i))
  where
    joined : (s t : Bool) (x : ℕ)
        → ((s && (t && (nat_le first x && nat_lt x mid))) || (s && (t && (nat_le mid x && nat_lt x end))))
        ≡ (s && (t && (nat_le first x && nat_lt x end)))
    joined s t x = grind (arith, nat_tests)

-- all of them
pub all_from : (m : ℕ) (items : List Sample) (covered : List ℕ) (last first : ℕ) (old new : Profiled) → 1 ≤ m
    → last + m ≡ length items → first ≡ excl m + 1 → All (IsDiagonal m last) covered
    → HasPlaces (last + 1) old
    → IsScanned (is_last_from covered last first last) m (series_of items) old new
    → IsScanned (is_last_pair covered last) m (series_of items) old new
all_from m items covered last first old new some within e all places s =
    let count = row_count m items last some within in
    each_to_other.same m (series_of items) (series_of items) (is_last_from covered last first last)
    (is_last_pair covered last) old new (row_places m items last old some within places, refl) s
    (λ i j lt _. agree i j (omega (arith, lt, count)) (j == last) refl)
  where
    in_zone : (z x f : ℕ) → f ≡ z + 1 → (nat_lt z x && true) ≡ true → nat_le f x ≡ true
    in_zone z x f e h = grind (arith, nat_tests)

    less : (x w : ℕ) → x < w → nat_lt x w ≡ true
    less x w lt = grind (arith, nat_tests)

    bounds : (x : ℕ) (t : Bool) → x ≤ last → is_covered covered x ≡ t
        → (t && (nat_le first x && nat_lt x last)) ≡ t
    bounds x false le is = refl
    bounds x true le is = elim (cases_eq x last) [
      | inl same ↦
          absurd (both_ways (is_covered covered x) is (ap (is_covered covered) same ∙ not_covered m last covered all))
      | inr other ↦
          ap (λ t. t && nat_lt x last) (in_zone (excl m) x first e
          (ap (λ t. nat_lt (excl m) x && t) (sym is) ∙ outside_zone m last x covered all ∙ is))
          ∙ less x last (omega (arith, le, other))
    ]

    agree : (i j : ℕ) → i < last + 1 → (t : Bool) → (j == last) ≡ t
        → is_last_from covered last first last i j ≡ is_last_pair covered last i j
    agree i j lt false is =
        ap (λ t. t && (is_covered covered (last - i) && (nat_le first (last - i) && nat_lt (last - i) last))) is
        ∙ sym (ap (λ t. t && is_covered covered (abs_diff i j)) is)
    agree i j lt true is =
        ap (λ t. (j == last) && t) (bounds (last - i) (is_covered covered (last - i)) (omega arith) refl)
        ∙ ap (λ x. (j == last) && is_covered covered x) (apart_back last i j lt is)

-- a diagonal that doesn't wait is covered
pub not_waiting : (m w d : ℕ) (covered : List ℕ) (t : Bool) → excl m < d → d < w
    → t ≡ is_uncovered m w covered d
    → t ≡ false → is_covered covered d ≡ true
not_waiting m w d covered t lt lt' e is = open_test (excl m) d w (is_covered covered d) lt lt' (sym e ∙ is)
  where
    open_test : (z d w : ℕ) (s : Bool) → z < d → d < w → ((nat_lt z d && nat_lt d w) && not s) ≡ false
        → s ≡ true
    open_test z d w true lt lt' e = refl
    open_test z d w false lt lt' e = grind (arith, nat_tests)

pub waits_still : (m w d : ℕ) (covered : List ℕ) (t : Bool) → excl m < d → d < w
    → t ≡ is_uncovered m w covered d
    → t ≡ true → is_covered covered d ≡ false
waits_still m w d covered t lt lt' e is =
    open_test (nat_lt (excl m) d && nat_lt d w) (is_covered covered d) (sym e ∙ is)
  where
    open_test : (u s : Bool) → (u && not s) ≡ true → s ≡ false
    open_test u false e = refl
    open_test true true e = absurd (cc)
    open_test false true e = absurd (cc)

-- ---- sums

-- each covered diagonal has its sum
pub row_of_sums : (m : ℕ) (items : List Sample) (covered : List ℕ) (waiting : List Bool) (last : ℕ) (sums : Sums)
    → 1 ≤ m → last + m ≡ length items → last < numbers → HavePlaces (last + 1) sums
    → AreWaiting m (last + 1) covered waiting → AreSums m (series_of items) covered last sums
    → LieClose m (numbers_in items) → IsRow m items covered waiting sums.lower.items last
row_of_sums m items covered waiting last sums some within few places waits each close = record {
  shortest = some;
  within = within;
  few = few;
  places = places.lowers;
  waits = waits;
  lasts = λ d lt is. subst (IsSumAt m (series_of items) (last - d) last) (whole d lt is) (sum d is);
  small = λ d lt is.
      omega (
        arith,
        whole d lt is,
        small_sum m items (last - d) last (sum_in sums d) close (omega (arith, within, lt)) (omega (arith, within))
            (sum d is),
      );
}
  where
    sum : (d : ℕ) → is_covered covered d ≡ true → IsSumAt m (series_of items) (last - d) last (sum_in sums d)
    sum d is = each_covered (λ q. IsSumAt m (series_of items) (last - q) last (sum_in sums q)) covered each.each d is

    whole : (d : ℕ) → d < last → is_covered covered d ≡ true → sum_in sums d ≡ get_or sums.lower.items d 0
    whole d lt is =
        let none = no_upper m items (last - d) last (get_or sums.upper.items d 0) (get_or sums.lower.items d 0) close
        (omega (arith, within, lt)) (omega (arith, within)) (sum d is) in
        omega (arith, none)

pub sums_are : (m : ℕ) (items : List Sample) (covered : List ℕ) (last : ℕ) (old new : Sums)
    → All (IsDiagonal m last) covered → AreSums m (series_of items) covered (last - 1) old
    → ((d : ℕ) → d < last → IsSumAt m (series_of items) (last - 1 - d) (last - 1) (sum_in old d)
    → IsMovedSum m items last d (get_or new.upper.items d 0) (get_or new.lower.items d 0))
    → AreSums m (series_of items) covered last new
sums_are m items covered last old new all sums step = record {
  each = λ k lt. (step (get_or covered k 0) (all k 0 lt).1 (sums.each k lt)).sum;
}
