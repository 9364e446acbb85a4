-- The profile of the pairs on some diagonals, with one sample more.
use Rattle.std.proofs.Common.{◌≡◌, ℕ, ◌+◌, ◌<◌, ◌≤◌, List, [], ◌∷◌, ◌++◌, length}
use Rattle.std.proofs.Common.{Bool, true, false, refl, sym, ap, ◌∙◌, arith, subst}
use Rattle.std.specs.Prelude.{Option, None, if◌then◌else◌, ◌&&◌, ◌||◌, ◌==◌, nat_lt, ℤ}
use Rattle.std.specs.Int.{abs_diff}
use Rattle.std.proofs.lemmas.Bool.Decides.{nat_tests}
use Rattle.std.proofs.lemmas.List.{ext_get_or}
use Rattle.std.proofs.lemmas.List.FromFn.{map-range_with_len_more}
use Rattle.mp_nums.specs.declared.nearest.Near.{Near}
use Rattle.mp_nums.specs.Near.{nearer_of}
use Rattle.mp_nums.specs.NearLaws.{nearer_with_none}
use Rattle.mp_defs.specs.Series.{Series}
use Rattle.mp_defs.specs.Distance.{distance}
use Rattle.mp_defs.specs.Least.{at_distance}
use Rattle.mp_defs.specs.Profile.{column, left_entry, nearest_column, right_entry, windows_of}
use Rattle.mp_defs.specs.ColumnLaws.{columns_by_choice, columns_have_places}
use Rattle.mp_defs.specs.NearestLaws.{nearest_by_choice}
use Rattle.mp_partial.specs.Values.{merged_column}
use Rattle.mp_stream.specs.Appended.{EntriesGrow, with_one}
use Rattle.mp_tiles.specs.Among.{either_way}
use Rattle.mp_results.specs.Covering.{is_covered}
use Rattle.mp_anytime.specs.Scanning.{lie_along}
use Rattle.mp_anytime.specs.Kept.{is_last_pair}

-- the pairs of the first w windows alone
abbrev pub first_pairs : List ℕ → ℕ → ℕ → ℕ → Bool
first_pairs covered w i j = lie_along covered i j && (nat_lt i w && nat_lt j w)

-- a column of one window more
column_more : (f g : ℕ → Option Near) (w : ℕ) → ((i : ℕ) → i < w → f i ≡ g i) → f w ≡ None
    → column f (w + 1) ≡ column g w ++ None ∷ []
column_more f g w same last =
    map-range_with_len_more f 0 w w (omega arith)
    ∙ ap (λ x. column f w ++ x ∷ []) last
    ∙ ap (λ c. c ++ None ∷ []) (column_same f g w same)
  where
    column_same : (f g : ℕ → Option Near) (w : ℕ) → ((i : ℕ) → i < w → f i ≡ g i)
        → column f w ≡ column g w
    column_same f g w h =
        ext_get_or None (column f w) (column g w)
        (columns_have_places.count f w ∙ sym (columns_have_places.count g w))
        (λ k lt. let below : k < w = subst (λ n. k < n) (columns_have_places.count f w) lt in
        columns_have_places.at_place f w k below ∙ h k below ∙ sym (columns_have_places.at_place g w k below))

among_first : (covered : List ℕ) (w i j : ℕ) (side : Bool) → i < w → j < w
    → (first_pairs covered w i j && side) ≡ (lie_along covered i j && side)
among_first covered w i j side lt lt' =
    ap (λ t. (lie_along covered i j && (t && nat_lt j w)) && side) (less i w lt)
    ∙ ap (λ t. (lie_along covered i j && t) && side) (less j w lt')
    ∙ ap (λ t. t && side) (with_true (lie_along covered i j))
  where
    less : (i w : ℕ) → i < w → nat_lt i w ≡ true
    less i w lt = grind (arith, nat_tests)

    with_true : (t : Bool) → (t && true) ≡ t
    with_true true = refl
    with_true false = refl

none_behind : (covered : List ℕ) (w i j : ℕ) (side : Bool) → w ≤ j
    → (first_pairs covered w i j && side) ≡ false
none_behind covered w i j side le =
    ap (λ t. (lie_along covered i j && (nat_lt i w && t)) && side) (not_less j w le)
    ∙ nothing (lie_along covered i j) (nat_lt i w) side
  where
    not_less : (j w : ℕ) → w ≤ j → nat_lt j w ≡ false
    not_less j w le = grind (arith, nat_tests)

    nothing : (s t u : Bool) → ((s && (t && false)) && u) ≡ false
    nothing true true u = refl
    nothing true false u = refl
    nothing false t u = refl

none_of_last : (covered : List ℕ) (w i j : ℕ) (side : Bool) → w ≤ i
    → (first_pairs covered w i j && side) ≡ false
none_of_last covered w i j side le =
    ap (λ t. (lie_along covered i j && (t && nat_lt j w)) && side) (not_less i w le)
    ∙ nothing (lie_along covered i j) side
  where
    not_less : (j w : ℕ) → w ≤ j → nat_lt j w ≡ false
    not_less j w le = grind (arith, nat_tests)

    nothing : (s u : Bool) → ((s && false) && u) ≡ false
    nothing true u = refl
    nothing false u = refl

module _ (grow : EntriesGrow) (m : ℕ) (a : Series) (s : Option ℤ) (covered : List ℕ)
    (long : m ≤ length a + 1) where
  -- the left entries of the first windows
  first_left : (i : ℕ) → i < windows_of m a
      → left_entry (first_pairs covered (windows_of m a)) m (with_one a s) i ≡ left_entry (lie_along covered) m a i
  first_left i lt =
      grow.left (first_pairs covered (windows_of m a)) m a s i long lt
      ∙ nearest_by_choice.same m (λ j. first_pairs covered (windows_of m a) i j && nat_lt j i)
      (λ j. lie_along covered i j && nat_lt j i) a i a
      (λ j below. among_first covered (windows_of m a) i j (nat_lt j i) lt below)

  first_right : (i : ℕ) → i < windows_of m a
      → right_entry (first_pairs covered (windows_of m a)) m (with_one a s) i
      ≡ right_entry (lie_along covered) m a i
  first_right i lt =
      let w = windows_of m a in
      grow.right (first_pairs covered w) m a s i long lt
      ∙ ap (λ t. nearer_of (right_entry (first_pairs covered w) m a i)
      (if t then at_distance w (distance m (with_one a s) i (with_one a s) w) else None))
      (none_behind covered w i w (nat_lt i w) (omega arith))
      ∙ (nearer_with_none (right_entry (first_pairs covered w) m a i)).1
      ∙ nearest_by_choice.same m (λ j. first_pairs covered w i j && nat_lt i j)
      (λ j. lie_along covered i j && nat_lt i j) a i a
      (λ j below. among_first covered w i j (nat_lt i j) lt below)

  last_left : left_entry (first_pairs covered (windows_of m a)) m (with_one a s) (windows_of m a) ≡ None
  last_left =
      let w = windows_of m a in
      nearest_by_choice.none m (λ j. first_pairs covered w w j && nat_lt j w) (with_one a s) w (with_one a s)
      (λ j _. none_of_last covered w w j (nat_lt j w) (omega arith))

  last_right : right_entry (first_pairs covered (windows_of m a)) m (with_one a s) (windows_of m a) ≡ None
  last_right =
      let w = windows_of m a in
      nearest_by_choice.none m (λ j. first_pairs covered w w j && nat_lt w j) (with_one a s) w (with_one a s)
      (λ j _. none_of_last covered w w j (nat_lt w j) (omega arith))

  -- the columns that a profile grows to are those of the pairs of the first windows
  pub grown_left : column (left_entry (first_pairs covered (windows_of m a)) m (with_one a s))
      (windows_of m (with_one a s))
      ≡ column (left_entry (lie_along covered) m a) (windows_of m a) ++ None ∷ []
  grown_left =
      ap (column (left_entry (first_pairs covered (windows_of m a)) m (with_one a s))) (grow.windows m a s long)
      ∙ column_more (left_entry (first_pairs covered (windows_of m a)) m (with_one a s))
      (left_entry (lie_along covered) m a) (windows_of m a) first_left last_left

  pub grown_right : column (right_entry (first_pairs covered (windows_of m a)) m (with_one a s))
      (windows_of m (with_one a s)) ≡ column (right_entry (lie_along covered) m a) (windows_of m a) ++ None ∷ []
  grown_right =
      ap (column (right_entry (first_pairs covered (windows_of m a)) m (with_one a s))) (grow.windows m a s long)
      ∙ column_more (right_entry (first_pairs covered (windows_of m a)) m (with_one a s))
      (right_entry (lie_along covered) m a) (windows_of m a) first_right last_right

-- ---- with the pairs of the last window

turned_apart : (i j : ℕ) → abs_diff i j ≡ abs_diff j i
turned_apart i j = grind (arith, nat_tests)

-- of windows up to the last one, w
both_tests : (t il jl ie je side : Bool) → (il || ie) ≡ true → (jl || je) ≡ true
    → (((t && (il && jl)) && side) || (((je && t) || (ie && t)) && side)) ≡ (t && side)
both_tests false il jl true true side p q = refl
both_tests false il jl true false side p q = refl
both_tests false il jl false true side p q = refl
both_tests false il jl false false side p q = refl
both_tests true true true ie je true p q = refl
both_tests true true true true true false p q = refl
both_tests true true true true false false p q = refl
both_tests true true true false true false p q = refl
both_tests true true true false false false p q = refl
both_tests true true false ie true side p q = refl
both_tests true true false ie false side p q = absurd (cc)
both_tests true false jl true true side p q = refl
both_tests true false jl true false side p q = refl
both_tests true false jl false je side p q = absurd (cc)

pub with_last : (covered : List ℕ) (w i j : ℕ) (side : Bool) → i < w + 1 → j < w + 1
    → ((first_pairs covered w i j && side) || (either_way (is_last_pair covered w) i j && side))
    ≡ (lie_along covered i j && side)
with_last covered w i j side lt lt' =
    ap (λ x. (first_pairs covered w i j && side)
    || ((((j == w) && is_covered covered (abs_diff i j)) || ((i == w) && is_covered covered x)) && side))
    (turned_apart j i)
    ∙ both_tests (lie_along covered i j) (nat_lt i w) (nat_lt j w) (i == w) (j == w) side (less_or_last i w lt)
    (less_or_last j w lt')
  where
    less_or_last : (i w : ℕ) → i < w + 1 → (nat_lt i w || (i == w)) ≡ true
    less_or_last i w lt = grind (arith, nat_tests)

-- what the pairs of the last window bring to a column of the first ones
pub joined_column : (covered : List ℕ) (m : ℕ) (b : Series) (w : ℕ) (side : ℕ → ℕ → Bool)
    → windows_of m b ≡ w + 1
    → merged_column (nearest_column (λ i j. first_pairs covered w i j && side i j) m b b)
    (nearest_column (λ i j. either_way (is_last_pair covered w) i j && side i j) m b b)
    ≡ nearest_column (λ i j. lie_along covered i j && side i j) m b b
joined_column covered m b w side count =
    sym (columns_by_choice.either m (λ i j. first_pairs covered w i j && side i j)
    (λ i j. either_way (is_last_pair covered w) i j && side i j) b b)
    ∙ columns_by_choice.same m
    (λ i j. (first_pairs covered w i j && side i j) || (either_way (is_last_pair covered w) i j && side i j))
    (λ i j. lie_along covered i j && side i j) b b
    (λ i j lt lt'. with_last covered w i j (side i j) (omega (arith, lt, count)) (omega (arith, lt', count)))
