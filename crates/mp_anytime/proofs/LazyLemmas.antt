-- Profiles of the pairs on some diagonals: those of two lists together, and of none.
use Rattle.std.proofs.Common.{◌≡◌, ℕ, zero, suc, ◌+◌, ◌<◌, List, [], ◌∷◌, ◌++◌, length}
use Rattle.std.proofs.Common.{get_or, Bool, true, false}
use Rattle.std.proofs.Common.{refl, sym, ap, ◌∙◌, arith}
use Rattle.std.specs.Prelude.{◌&&◌, ◌||◌, ◌==◌, nat_lt, All}
use Rattle.std.specs.Int.{abs_diff}
use Rattle.std.specs.List.{range_with_len}
use Rattle.std.proofs.lemmas.Bool.Decides.{nat_tests}
use Rattle.std.proofs.lemmas.List.Elements.{All-head, All-tail}
use Rattle.std.proofs.lemmas.List.Folds.{list_any-append}
use Rattle.mp_defs.specs.Series.{Series}
use Rattle.mp_defs.specs.Window.{excl}
use Rattle.mp_defs.specs.Profile.{windows_of, nearest_column, profile}
use Rattle.mp_defs.specs.ColumnLaws.{columns_by_choice}
use Rattle.mp_partial.specs.Values.{Column, Value, empty_columns, merged_column, merged_columns, merged_over}
use Rattle.mp_partial.specs.Values.{merged_below}
use Rattle.mp_tiles.specs.Among.{columns_value}
use Rattle.mp_tiles.specs.OfferingLaws.{and_either}
use Rattle.mp_results.specs.Covering.{is_covered}
use Rattle.mp_results.specs.LazyProfile.{is_allowed_along, lazy_profile}
use Rattle.mp_anytime.specs.Scanning.{lie_along, lie_apart}
use Rattle.mp_anytime.specs.Kept.{IsDiagonal}

-- ---- values by tests of pairs

abbrev pub value_by : (ℕ → ℕ → Bool) → ℕ → Series → Value
value_by may m a = columns_value (profile may m a)

pub three : (a b c a' b' c' : Column) → a ≡ a' → b ≡ b' → c ≡ c'
    → ◌≡◌ {A = Value} (a ∷ b ∷ c ∷ []) (a' ∷ b' ∷ c' ∷ [])
three a b c a' b' c' e f g = cc

-- tests that agree
pub value_same : (p q : ℕ → ℕ → Bool) (m : ℕ) (a : Series)
    → ((i j : ℕ) → i < windows_of m a → j < windows_of m a → p i j ≡ q i j)
    → value_by p m a ≡ value_by q m a
value_same p q m a same = three _ _ _ _ _ _
    (columns_by_choice.same m p q a a same)
    (columns_by_choice.same m (λ i j. p i j && nat_lt j i) (λ i j. q i j && nat_lt j i) a a
    (λ i j lt lt'. ap (λ t. t && nat_lt j i) (same i j lt lt')))
    (columns_by_choice.same m (λ i j. p i j && nat_lt i j) (λ i j. q i j && nat_lt i j) a a
    (λ i j lt lt'. ap (λ t. t && nat_lt i j) (same i j lt lt')))

-- one of two tests, on a side
side_both : (side : ℕ → ℕ → Bool) (p q : ℕ → ℕ → Bool) (m : ℕ) (a : Series)
    → nearest_column (λ i j. (p i j || q i j) && side i j) m a a
    ≡ merged_column (nearest_column (λ i j. p i j && side i j) m a a)
    (nearest_column (λ i j. q i j && side i j) m a a)
side_both side p q m a =
    columns_by_choice.same m (λ i j. (p i j || q i j) && side i j)
    (λ i j. (p i j && side i j) || (q i j && side i j)) a a (λ i j _ _. sym (and_either (p i j) (q i j) (side i j)))
    ∙ columns_by_choice.either m (λ i j. p i j && side i j) (λ i j. q i j && side i j) a a

pub value_both : (p q : ℕ → ℕ → Bool) (m : ℕ) (a : Series)
    → value_by (λ i j. p i j || q i j) m a ≡ merged_columns (value_by p m a) (value_by q m a)
value_both p q m a = three _ _ _ _ _ _
    (columns_by_choice.either m p q a a)
    (side_both (λ i j. nat_lt j i) p q m a)
    (side_both (λ i j. nat_lt i j) p q m a)

false_and : (s t : Bool) → s ≡ false → (s && t) ≡ false
false_and false t e = refl
false_and true t e = absurd (cc)

pub value_none : (p : ℕ → ℕ → Bool) (m : ℕ) (a : Series) → ((i j : ℕ) → p i j ≡ false)
    → value_by p m a ≡ empty_columns 3 (windows_of m a)
value_none p m a none = three _ _ _ _ _ _
    (columns_by_choice.none m p a a (λ i j _ _. none i j))
    (columns_by_choice.none m (λ i j. p i j && nat_lt j i) a a (λ i j _ _. false_and (p i j) (nat_lt j i) (none i j)))
    (columns_by_choice.none m (λ i j. p i j && nat_lt i j) a a (λ i j _ _. false_and (p i j) (nat_lt i j) (none i j)))

-- ---- diagonals

-- the diagonals of two lists
pub along_both : (first second : List ℕ) (m : ℕ) (a : Series)
    → value_by (lie_along (first ++ second)) m a
    ≡ merged_columns (value_by (lie_along first) m a) (value_by (lie_along second) m a)
along_both first second m a =
    value_same (lie_along (first ++ second)) (λ i j. lie_along first i j || lie_along second i j) m a
    (λ i j _ _. list_any-append (λ other. other == abs_diff i j) first second)
    ∙ value_both (lie_along first) (lie_along second) m a

pub along_none : (m : ℕ) (a : Series) → value_by (lie_along []) m a ≡ empty_columns 3 (windows_of m a)
along_none m a = value_none (lie_along []) m a (λ i j. refl)

-- the pieces of a list together
together_from : (m : ℕ) (a : Series) (value : ℕ → Value) (offsets : List ℕ) (first : ℕ)
    → ((k : ℕ) → k < length offsets → value (first + k) ≡ value_by (lie_apart (get_or offsets k 0)) m a)
    → merged_over merged_columns (empty_columns 3 (windows_of m a)) value (range_with_len first (length offsets))
    ≡ value_by (lie_along offsets) m a
together_from m a value [] first h = sym (along_none m a)
together_from m a value (d ∷ ds) first h =
    let here : value first ≡ value_by (lie_apart d) m a =
    ap value (omega arith) ∙ h zero (omega arith) in
    let rest = together_from m a value ds (first + 1)
    (λ k lt. ap value (omega arith) ∙ h (suc k) (omega (arith, lt))) in
    ap (λ v. merged_columns v (merged_over merged_columns (empty_columns 3 (windows_of m a)) value
    (range_with_len (first + 1) (length ds)))) here
    ∙ ap (merged_columns (value_by (lie_apart d) m a)) rest
    ∙ sym (value_both (lie_apart d) (lie_along ds) m a)

pub pieces_together : (m : ℕ) (a : Series) (value : ℕ → Value) (offsets : List ℕ)
    → ((k : ℕ) → k < length offsets → value k ≡ value_by (lie_apart (get_or offsets k 0)) m a)
    → merged_below merged_columns (empty_columns 3 (windows_of m a)) value (length offsets)
    ≡ value_by (lie_along offsets) m a
pieces_together m a value offsets h =
    together_from m a value offsets 0 (λ k lt. ap value (omega arith) ∙ h k lt)

-- ---- the exclusion zone

behind_zone : (z d x : ℕ) → z < d → (t : Bool) → (d == x) ≡ t → t ≡ true → nat_lt z x ≡ true
behind_zone z d x lt t e f = grind (arith, nat_tests)

zone_by : (z : Bool) (here rest : Bool) → (here ≡ true → z ≡ true) → (z && rest) ≡ rest
    → (z && (here || rest)) ≡ (here || rest)
zone_by true here rest h e = refl
zone_by false true rest h e = h refl
zone_by false false rest h e = e

pub outside_zone : (m w x : ℕ) (covered : List ℕ) → All (IsDiagonal m w) covered
    → (nat_lt (excl m) x && is_covered covered x) ≡ is_covered covered x
outside_zone m w x [] all = never (nat_lt (excl m) x)
  where
    never : (t : Bool) → (t && false) ≡ false
    never true = refl
    never false = refl
outside_zone m w x (d ∷ ds) all =
    zone_by (nat_lt (excl m) x) (d == x) (is_covered ds x)
    (λ e. behind_zone (excl m) d x (All-head (IsDiagonal m w) d ds all).0 (d == x) refl e)
    (outside_zone m w x ds (All-tail (IsDiagonal m w) d ds all))

-- covered diagonals all lie behind it
pub lazy_is_along : (m w : ℕ) (covered : List ℕ) (a : Series) → All (IsDiagonal m w) covered
    → columns_value (lazy_profile m covered a) ≡ value_by (lie_along covered) m a
lazy_is_along m w covered a all =
    value_same (is_allowed_along covered m) (lie_along covered) m a
    (λ i j _ _. outside_zone m w (abs_diff i j) covered all)

-- columns of a value
pub left_of : (x y z x' y' z' : Column) → ◌≡◌ {A = Value} (x ∷ y ∷ z ∷ []) (x' ∷ y' ∷ z' ∷ [])
    → y ≡ y'
left_of x y z x' y' z' e = cc

pub right_of : (x y z x' y' z' : Column) → ◌≡◌ {A = Value} (x ∷ y ∷ z ∷ []) (x' ∷ y' ∷ z' ∷ [])
    → z ≡ z'
right_of x y z x' y' z' e = cc

pub all_of : (x y z x' y' z' : Column) → ◌≡◌ {A = Value} (x ∷ y ∷ z ∷ []) (x' ∷ y' ∷ z' ∷ [])
    → x ≡ x'
all_of x y z x' y' z' e = cc
