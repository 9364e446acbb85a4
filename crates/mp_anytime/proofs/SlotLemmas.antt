-- Slots that are merged, copied and cleared place by place, and windows that are offered on both sides.
use Rattle.std.proofs.Common.{◌≡◌, ◌≢◌, ℕ, ◌+◌, ◌<◌, ◌≤◌, inl, inr, List, [], ◌∷◌}
use Rattle.std.proofs.Common.{length, get_or, set, refl}
use Rattle.std.proofs.Common.{sym, ap, ◌∙◌, arith, subst, replicate, true, false, ℤ, pos}
use Rattle.std.specs.Prelude.{Option, Some, None}
use Rattle.std.proofs.lemmas.Bool.{cases_eq}
use Rattle.std.proofs.lemmas.Bool.Decides.{nat_tests}
use Rattle.std.proofs.lemmas.List.{ext_get_or, length-set, get_or-set_same, get_or-set_other, get_or-replicate}
use Rattle.std.proofs.lemmas.List.{length-replicate, set-get_or}
use Rattle.std.proofs.lemmas.Simd.{length-zip2, get_or-zip2}
use Rattle.mp_nums.specs.declared.nearest.Near.{Near}
use Rattle.mp_nums.specs.Near.{nearer_of}
use Rattle.mp_nums.specs.NearLaws.{nearer_commutes, nearer_associates}
use Rattle.mp_defs.specs.Least.{near_at}
use Rattle.mp_partial.specs.Profiled.{Profiled}
use Rattle.mp_partial.specs.Values.{Column, HasColumns, Value, empty_column, empty_columns, merged_column}
use Rattle.mp_partial.specs.Values.{merged_columns}
use Rattle.mp_partial.specs.Values.{offered}
use Rattle.mp_partial.specs.MergeLaws.{column_unit, zip_associates, zip_commutes}
use Rattle.mp_scans.specs.Offering.{only}
use Rattle.mp_tiles.specs.Among.{either_way, profile_among}
use Rattle.mp_tiles.specs.Scanning.{taken}
use Rattle.mp_tiles.specs.Sides.{sides_of}
use Rattle.mp_tiles.specs.OfferingLaws.{sided_pair}
use Rattle.mp_tiles.specs.SideLaws.{profiles_are_of_both_sides}
use Rattle.mp_anytime.specs.Scanning.{IsPairTaken}
use Rattle.mp_anytime.specs.Bounds.{AreBounds}
use Rattle.mp_anytime.specs.DiagonalLaws.{all_three}
use Rattle.mp_anytime.proofs.Quiet.{always_bounds}

-- ---- one slot

-- a nearer window is put in its place
pub taken_by : (slots : Column) (place : ℕ) (found given there : Option Near) → found ≡ given
    → there ≡ get_or slots place None → nearer_of there found ≡ found
    → set slots place found ≡ taken slots place given
taken_by slots place found given there is at nearer =
    ap (set slots place)
    (sym (ap (λ s. nearer_of s given) (sym at) ∙ ap (nearer_of there) (sym is) ∙ nearer))

-- and no other one
pub not_taken : (slots : Column) (place : ℕ) (found given there : Option Near) → found ≡ given
    → there ≡ get_or slots place None → nearer_of there found ≡ there → slots ≡ taken slots place given
not_taken slots place found given there is at nearer =
    sym (ap (set slots place)
    (ap (λ s. nearer_of s given) (sym at) ∙ ap (nearer_of there) (sym is) ∙ nearer ∙ at)
    ∙ set-get_or slots place None)

-- ---- lists

set_at : {X : Type 0} (P : ℕ → X → Type 0) (d : X) (v : List X) (n : ℕ) (z : X) → n < length v → P n z
    → (k : ℕ)
    → (k ≢ n → P k (get_or v k d)) → P k (get_or (set v n z) k d)
set_at P d v n z lt here k before = elim (cases_eq k n) [
  | inl same ↦ subst (λ q. P q (get_or (set v n z) q d)) (sym same)
      (subst (P n) (sym (get_or-set_same v n z d lt)) here)
  | inr other ↦ subst (P k) (sym (get_or-set_other v n k z d other)) (before other)
]

-- places before i are merged
pub record AreMergedBelow (i : ℕ) (old others new : Column) : Type 0 where
  pub places : length new ≡ length old
  pub done : (k : ℕ) → k < i → get_or new k None ≡ nearer_of (get_or old k None) (get_or others k None)
  pub left : (k : ℕ) → i ≤ k → get_or new k None ≡ get_or old k None

pub none_merged : (old others : Column) → AreMergedBelow 0 old others old
none_merged old others = record {
  places = refl;
  done = λ k lt. absurd (omega (arith, lt));
  left = λ _ _. refl;
}

pub merged_next : (i : ℕ) (old others now new : Column) (slot : Option Near) → i < length old
    → AreMergedBelow i old others now → slot ≡ get_or others i None → new ≡ taken now i slot
    → AreMergedBelow (i + 1) old others new
merged_next i old others now new slot lt h e is =
    let merged : Option Near = nearer_of (get_or now i None) slot in
    subst (AreMergedBelow (i + 1) old others) (sym is) (record {
      places = length-set now i merged ∙ h.places;
      done = λ k below. set_at (λ j s. s ≡ nearer_of (get_or old j None) (get_or others j None)) None now i merged
          (omega (arith, h.places, lt))
          (ap (λ x. nearer_of x slot) (h.left i (omega arith)) ∙ ap (nearer_of (get_or old i None)) e) k
          (λ ne. h.done k (omega (arith, below, ne)));
      left = λ k behind. get_or-set_other now i k merged None (λ same. omega (arith, same, behind))
          ∙ h.left k (omega (arith, behind));
    })

pub all_merged : (i : ℕ) (old others new : Column) → length others ≡ length old → length old ≤ i
    → AreMergedBelow i old others new → new ≡ merged_column old others
all_merged i old others new long all h =
    ext_get_or None new (merged_column old others) (h.places ∙ sym (length-zip2 nearer_of old others (sym long)))
    (λ k lt. h.done k (omega (arith, lt, all, h.places))
    ∙ sym (get_or-zip2 nearer_of old others k None None None (omega (arith, lt, h.places))
    (omega (arith, lt, long, h.places))))

-- places before i are copied
pub copied_next : (i : ℕ) (slots others : Column) (slot : Option Near) → i < length slots
    → ((q : ℕ) → q < i → get_or slots q None ≡ get_or others q None) → slot ≡ get_or others i None
    → (q : ℕ) → q < i + 1 → get_or (set slots i slot) q None ≡ get_or others q None
copied_next i slots others slot lt before e q below =
    set_at (λ j s. s ≡ get_or others j None) None slots i slot lt e q
    (λ ne. before q (omega (arith, below, ne)))

-- places before i are cleared
pub cleared_next : (i : ℕ) (slots : Column) (slot : Option Near) → i < length slots
    → ((q : ℕ) → q < i → get_or slots q None ≡ None) → slot ≡ None
    → (q : ℕ) → q < i + 1 → get_or (set slots i slot) q None ≡ None
cleared_next i slots slot lt before e q below =
    set_at (λ _ s. s ≡ None) None slots i slot lt e q (λ ne. before q (omega (arith, below, ne)))

pub all_cleared : (n : ℕ) (slots : Column) → length slots ≡ n
    → ((q : ℕ) → q < n → get_or slots q None ≡ None)
    → slots ≡ replicate n None
all_cleared n slots long h =
    ext_get_or None slots (replicate n None) (long ∙ sym (length-replicate {A = Option Near} n None))
    (λ k lt. h k (omega (arith, lt, long)) ∙ sym (get_or-replicate n k None None (omega (arith, lt, long))))

-- ---- both sides

-- the lesser of both sides of two
pub crossed_columns : (a b c d : Column) → merged_column (merged_column a b) (merged_column c d)
    ≡ merged_column (merged_column a c) (merged_column b d)
crossed_columns a b c d =
    zip_associates nearer_of nearer_associates a b (merged_column c d)
    ∙ ap (merged_column a) (sym (zip_associates nearer_of nearer_associates b c d)
    ∙ ap (λ x. merged_column x d) (zip_commutes nearer_of nearer_commutes b c)
    ∙ zip_associates nearer_of nearer_associates c b d)
    ∙ sym (zip_associates nearer_of nearer_associates a c (merged_column b d))

never_itself : (i j k : ℕ) → i < j → either_way (only i j) k k ≡ false
never_itself i j k lt = grind (arith, nat_tests)

-- a pair is offered on both sides
pub sides_offered : (i j dist : ℕ) (old new : Profiled) → i < j → old.all ≡ merged_column old.left old.right
    → new.all ≡ merged_column new.left new.right → new.left ≡ offered old.left j (near_at i dist)
    → new.right ≡ offered old.right i (near_at j dist) → new.room ≡ old.room → new.spare ≡ old.spare
    → IsPairTaken i j true dist old new
sides_offered i j dist old new order was lesser left right room spare = λ m a places within is.
    let sides = sided_pair i j m a (sides_of old) (sides_of new) (Some dist) places.sides order within (sym is) left
    right room in
    let p = profile_among (only i j) m a in
    record {
      all = lesser ∙ ap (λ (c : Column). merged_column c new.right) sides.left
          ∙ ap (merged_column (merged_column old.left p.left)) sides.right
          ∙ crossed_columns old.left p.left old.right p.right
          ∙ ap (λ (c : Column). merged_column c (merged_column p.left p.right)) (sym was)
          ∙ ap (merged_column old.all)
          (sym (profiles_are_of_both_sides.any (either_way (only i j)) (λ k. never_itself i j k order) m a));
      sides = sides;
      spare = spare;
    }

-- ---- bounds

pub always_of : (m shift : ℕ) (slots old : Column) (bounds : List ℤ) → slots ≡ old
    → bounds ≡ replicate (length old) (pos 2147483647) → AreBounds m shift slots bounds
always_of m shift slots old bounds e f =
    subst (AreBounds m shift slots) (sym f) (always_bounds m shift slots (length old) (ap length (sym e)))

-- ---- columns of both sides

three : (a b c a' b' c' : Column) → a ≡ a' → b ≡ b' → c ≡ c'
    → ◌≡◌ {A = Value} (a ∷ b ∷ c ∷ []) (a' ∷ b' ∷ c' ∷ [])
three a b c a' b' c' e f g = cc

pub sides_merged : (l r l' r' m s : Column) → l' ≡ merged_column l m → r' ≡ merged_column r s
    → ◌≡◌ {A = Value} (merged_column l' r' ∷ l' ∷ r' ∷ [])
    (merged_columns (merged_column l r ∷ l ∷ r ∷ []) (merged_column m s ∷ m ∷ s ∷ []))
sides_merged l r l' r' m s e f =
    three _ _ _ _ _ _
    (ap (λ (c : Column). merged_column c r') e ∙ ap (merged_column (merged_column l m)) f
    ∙ crossed_columns l m r s) e f

pub sides_same : (l r l' r' : Column) → l' ≡ l → r' ≡ r
    → ◌≡◌ {A = Value} (merged_column l' r' ∷ l' ∷ r' ∷ []) (merged_column l r ∷ l ∷ r ∷ [])
sides_same l r l' r' e f =
    three _ _ _ _ _ _ (ap (λ (c : Column). merged_column c r') e ∙ ap (merged_column l) f) e f

pub sides_cleared : (n : ℕ) (l r : Column) → l ≡ empty_column n → r ≡ empty_column n
    → ◌≡◌ {A = Value} (merged_column l r ∷ l ∷ r ∷ []) (empty_columns 3 n)
sides_cleared n l r e f =
    three _ _ _ _ _ _
    (ap (λ (c : Column). merged_column c r) e ∙ ap (merged_column (empty_column n)) f
    ∙ column_unit n (empty_column n) (length-replicate {A = Option Near} n None)) e f

pub both_long : (l r : Column) → length r ≡ length l → length (merged_column l r) ≡ length l
both_long l r same = length-zip2 nearer_of l r (sym same)

pub sides_have : (n : ℕ) (l r : Column) → length l ≡ n → length r ≡ n
    → HasColumns 3 n (merged_column l r ∷ l ∷ r ∷ [])
sides_have n l r long same = record {
  columns = refl;
  places = all_three (λ column. length column ≡ n) (merged_column l r) l r
      (both_long l r (same ∙ sym long) ∙ long) long same;
}

pub sides_have_all : (l r : Column) → length r ≡ length l
    → HasColumns 3 (length (merged_column l r)) (merged_column l r ∷ l ∷ r ∷ [])
sides_have_all l r same =
    sides_have (length (merged_column l r)) l r (sym (both_long l r same)) (same ∙ sym (both_long l r same))

-- sides of as many windows
pub one_length : (l r l' r' : Column) → length r ≡ length l → length r' ≡ length l'
    → length (merged_column l' r') ≡ length (merged_column l r) → length l' ≡ length l
one_length l r l' r' same same' e = sym (both_long l' r' same') ∙ e ∙ both_long l r same

pub merged_long : (old new others : Column) → length others ≡ length old → new ≡ merged_column old others
    → length new ≡ length old
merged_long old new others same e = ap length e ∙ length-zip2 nearer_of old others (sym same)

-- ---- numbers that are copied

pub copied_numbers : (i : ℕ) (xs ys : List ℤ) (z : ℤ) → i < length xs
    → ((q : ℕ) → q < i → get_or xs q (pos 0) ≡ get_or ys q (pos 0)) → z ≡ get_or ys i (pos 0)
    → (q : ℕ) → q < i + 1 → get_or (set xs i z) q (pos 0) ≡ get_or ys q (pos 0)
copied_numbers i xs ys z lt before e q below =
    set_at (λ j x. x ≡ get_or ys j (pos 0)) (pos 0) xs i z lt e q (λ ne. before q (omega (arith, below, ne)))

pub copied_starts : (i : ℕ) (xs ys : List ℕ) → i < length xs
    → ((q : ℕ) → q < i → get_or xs q 0 ≡ get_or ys q 0)
    → (q : ℕ) → q < i + 1 → get_or (set xs i (get_or ys i 0)) q 0 ≡ get_or ys q 0
copied_starts i xs ys lt before q below =
    set_at (λ j x. x ≡ get_or ys j 0) 0 xs i (get_or ys i 0) lt refl q (λ ne. before q (omega (arith, below, ne)))

-- bounds of no windows
pub always_unit : (m shift n : ℕ) (slots : Column) (bounds : List ℤ) → slots ≡ empty_column n
    → bounds ≡ replicate n (pos 2147483647) → AreBounds m shift slots bounds
always_unit m shift n slots bounds e f =
    subst (AreBounds m shift slots) (sym f)
    (always_bounds m shift slots n (sym (ap length e ∙ length-replicate {A = Option Near} n None)))
