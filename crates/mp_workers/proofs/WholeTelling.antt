-- Why workers that told of all pieces told of all of the profile.
use Rattle.std.proofs.Common.{◌≡◌, ℕ, zero, suc, ◌+◌, ◌-◌, ◌<◌, ◌⊎◌, Bool, true, false, List, [], ◌∷◌, length}
use Rattle.std.proofs.Common.{get_or, inl, inr, refl, sym, ap, subst, ◌∙◌, arith, rules}
use Rattle.std.specs.Prelude.{Option, Some, None, All, ◌&&◌, ◌||◌, nat_lt, if◌then◌else◌}
use Rattle.std.specs.List.{range_with_len}
use Rattle.std.proofs.lemmas.Bool.{cases_lt}
use Rattle.std.proofs.lemmas.Bool.Decides.{nat_tests}
use Rattle.std.proofs.Math.ListN.{get_or-eq_default}
use Rattle.std.proofs.lemmas.List.Elements.{All-head, All-tail}
use Rattle.std.proofs.lemmas.List.FromFn.{get_or-range_with_len, length-range_with_len}
use Rattle.mp_nums.specs.declared.nearest.Near.{Near}
use Rattle.mp_nums.specs.Near.{comes_before, nearer_of}
use Rattle.mp_cuts.specs.declared.cuts.Tile.{Tile}
use Rattle.mp_cuts.specs.Pairs.{has_pair}
use Rattle.mp_defs.specs.Series.{Series, series_of}
use Rattle.mp_defs.specs.SeriesLaws.{series_are_of_samples}
use Rattle.mp_defs.specs.Window.{is_allowed}
use Rattle.mp_defs.specs.DistanceLaws.{symmetric}
use Rattle.mp_defs.specs.Least.{near_at}
use Rattle.mp_defs.specs.Laws.{IsNearest, IsNearestWindow}
use Rattle.mp_defs.specs.NearestLaws.{entries_are_nearest, zone_is_mutual}
use Rattle.mp_defs.specs.ColumnLaws.{columns_have_places}
use Rattle.mp_defs.specs.Profile.{column, windows_of, left_entry, right_entry}
use Rattle.mp_partial.specs.Values.{Column, Value, empty_column, empty_columns, merged_column, merged_columns}
use Rattle.mp_partial.specs.Values.{merged_over}
use Rattle.mp_tiles.specs.Among.{either_way}
use Rattle.mp_tiles.specs.Pieces.{OwnTiling, own_size, own_together, own_value, own_whole}
use Rattle.mp_workers.specs.Entries.{EntriesState, Told, count_of, left_of, right_of, whole_of}
use Rattle.mp_workers.specs.SharedTiles.{series_in}
use Rattle.mp_workers.specs.Tellers.{ComesBefore, IsKnown, IsTold, IsWholeTold}
use Rattle.mp_workers.specs.ToldTiles.{IsPieceTold, pairs_in}
use Rattle.mp_workers.proofs.Entering.{left_at, right_at}

-- ---- what stands in merged columns stands in one of them

either_slot : (a b : Option Near) (near : Near) → nearer_of a b ≡ Some near → (a ≡ Some near) ⊎ (b ≡ Some near)
either_slot None b near e = inr e
either_slot (Some a) None near e = inl e
either_slot (Some a) (Some b) near e = by (comes_before b a) e
  where
    by : (first : Bool) → (if first then Some b else Some a) ≡ Some near
        → (Some a ≡ Some near) ⊎ (Some b ≡ Some near)
    by true is = inr is
    by false is = inl is

merged_slot : (xs ys : Column) (p : ℕ) (near : Near) → get_or (merged_column xs ys) p None ≡ Some near
    → (get_or xs p None ≡ Some near) ⊎ (get_or ys p None ≡ Some near)
merged_slot [] ys p near e = absurd (cc (e))
merged_slot (x ∷ xs) [] p near e = absurd (cc (e))
merged_slot (x ∷ xs) (y ∷ ys) zero near e = either_slot x y near e
merged_slot (x ∷ xs) (y ∷ ys) (suc p) near e = merged_slot xs ys p near e

-- a slot of one of some columns
abbrev slot_in : Value → ℕ → ℕ → Option Near
slot_in value c p = get_or (get_or value c []) p None

columns_slot : (v w : Value) (c p : ℕ) (near : Near) → slot_in (merged_columns v w) c p ≡ Some near
    → (slot_in v c p ≡ Some near) ⊎ (slot_in w c p ≡ Some near)
columns_slot [] w c p near e = absurd (cc (e))
columns_slot (x ∷ xs) [] c p near e = absurd (cc (e))
columns_slot (x ∷ xs) (y ∷ ys) zero p near e = merged_slot x y p near e
columns_slot (x ∷ xs) (y ∷ ys) (suc c) p near e = columns_slot xs ys c p near e

none_there : (n p : ℕ) → get_or (empty_column n) p None ≡ None
none_there zero p = refl
none_there (suc n) zero = refl
none_there (suc n) (suc p) = none_there n p

none_in : (count n c p : ℕ) → slot_in (empty_columns count n) c p ≡ None
none_in zero n c p = refl
none_in (suc count) n zero p = none_there n p
none_in (suc count) n (suc c) p = none_in count n c p

no_slot : (near : Near) → None ≡ Some near → ⊥
no_slot near e = cc

-- what pieces have together some piece has
from_pieces : (own : OwnTiling) (c p : ℕ) (near : Near) (Found : Type 0) (P : ℕ → Type 0) (ks : List ℕ) → All P ks
    → ((k : ℕ) → P k → slot_in (own_value own k) c p ≡ Some near → Found)
    → slot_in (merged_over merged_columns (empty_columns 2 (own_size own)) (own_value own) ks) c p ≡ Some near → Found
from_pieces own c p near Found P [] all h e =
    absurd (no_slot near (sym (none_in 2 (own_size own) c p) ∙ e))
from_pieces own c p near Found P (k ∷ ks) all h e =
    elim (columns_slot (own_value own k)
    (merged_over merged_columns (empty_columns 2 (own_size own)) (own_value own) ks) c p near e) [
      | inl here ↦ h k (All-head P k ks all) here
      | inr later ↦ from_pieces own c p near Found P ks (All-tail P k ks all) h later
    ]

-- ---- a piece in which the window of the profile stands

-- there is a window where a slot is not empty
is_window : (f : ℕ → Option Near) (w p : ℕ) (near : Near) → get_or (column f w) p None ≡ Some near → p < w
is_window f w p near e = elim (cases_lt p w) [
  | inl lt ↦ lt
  | inr le ↦ absurd (no_slot near (sym (get_or-eq_default (column f w) None
      (omega (arith, le, columns_have_places.count f w))) ∙ e))
]

at_window : (f : ℕ → Option Near) (w p : ℕ) (near : Near) → get_or (column f w) p None ≡ Some near
    → f p ≡ Some near
at_window f w p near e = sym (columns_have_places.at_place f w p (is_window f w p near e)) ∙ e

nearest_found : (m : ℕ) (may : ℕ → Bool) (a b : Series) (i : ℕ) (slot : Option Near) (near : Near)
    → slot ≡ Some near → IsNearest m may a i b slot → IsNearestWindow m may a i b near
nearest_found m may a b i slot near e is = subst (IsNearest m may a i b) e is

both_hold : (s t : Bool) → (s && t) ≡ true → (s ≡ true) × (t ≡ true)
both_hold true true e = (refl, refl)
both_hold true false e = absurd (cc (e))
both_hold false t e = absurd (cc (e))

-- the first of a pair is its row
pair_behind : (tile : Tile) (i j : ℕ) → (has_pair 0 tile i j || has_pair 0 tile j i) ≡ true → nat_lt i j ≡ true
    → has_pair 0 tile i j ≡ true
pair_behind tile i j e lt =
    let less : i < j = grind (arith, nat_tests, lt) in
    by (has_pair 0 tile i j) (has_pair 0 tile j i) e
    (λ back. grind (arith, nat_tests, less, back))
  where
    by : (s t : Bool) → (s || t) ≡ true → (t ≡ true → ⊥) → s ≡ true
    by true t e none = refl
    by false t e none = absurd (none e)

pair_before : (tile : Tile) (i j : ℕ) → (has_pair 0 tile j i || has_pair 0 tile i j) ≡ true → nat_lt i j ≡ true
    → has_pair 0 tile i j ≡ true
pair_before tile i j e lt =
    let less : i < j = grind (arith, nat_tests, lt) in
    by (has_pair 0 tile j i) (has_pair 0 tile i j) e
    (λ back. grind (arith, nat_tests, less, back))
  where
    by : (s t : Bool) → (s || t) ≡ true → (s ≡ true → ⊥) → t ≡ true
    by true t e none = absurd (none refl)
    by false t e none = e

never_before : (near : Near) → comes_before near (near_at near.index near.dist.0) ≡ true → ⊥
never_before near e = grind (arith, nat_tests, e)

-- what is known of a window of the whole is told
known_is_told : (told : Told) (whole : Column) (place : ℕ) (near : Near) → get_or whole place None ≡ Some near
    → IsKnown told whole place near.index near.dist.0 → IsTold told place near
known_is_told told whole place near e (inl is) = is
known_is_told told whole place near e (inr before) =
    absurd (never_before near (subst (λ slot. ComesBefore slot near.index near.dist.0) e before))

left_told : (own : OwnTiling) (told : Told) (k p : ℕ) (near : Near) → IsPieceTold own told k
    → slot_in (own_value own k) 0 p ≡ Some near → get_or (left_of (series_in own)) p None ≡ Some near
    → IsTold told p near
left_told own told k p near is here whole =
    let m = own.m in
    let a = series_of own.samples in
    let s = series_in own in
    let pairs = pairs_in own k in
    let windows : windows_of m a ≡ count_of s = series_are_of_samples.windows_are m own.samples in
    let lt : p < count_of s =
    omega (arith, windows, is_window (left_entry (is_allowed m) m a) (windows_of m a) p near whole) in
    let found = nearest_found m (λ j. either_way pairs p j && nat_lt j p) a a p (left_entry (either_way pairs) m a p)
    near (at_window (left_entry (either_way pairs) m a) (windows_of m a) p near here)
    (entries_are_nearest.left (either_way pairs) m a p) in
    let best = nearest_found m (λ j. is_allowed m p j && nat_lt j p) a a p (left_entry (is_allowed m) m a p)
    near (at_window (left_entry (is_allowed m) m a) (windows_of m a) p near whole)
    (entries_are_nearest.left (is_allowed m) m a p) in
    let test = both_hold (either_way pairs p near.index) (nat_lt near.index p) found.may_be in
    let allowed = both_hold (is_allowed m p near.index) (nat_lt near.index p) best.may_be in
    let before : near.index < p = grind (arith, nat_tests, test.1) in
    known_is_told told (whole_of s) p near (left_at s p lt ∙ whole)
    (is.left near.index p near.dist.0 (omega (arith, before, lt)) lt
    (pair_before _ near.index p test.0 test.1)
    (zone_is_mutual.symmetric m near.index p ∙ allowed.0)
    (symmetric m a near.index a p ∙ found.distance_is))

right_told : (own : OwnTiling) (told : Told) (k p : ℕ) (near : Near) → IsPieceTold own told k
    → slot_in (own_value own k) 1 p ≡ Some near → get_or (right_of (series_in own)) p None ≡ Some near
    → IsTold told (count_of (series_in own) + p) near
right_told own told k p near is here whole =
    let m = own.m in
    let a = series_of own.samples in
    let s = series_in own in
    let pairs = pairs_in own k in
    let windows : windows_of m a ≡ count_of s = series_are_of_samples.windows_are m own.samples in
    let lt : p < count_of s =
    omega (arith, windows, is_window (right_entry (is_allowed m) m a) (windows_of m a) p near whole) in
    let found = nearest_found m (λ j. either_way pairs p j && nat_lt p j) a a p
    (right_entry (either_way pairs) m a p)
    near (at_window (right_entry (either_way pairs) m a) (windows_of m a) p near here)
    (entries_are_nearest.right (either_way pairs) m a p) in
    let best = nearest_found m (λ j. is_allowed m p j && nat_lt p j) a a p (right_entry (is_allowed m) m a p)
    near (at_window (right_entry (is_allowed m) m a) (windows_of m a) p near whole)
    (entries_are_nearest.right (is_allowed m) m a p) in
    let test = both_hold (either_way pairs p near.index) (nat_lt p near.index) found.may_be in
    let allowed = both_hold (is_allowed m p near.index) (nat_lt p near.index) best.may_be in
    known_is_told told (whole_of s) (count_of s + p) near (right_at s p ∙ whole)
    (is.right p near.index near.dist.0 lt (omega (arith, found.window, windows))
    (pair_behind _ p near.index test.0 test.1) allowed.0 found.distance_is)

-- ---- all of the profile

pub whole_told : (own : OwnTiling) (entries : EntriesState) (told : Told) → entries ≡ series_in own
    → own_together own ≡ own_whole own → ((piece : ℕ) → piece < length own.tiles → IsPieceTold own told piece)
    → IsWholeTold entries told
whole_told own entries told of together each = λ place near e.
    let s = series_in own in
    let pieces = range_with_len 0 (length own.tiles) in
    let all : All (IsPieceTold own told) pieces =
    λ k d lt. (let below : k < length own.tiles = omega (arith, lt, length-range_with_len 0 (length own.tiles)) in
    let same : get_or pieces k d ≡ k =
    omega (arith, get_or-range_with_len 0 (length own.tiles) k d below) in
    subst (IsPieceTold own told) (sym same) (each k below)) in
    let stands : get_or (whole_of s) place None ≡ Some near =
    subst (λ (t : EntriesState). get_or (whole_of t) place None ≡ Some near) of e in
    elim (cases_lt place (count_of s)) [
      | inl lt ↦ (let here : get_or (left_of s) place None ≡ Some near = sym (left_at s place lt) ∙ stands in
          from_pieces own 0 place near (IsTold told place near) (IsPieceTold own told) pieces all
          (λ k is there. left_told own told k place near is there here)
          (ap (λ v. slot_in v 0 place) together ∙ here))
      | inr le ↦ (let p = place - count_of s in
          let at : count_of s + p ≡ place = omega (arith, le) in
          let here : get_or (right_of s) p None ≡ Some near =
          sym (right_at s p) ∙ subst (λ n. get_or (whole_of s) n None ≡ Some near) (sym at) stands in
          from_pieces own 1 p near (IsTold told place near) (IsPieceTold own told) pieces all
          (λ k is there. subst (λ n. IsTold told n near) at (right_told own told k p near is there here))
          (ap (λ v. slot_in v 1 p) together ∙ here))
    ]
