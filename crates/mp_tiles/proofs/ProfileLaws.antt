-- Tiles make the profile.
use Rattle.std.proofs.Common.{◌≡◌, ℕ, ◌<◌, List, [], ◌∷◌, length, get_or, Bool, false, refl, sym, ap, ◌∙◌}
use Rattle.std.specs.Prelude.{Option, ◌&&◌, ◌||◌, nat_lt, map}
use Rattle.std.specs.List.{range_with_len}
use Rattle.mp_nums.specs.declared.nearest.Near.{Near}
use Rattle.mp_defs.specs.Series.{Series}
use Rattle.mp_defs.specs.Window.{excl, is_allowed}
use Rattle.mp_defs.specs.Profile.{profile, matrix_profile, windows_of}
use Rattle.mp_defs.specs.Laws.{IsIrreflexive, IsSymmetric}
use Rattle.mp_defs.specs.ColumnLaws.{columns_by_choice}
use Rattle.mp_partial.specs.Values.{Value, merged_columns, empty_columns, merged_over}
use Rattle.mp_cuts.specs.declared.cuts.Tile.{Tile}
use Rattle.mp_cuts.specs.Pairs.{has_pair, no_tile}
use Rattle.mp_cuts.specs.Cutting.{own_tiles}
use Rattle.mp_cuts.specs.Laws.{HoldEachOnce}
use Rattle.mp_tiles.specs.Among.{either_way, profile_among, columns_value}
use Rattle.mp_tiles.specs.Laws.{tiles_value, TilesMakeTheProfile}
use Rattle.mp_tiles.specs.OfferingLaws.{and_either}
use Rattle.mp_tiles.specs.PairLaws.{apart_both, apart_never, are_apart, either_may, either_more, own_tiles_hold_each_once}
use Rattle.mp_tiles.specs.PairLaws.{some_has, tiles_by_number}

-- ---- profiles by tests

same_value : (a b c a' b' c' : List (Option Near)) → a ≡ a' → b ≡ b' → c ≡ c'
    → ◌≡◌ {A = Value} (a ∷ b ∷ c ∷ []) (a' ∷ b' ∷ c' ∷ [])
same_value a b c a' b' c' e f g = cc

pub value_same : (p q : ℕ → ℕ → Bool) (m : ℕ) (a : Series)
    → ((i j : ℕ) → i < windows_of m a → j < windows_of m a → p i j ≡ q i j)
    → columns_value (profile p m a) ≡ columns_value (profile q m a)
value_same p q m a same = same_value _ _ _ _ _ _
    (columns_by_choice.same m p q a a same)
    (columns_by_choice.same m (λ i j. p i j && nat_lt j i) (λ i j. q i j && nat_lt j i) a a
    (λ i j lt lt'. ap (λ t. t && nat_lt j i) (same i j lt lt')))
    (columns_by_choice.same m (λ i j. p i j && nat_lt i j) (λ i j. q i j && nat_lt i j) a a
    (λ i j lt lt'. ap (λ t. t && nat_lt i j) (same i j lt lt')))

value_either : (p q : ℕ → ℕ → Bool) (m : ℕ) (a : Series)
    → columns_value (profile (λ i j. p i j || q i j) m a)
    ≡ merged_columns (columns_value (profile p m a)) (columns_value (profile q m a))
value_either p q m a = same_value _ _ _ _ _ _
    (columns_by_choice.either m p q a a)
    (columns_by_choice.same m (λ i j. (p i j || q i j) && nat_lt j i)
    (λ i j. (p i j && nat_lt j i) || (q i j && nat_lt j i)) a a
    (λ i j _ _. sym (and_either (p i j) (q i j) (nat_lt j i)))
    ∙ columns_by_choice.either m (λ i j. p i j && nat_lt j i) (λ i j. q i j && nat_lt j i) a a)
    (columns_by_choice.same m (λ i j. (p i j || q i j) && nat_lt i j)
    (λ i j. (p i j && nat_lt i j) || (q i j && nat_lt i j)) a a
    (λ i j _ _. sym (and_either (p i j) (q i j) (nat_lt i j)))
    ∙ columns_by_choice.either m (λ i j. p i j && nat_lt i j) (λ i j. q i j && nat_lt i j) a a)

pub value_none : (p : ℕ → ℕ → Bool) (m : ℕ) (a : Series) → ((i j : ℕ) → p i j ≡ false)
    → columns_value (profile p m a) ≡ empty_columns 3 (windows_of m a)
value_none p m a none = same_value _ _ _ _ _ _
    (columns_by_choice.none m p a a (λ i j _ _. none i j))
    (columns_by_choice.none m (λ i j. p i j && nat_lt j i) a a (λ i j _ _. ap (λ t. t && nat_lt j i) (none i j)))
    (columns_by_choice.none m (λ i j. p i j && nat_lt i j) a a (λ i j _ _. ap (λ t. t && nat_lt i j) (none i j)))

-- ---- the pairs of some tiles

-- the values of some tiles together are the profile of their pairs
tiles_together : (tile : ℕ → Tile) (m : ℕ) (a : Series) (ks : List ℕ)
    → merged_over merged_columns (empty_columns 3 (windows_of m a))
    (λ k. columns_value (profile_among (has_pair 0 (tile k)) m a)) ks
    ≡ columns_value (profile_among (some_has 0 (map tile ks)) m a)
tiles_together tile m a [] = sym (value_none (either_way (some_has 0 [])) m a (λ i j. refl))
tiles_together tile m a (k ∷ ks) =
    let here = has_pair 0 (tile k) in
    let there = some_has 0 (map tile ks) in
    ap (merged_columns (columns_value (profile_among here m a))) (tiles_together tile m a ks)
    ∙ sym (value_either (either_way here) (either_way there) m a)
    ∙ value_same (λ i j. either_way here i j || either_way there i j) (either_way (some_has 0 (map tile (k ∷ ks)))) m a
    (λ i j _ _. either_more (tile k) (map tile ks) i j)

-- so are the values of tiles by their numbers
pub among_tiles : (m : ℕ) (a : Series) (tiles : List Tile)
    → tiles_value m a tiles ≡ columns_value (profile_among (some_has 0 tiles) m a)
among_tiles m a tiles =
    tiles_together (λ k. get_or tiles k no_tile) m a (range_with_len 0 (length tiles))
    ∙ ap (λ ts. columns_value (profile_among (some_has 0 ts) m a)) (tiles_by_number tiles)

any_tiles : (may : ℕ → ℕ → Bool) → IsIrreflexive may → IsSymmetric may → (m : ℕ) (a : Series) (tiles : List Tile)
    → HoldEachOnce may (windows_of m a) tiles → tiles_value m a tiles ≡ columns_value (profile may m a)
any_tiles may irreflexive symmetric m a tiles once =
    among_tiles m a tiles
    ∙ value_same (either_way (some_has 0 tiles)) may m a
    (either_may may irreflexive symmetric (windows_of m a) tiles once)

-- some pairs and others that together may be compared make the matrix profile
pub among_and_others : (pairs others : ℕ → ℕ → Bool) (m : ℕ) (a : Series)
    → ((i j : ℕ) → i < windows_of m a → j < windows_of m a → (either_way pairs i j || others i j) ≡ is_allowed m i j)
    → merged_columns (columns_value (profile_among pairs m a)) (columns_value (profile others m a))
    ≡ columns_value (matrix_profile m a)
among_and_others pairs others m a may =
    sym (value_either (either_way pairs) others m a)
    ∙ value_same (λ i j. either_way pairs i j || others i j) (is_allowed m) m a may

-- ---- the cut outside the exclusion zone

-- the cut of the windows that start further apart than a zone is their profile
pub tiles_apart : (m width zone : ℕ) (a : Series) → 0 < width
    → tiles_value m a (own_tiles (windows_of m a) zone width)
    ≡ columns_value (profile (are_apart zone) m a)
tiles_apart m width zone a pos =
    any_tiles (are_apart zone) (apart_never zone) (apart_both zone) m a
    (own_tiles (windows_of m a) zone width) (own_tiles_hold_each_once zone (windows_of m a) width pos)

pub make_the_profile : TilesMakeTheProfile
make_the_profile = record {
  any = any_tiles;
  own = λ m width a pos. tiles_apart m width (excl m) a pos;
}
