-- What tiles give both sides of the profile.
use Rattle.std.proofs.Common.{◌≡◌, ℕ, List, [], ◌∷◌, length, get_or, refl, ap, sym, ◌∙◌}
use Rattle.std.specs.Prelude.{Option, Some, None, is_some, true}
use Rattle.std.specs.List.{range_with_len}
use Rattle.std.proofs.lemmas.List.{length-replicate}
use Rattle.mp_defs.specs.Series.{Series, series_of}
use Rattle.mp_defs.specs.Profile.{Columns, windows_of}
use Rattle.mp_partial.specs.Values.{Column, Value, merged_column, merged_columns, empty_column, empty_columns}
use Rattle.mp_partial.specs.Values.{merged_over, merged_below}
use Rattle.mp_partial.specs.MergeLaws.{column_unit, columns_merge}
use Rattle.mp_cuts.specs.declared.cuts.Tile.{Tile}
use Rattle.mp_cuts.specs.Pairs.{has_pair, no_tile}
use Rattle.mp_tiles.specs.Among.{profile_among, columns_value}
use Rattle.mp_tiles.specs.Laws.{tiles_value}
use Rattle.mp_tiles.specs.Sides.{Sided, Unfilled, sides_by}
use Rattle.mp_tiles.specs.Pieces.{OwnTiling, own_value, sides_value, two_columns}

-- ---- columns behind a first one

-- the first columns together
abbrev first_over : Column → (ℕ → Column) → List ℕ → Column
first_over none first [] = none
first_over none first (k ∷ ks) = merged_column (first k) (first_over none first ks)

-- the others are merged as if it weren't there
behind_first : (none : Column) (unit : Value) (first : ℕ → Column) (value : ℕ → Value) (ks : List ℕ)
    → merged_over merged_columns (none ∷ unit) (λ k. first k ∷ value k) ks
    ≡ first_over none first ks ∷ merged_over merged_columns unit value ks
behind_first none unit first value [] = refl
behind_first none unit first value (k ∷ ks) =
    ap (merged_columns (first k ∷ value k)) (behind_first none unit first value ks)

pub same_behind : (x y : Column) (xs ys : Value) → x ∷ xs ≡ y ∷ ys → xs ≡ ys
same_behind x y xs ys e = cc

-- what tiles make of all three columns they make of both sides
pub sides_together : (m : ℕ) (a : Series) (tiles : List Tile) (c : Columns) → tiles_value m a tiles ≡ columns_value c
    → merged_below merged_columns (empty_columns 2 (windows_of m a))
    (λ k. sides_value (profile_among (has_pair 0 (get_or tiles k no_tile)) m a)) (length tiles) ≡ sides_value c
sides_together m a tiles c e =
    let part = λ (k : ℕ). profile_among (has_pair 0 (get_or tiles k no_tile)) m a in
    same_behind _ _ _ _
    (sym (behind_first (empty_column (windows_of m a)) (empty_columns 2 (windows_of m a)) (λ k. (part k).all)
    (λ k. sides_value (part k)) (range_with_len 0 (length tiles)))
    ∙ e)

-- ---- a piece

-- what the tile of a number gives is the value of that piece
pub piece_taken : (own seen : OwnTiling) (k : ℕ) (tile : Tile) (old new : Sided) → own ≡ seen
    → get_or own.tiles k no_tile ≡ tile
    → ◌≡◌ {A = Value} (new.left ∷ new.right ∷ []) (merged_columns (old.left ∷ old.right ∷ [])
    (sides_value (profile_among (has_pair 0 tile) own.m (series_of own.samples))))
    → ◌≡◌ {A = Value} (new.left ∷ new.right ∷ []) (merged_columns (old.left ∷ old.right ∷ []) (own_value seen k))
piece_taken own seen k tile old new same is taken =
    let found : Value = old.left ∷ old.right ∷ [] in
    taken
    ∙ ap (λ t. merged_columns found (sides_value (profile_among (has_pair 0 t) own.m (series_of own.samples)))) (sym is)
    ∙ ap (λ o. merged_columns found (own_value o k)) same

-- ---- sides that aren't filled yet

pub nothing_nearer : (n : ℕ) → merged_column (empty_column n) (empty_column n) ≡ empty_column n
nothing_nearer n = column_unit n (empty_column n) (length-replicate n None)

-- a merge with them changes nothing
pub nothing_merged : (room : Option Unfilled) (found other mine : Sided) → sides_by room found ≡ other
    → is_some room ≡ true → length other.left ≡ length mine.left → length mine.right ≡ length mine.left
    → ◌≡◌ {A = Value} (mine.left ∷ mine.right ∷ [])
    (merged_columns (mine.left ∷ mine.right ∷ []) (other.left ∷ other.right ∷ []))
nothing_merged None found other mine e is long same = absurd (cc)
nothing_merged (Some unfilled) found other mine e is long same =
    let n = unfilled.places in
    let value : Value = mine.left ∷ mine.right ∷ [] in
    let size : length mine.left ≡ n = sym long ∙ sym (ap (λ (s : Sided). length s.left) e) ∙ length-replicate n None in
    sym (ap (λ (s : Sided). merged_columns value (s.left ∷ s.right ∷ [])) (sym e)
    ∙ (columns_merge 2).unit_last n value (two_columns n mine.left mine.right size (same ∙ size)))
