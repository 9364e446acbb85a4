-- Tiles make the AB-join.
use Rattle.std.proofs.Common.{◌≡◌, ℕ, ◌-◌, ◌<◌, List, [], ◌∷◌, length, get_or, true, refl, sym, ap}
use Rattle.std.proofs.Common.{◌∙◌, subst}
use Rattle.std.specs.Prelude.{◌||◌, map, count_by}
use Rattle.std.specs.List.{range_with_len}
use Rattle.mp_nums.specs.declared.samples.Sample.{Sample}
use Rattle.mp_defs.specs.Series.{Series, series_of}
use Rattle.mp_defs.specs.SeriesLaws.{series_are_of_samples}
use Rattle.mp_defs.specs.Window.{windows}
use Rattle.mp_defs.specs.Profile.{nearest_column, ab_join, windows_of}
use Rattle.mp_defs.specs.ColumnLaws.{columns_by_choice}
use Rattle.mp_partial.specs.Values.{Column, Value, merged_column, merged_columns, empty_columns, merged_over, merged_below}
use Rattle.mp_cuts.specs.declared.cuts.Tile.{Tile}
use Rattle.mp_cuts.specs.Pairs.{has_pair, no_tile}
use Rattle.mp_cuts.specs.Cutting.{both_tiles}
use Rattle.mp_cuts.specs.Laws.{HoldEveryPairOnce}
use Rattle.mp_cuts.specs.CutLaws.{cuts_hold_each_pair_once}
use Rattle.mp_tiles.specs.Laws.{join_tiles_value, TilesMakeTheJoin}
use Rattle.mp_tiles.specs.Pieces.{JoinTiling, join_size, join_value, join_together}
use Rattle.mp_tiles.specs.PairLaws.{some_has, some_more, once_or_not, tiles_by_number}

abbrev one_column : Column → Value
one_column column = column ∷ []

-- the values of some tiles together are the column of their pairs
tiles_together : (origin : ℕ) (tile : ℕ → Tile) (m : ℕ) (a b : Series) (ks : List ℕ)
    → merged_over merged_columns (empty_columns 1 (windows_of m a))
    (λ k. nearest_column (has_pair origin (tile k)) m a b ∷ []) ks
    ≡ one_column (nearest_column (some_has origin (map tile ks)) m a b)
tiles_together origin tile m a b [] =
    ap one_column (sym (columns_by_choice.none m (some_has origin []) a b (λ i j _ _. refl)))
tiles_together origin tile m a b (k ∷ ks) =
    let here = has_pair origin (tile k) in
    let there = some_has origin (map tile ks) in
    ap (merged_columns (one_column (nearest_column here m a b))) (tiles_together origin tile m a b ks)
    ∙ ap one_column (sym (columns_by_choice.either m here there a b)
    ∙ columns_by_choice.same m (λ i j. here i j || there i j) (some_has origin (map tile (k ∷ ks))) a b
    (λ i j _ _. some_more origin (tile k) (map tile ks) i j))

any_tiles : (m : ℕ) (a b : Series) (tiles : List Tile) → HoldEveryPairOnce (windows_of m a) (windows_of m b) tiles
    → join_tiles_value m a b tiles ≡ ab_join m a b ∷ []
any_tiles m a b tiles once =
    let origin = windows_of m a - 1 in
    tiles_together origin (λ k. get_or tiles k no_tile) m a b (range_with_len 0 (length tiles))
    ∙ ap (λ ts. one_column (nearest_column (some_has origin ts) m a b)) (tiles_by_number tiles)
    ∙ ap one_column (columns_by_choice.same m (some_has origin tiles) (λ _ _. true) a b
    (λ i j lt lt'. once_or_not true (count_by (λ t. has_pair origin t i j) tiles) (once i j lt lt')))

pub make_the_join : TilesMakeTheJoin
make_the_join = record {
  any = any_tiles;
  both = λ m width a b pos. any_tiles m a b (both_tiles (windows_of m a) (windows_of m b) width)
      (cuts_hold_each_pair_once.both (windows_of m a) (windows_of m b) width pos);
}

-- the values of a kernel's tiles together
pub together_join : (m width : ℕ) (a b : List Sample) (wa wb : ℕ) (tiles : List Tile) → 0 < width
    → wa ≡ windows (length a) m → wb ≡ windows (length b) m → tiles ≡ both_tiles wa wb width
    → join_together (record { a = a; b = b; m = m; tiles = tiles }) ≡ ab_join m (series_of a) (series_of b) ∷ []
together_join m width a b wa wb tiles pos e f is =
    let x = series_of a in
    let y = series_of b in
    let first = series_are_of_samples.windows_are m a in
    let second = series_are_of_samples.windows_are m b in
    ap (λ w. merged_below merged_columns (empty_columns 1 w)
    (λ k. nearest_column (has_pair (w - 1) (get_or tiles k no_tile)) m x y ∷ []) (length tiles)) (sym first)
    ∙ ap (join_tiles_value m x y)
    (is ∙ ap (λ w. both_tiles w wb width) (e ∙ sym first)
    ∙ ap (λ w. both_tiles (windows_of m x) w width) (f ∙ sym second))
    ∙ make_the_join.both m width x y pos

-- what the tile of a number gives is the value of that piece
pub join_piece_taken : (join seen : JoinTiling) (k w : ℕ) (tile : Tile) (old new : Column) → join ≡ seen
    → get_or join.tiles k no_tile ≡ tile → w ≡ join_size join
    → new ≡ merged_column old (nearest_column (has_pair (w - 1) tile) join.m (series_of join.a) (series_of join.b))
    → ◌≡◌ {A = Value} (new ∷ []) (merged_columns (old ∷ []) (join_value seen k))
join_piece_taken join seen k w tile old new e at size taken =
    let a = series_of join.a in
    let b = series_of join.b in
    subst (λ (j : JoinTiling). ◌≡◌ {A = Value} (new ∷ []) (merged_columns (old ∷ []) (join_value j k))) e
    (ap one_column (taken
    ∙ ap (λ (n : ℕ). merged_column old (nearest_column (has_pair (n - 1) tile) join.m a b)) size
    ∙ ap (λ (t : Tile). merged_column old (nearest_column (has_pair (join_size join - 1) t) join.m a b)) (sym at)))
