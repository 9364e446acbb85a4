-- What the tiles of two series make of slots that begin with some of their pairs.
use Rattle.std.proofs.Common.{◌≡◌, ℕ, List, [], ◌∷◌, true, sym, ap, ◌∙◌}
use Rattle.mp_nums.specs.declared.samples.Sample.{Sample}
use Rattle.mp_defs.specs.Series.{series_of}
use Rattle.mp_defs.specs.Profile.{ab_join}
use Rattle.mp_partial.specs.Values.{Column, Value, merged_columns, empty_columns}
use Rattle.mp_partial.specs.MergeLaws.{columns_merge}
use Rattle.mp_cuts.specs.declared.cuts.Tile.{Tile}
use Rattle.mp_tiles.specs.Pieces.{JoinTiling, join_size, join_together, join_whole, column_has_places}

-- two kernels of the same windows and tiles
pub record AreAlike (one other : JoinTiling) : Type 0 where
  pub a : one.a ≡ other.a
  pub b : one.b ≡ other.b
  pub m : one.m ≡ other.m
  pub tiles : one.tiles ≡ other.tiles

abbrev kernel : List Sample → List Sample → ℕ → List Tile → JoinTiling
kernel a b m tiles = record { a = a; b = b; m = m; tiles = tiles }

same_kernel : (one other : JoinTiling) → AreAlike one other → one ≡ other
same_kernel one other e =
    ap (λ a. kernel a one.b one.m one.tiles) e.a
    ∙ ap (λ b. kernel other.a b one.m one.tiles) e.b
    ∙ ap (λ m. kernel other.a other.b m one.tiles) e.m
    ∙ ap (λ tiles. kernel other.a other.b other.m tiles) e.tiles

-- their values together are the same
pub together_alike : (one other : JoinTiling) → AreAlike one other → join_together one ≡ join_together other
together_alike one other e = ap join_together (same_kernel one other e)

-- the AB-joins of the same windows
whole_same : (one other : JoinTiling) → one.a ≡ other.a → one.b ≡ other.b → one.m ≡ other.m
    → join_whole one ≡ join_whole other
whole_same one other e f g =
    ap (λ a. ab_join one.m (series_of a) (series_of one.b) ∷ []) e
    ∙ ap (λ b. ab_join one.m (series_of other.a) (series_of b) ∷ []) f
    ∙ ap (λ m. ab_join m (series_of other.a) (series_of other.b) ∷ []) g

-- a kernel has the AB-join together where wider tiles of the same windows have
pub whole_alike : (join wide tiles : JoinTiling) → AreAlike join wide → wide.a ≡ tiles.a → wide.b ≡ tiles.b
    → wide.m ≡ tiles.m → join_together wide ≡ join_whole tiles → join_together join ≡ join_whole join
whole_alike join wide tiles e a b m h =
    together_alike join wide e ∙ h
    ∙ sym (whole_same join tiles (e.a ∙ a) (e.b ∙ b) (e.m ∙ m))

only_one : (x y : Column) → ◌≡◌ {A = Value} (x ∷ []) (y ∷ []) → x ≡ y
only_one x y e = cc

-- slots that begin with nothing, and then with what changes nothing of the whole, are the AB-join with all tiles
pub begun_join : (join : JoinTiling) (unit begun new : Column) → join_together join ≡ join_whole join
    → ◌≡◌ {A = Value} (unit ∷ []) (empty_columns 1 (join_size join))
    → merged_columns (begun ∷ []) (join_whole join) ≡ merged_columns (unit ∷ []) (join_whole join)
    → ◌≡◌ {A = Value} (new ∷ []) (merged_columns (begun ∷ []) (join_together join))
    → new ≡ ab_join join.m (series_of join.a) (series_of join.b)
begun_join join unit begun new whole none ahead all =
    only_one new (ab_join join.m (series_of join.a) (series_of join.b))
    (all ∙ ap (merged_columns (begun ∷ [])) whole ∙ ahead ∙ ap (λ v. merged_columns v (join_whole join)) none
    ∙ (columns_merge 1).unit_first (join_size join) (join_whole join)
    (column_has_places (λ _ _. true) join.m join.a join.b))

-- slots that are what all tiles have together are the AB-join
pub whole_items : (join : JoinTiling) (items : Column) → ◌≡◌ {A = Value} (items ∷ []) (join_whole join)
    → items ≡ ab_join join.m (series_of join.a) (series_of join.b)
whole_items join items e = only_one items (ab_join join.m (series_of join.a) (series_of join.b)) e
