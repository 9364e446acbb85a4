-- Tiles make the multidimensional profile.
use Rattle.std.proofs.Common.{◌≡◌, ℕ, ◌<◌, List, [], ◌∷◌, length, get_or, Bool, refl, sym, ap, ◌∙◌}
use Rattle.std.specs.Prelude.{◌||◌, map}
use Rattle.std.specs.List.{range_with_len}
use Rattle.mp_defs.specs.Series.{Series}
use Rattle.mp_defs.specs.Window.{excl, is_allowed}
use Rattle.mp_defs.specs.Laws.{IsIrreflexive, IsSymmetric}
use Rattle.mp_results.specs.Multi.{windows_in, pair_value, multi_of}
use Rattle.mp_partial.specs.Values.{Column, merged_columns, empty_columns, merged_over}
use Rattle.mp_cuts.specs.declared.cuts.Tile.{Tile}
use Rattle.mp_cuts.specs.Pairs.{has_pair, no_tile}
use Rattle.mp_cuts.specs.Cutting.{own_tiles}
use Rattle.mp_cuts.specs.Laws.{HoldEachOnce}
use Rattle.mp_tiles.specs.Among.{either_way}
use Rattle.mp_tiles.specs.PairLaws.{apart_both, apart_never, are_apart, either_may, either_more, some_has}
use Rattle.mp_tiles.specs.PairLaws.{own_tiles_hold_each_once, tiles_by_number}
use Rattle.mp_multi.specs.Among.{least_column, multi_among}
use Rattle.mp_multi.specs.Tiles.{tiles_value, TilesMakeTheMulti}
use Rattle.mp_multi.proofs.ColumnLemmas.{least_same, least_either, least_none}

-- ---- the pairs of some tiles

-- the values of some tiles together are the column of their pairs
tiles_together : (tile : ℕ → Tile) (m k : ℕ) (channels : List Series) (ns : List ℕ)
    → merged_over merged_columns (empty_columns 1 (windows_in m channels))
    (λ n. multi_among (has_pair 0 (tile n)) m k channels ∷ []) ns
    ≡ multi_among (some_has 0 (map tile ns)) m k channels ∷ []
tiles_together tile m k channels [] =
    ap (λ (c : Column). c ∷ [])
    (sym (least_none (either_way (some_has 0 [])) (pair_value m k channels) (windows_in m channels) (λ i j _ _. refl)))
tiles_together tile m k channels (n ∷ ns) =
    let here = either_way (has_pair 0 (tile n)) in
    let there = either_way (some_has 0 (map tile ns)) in
    let at = pair_value m k channels in
    let w = windows_in m channels in
    ap (merged_columns (least_column here at w ∷ [])) (tiles_together tile m k channels ns)
    ∙ ap (λ (c : Column). c ∷ [])
    (sym (least_either here there at w)
    ∙ least_same (λ i j. here i j || there i j) (either_way (some_has 0 (map tile (n ∷ ns)))) at w
    (λ i j _ _. either_more (tile n) (map tile ns) i j))

pub among_tiles : (m k : ℕ) (channels : List Series) (tiles : List Tile)
    → tiles_value m k channels tiles ≡ multi_among (some_has 0 tiles) m k channels ∷ []
among_tiles m k channels tiles =
    tiles_together (λ n. get_or tiles n no_tile) m k channels (range_with_len 0 (length tiles))
    ∙ ap (λ ts. multi_among (some_has 0 ts) m k channels ∷ []) (tiles_by_number tiles)

any_tiles : (may : ℕ → ℕ → Bool) → IsIrreflexive may → IsSymmetric may → (m k : ℕ) (channels : List Series)
    (tiles : List Tile) → HoldEachOnce may (windows_in m channels) tiles
    → tiles_value m k channels tiles ≡ least_column may (pair_value m k channels) (windows_in m channels) ∷ []
any_tiles may irreflexive symmetric m k channels tiles once =
    among_tiles m k channels tiles
    ∙ ap (λ (c : Column). c ∷ [])
    (least_same (either_way (some_has 0 tiles)) may (pair_value m k channels) (windows_in m channels)
    (either_may may irreflexive symmetric (windows_in m channels) tiles once))

-- ---- the cut outside the exclusion zone

-- the cut of the windows that start further apart than a zone has the column of their pairs
pub tiles_apart : (m k width zone : ℕ) (channels : List Series) → 0 < width
    → tiles_value m k channels (own_tiles (windows_in m channels) zone width)
    ≡ least_column (are_apart zone) (pair_value m k channels) (windows_in m channels) ∷ []
tiles_apart m k width zone channels pos =
    any_tiles (are_apart zone) (apart_never zone) (apart_both zone) m k channels
    (own_tiles (windows_in m channels) zone width)
    (own_tiles_hold_each_once zone (windows_in m channels) width pos)

pub make_the_multi : TilesMakeTheMulti
make_the_multi = record {
  any = any_tiles;
  own = λ m k width channels pos. tiles_apart m k width (excl m) channels pos;
}

-- ---- some pairs and others

-- some pairs and others that together may be compared make the multidimensional profile
pub among_and_others : (pairs others : ℕ → ℕ → Bool) (m k : ℕ) (channels : List Series)
    → ((i j : ℕ) → i < windows_in m channels → j < windows_in m channels
    → (either_way pairs i j || others i j) ≡ is_allowed m i j)
    → merged_columns (multi_among pairs m k channels ∷ [])
    (least_column others (pair_value m k channels) (windows_in m channels) ∷ [])
    ≡ multi_of m k channels ∷ []
among_and_others pairs others m k channels may =
    let at = pair_value m k channels in
    let w = windows_in m channels in
    ap (λ (c : Column). c ∷ [])
    (sym (least_either (either_way pairs) others at w)
    ∙ least_same (λ i j. either_way pairs i j || others i j) (is_allowed m) at w may)
