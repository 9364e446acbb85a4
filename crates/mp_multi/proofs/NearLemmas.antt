-- The tiles of the windows that start close together have the multidimensional profile with those of the others.
use Rattle.std.proofs.Common.{◌≡◌, ℕ, ◌+◌, ◌<◌, List, [], ◌∷◌, length, sym, ap, ◌∙◌, arith, subst}
use Rattle.std.specs.Prelude.{map}
use Rattle.mp_nums.specs.declared.samples.Sample.{Sample}
use Rattle.mp_defs.specs.Series.{series_of}
use Rattle.mp_defs.specs.Window.{excl}
use Rattle.mp_results.specs.Multi.{windows_in, multi_of}
use Rattle.mp_partial.specs.Values.{Value, merged_columns, empty_columns, merged_below}
use Rattle.mp_cuts.specs.declared.cuts.Tile.{Tile}
use Rattle.mp_cuts.specs.Cutting.{own_tiles}
use Rattle.mp_tiles.specs.declared.near.Bands.{Bands}
use Rattle.mp_tiles.specs.Near.{IsBands, bands_of}
use Rattle.mp_tiles.specs.NearLaws.{near_or_apart}
use Rattle.mp_tiles.specs.PairLaws.{are_apart, some_has}
use Rattle.mp_multi.specs.Among.{multi_among}
use Rattle.mp_multi.specs.Tiles.{tile_value, tiles_value}
use Rattle.mp_multi.specs.Tiling.{multi_together, window_count}
use Rattle.mp_multi.specs.TilingLaws.{windows_of_channels}
use Rattle.mp_multi.proofs.TileLaws.{among_and_others, among_tiles, tiles_apart}

-- near windows and those that start further apart have the profile together
pub near_and_others : (m k : ℕ) (channels : List (List Sample)) (zone w tile : ℕ) (bands : Bands) (far : List Tile)
    → zone ≡ excl m → w ≡ window_count m channels → 0 < tile → IsBands (zone + 1) w bands
    → far ≡ own_tiles w bands.last tile
    → merged_columns (multi_together (record { channels = channels; m = m; k = k; tiles = bands_of bands }))
    (multi_together (record { channels = channels; m = m; k = k; tiles = far }))
    ≡ multi_of m k (map series_of channels) ∷ []
near_and_others m k channels zone w tile bands far same_zone same_w pos h cut =
    let all = map series_of channels in
    let near = bands_of bands in
    let count : windows_in m all ≡ w = sym (windows_of_channels m channels) ∙ sym same_w in
    let is_near = some_has 0 near in
    let may = λ (i j : ℕ) (lt : i < windows_in m all) (lt' : j < windows_in m all).
    near_or_apart zone w bands h i j (omega (arith, lt, count)) (omega (arith, lt', count))
    ∙ ap (λ z. are_apart z i j) same_zone in
    let of_size : ℕ → Type 0 = λ n.
    merged_columns (merged_below merged_columns (empty_columns 1 n) (tile_value m k all near) (length near))
    (merged_below merged_columns (empty_columns 1 n) (tile_value m k all far) (length far))
    ≡ multi_of m k all ∷ [] in
    subst of_size (sym (windows_of_channels m channels))
    (ap (λ (v : Value). merged_columns v (tiles_value m k all far)) (among_tiles m k all near)
    ∙ ap (merged_columns (multi_among is_near m k all ∷ []))
    (ap (tiles_value m k all) (cut ∙ ap (λ n. own_tiles n bands.last tile) (sym count))
    ∙ tiles_apart m k tile bands.last all pos)
    ∙ among_and_others is_near (are_apart bands.last) m k all may)
