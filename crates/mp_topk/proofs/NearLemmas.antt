-- The tiles of the windows that start close together have the ranks with those of the others.
use Rattle.std.proofs.Common.{◌≡◌, ℕ, ◌+◌, ◌<◌, List, length, sym, ap, ◌∙◌, arith, subst}
use Rattle.std.specs.Prelude.{map}
use Rattle.mp_nums.specs.declared.samples.Sample.{Sample}
use Rattle.mp_defs.specs.Series.{series_of}
use Rattle.mp_defs.specs.Window.{windows, excl}
use Rattle.mp_defs.specs.Profile.{windows_of}
use Rattle.mp_defs.specs.SeriesLaws.{series_are_of_samples}
use Rattle.mp_partial.specs.Values.{merged_below}
use Rattle.mp_cuts.specs.declared.cuts.Tile.{Tile}
use Rattle.mp_cuts.specs.Cutting.{own_tiles}
use Rattle.mp_tiles.specs.declared.near.Bands.{Bands}
use Rattle.mp_tiles.specs.Among.{either_way}
use Rattle.mp_tiles.specs.Near.{IsBands, bands_of}
use Rattle.mp_tiles.specs.NearLaws.{near_or_apart}
use Rattle.mp_tiles.specs.PairLaws.{are_apart, some_has}
use Rattle.mp_results.specs.Ranks.{ranks_of}
use Rattle.mp_topk.specs.Ranking.{merged_ranks, no_ranks, slots_of}
use Rattle.mp_topk.specs.Tiling.{among_value, ranks_together, tile_value, tiles_value}
use Rattle.mp_topk.specs.TileLaws.{among_and_others, among_tiles, tiles_apart}

-- near windows and those that start further apart have the ranks together
pub near_and_others : (k : ℕ) (samples : List Sample) (m zone w tile : ℕ) (bands : Bands) (far : List Tile)
    → zone ≡ excl m → w ≡ windows (length samples) m → 0 < tile → IsBands (zone + 1) w bands
    → far ≡ own_tiles w bands.last tile
    → merged_ranks k (ranks_together k (record { samples = samples; m = m; tiles = bands_of bands }))
    (ranks_together k (record { samples = samples; m = m; tiles = far }))
    ≡ map slots_of (ranks_of k m (series_of samples))
near_and_others k samples m zone w tile bands far same_zone same_w pos h cut =
    let a = series_of samples in
    let near = bands_of bands in
    let count : windows_of m a ≡ w = series_are_of_samples.windows_are m samples ∙ sym same_w in
    let is_near = some_has 0 near in
    let may = λ (i j : ℕ) (lt : i < windows_of m a) (lt' : j < windows_of m a).
    near_or_apart zone w bands h i j (omega (arith, lt, count)) (omega (arith, lt', count))
    ∙ ap (λ z. are_apart z i j) same_zone in
    let of_size : ℕ → Type 0 = λ n.
    merged_ranks k (merged_below (merged_ranks k) (no_ranks n) (tile_value k m a near) (length near))
    (merged_below (merged_ranks k) (no_ranks n) (tile_value k m a far) (length far))
    ≡ map slots_of (ranks_of k m a) in
    subst of_size (series_are_of_samples.windows_are m samples)
    (ap (λ v. merged_ranks k v (tiles_value k m a far)) (among_tiles k m a near)
    ∙ ap (merged_ranks k (among_value k (either_way is_near) m a))
    (ap (tiles_value k m a) (cut ∙ ap (λ n. own_tiles n bands.last tile) (sym count))
    ∙ tiles_apart k m tile bands.last a pos)
    ∙ among_and_others k is_near (are_apart bands.last) m a may)
