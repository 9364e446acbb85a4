-- The tiles of the windows that start close together make the profile with those of the others.
use Rattle.std.proofs.Common.{◌≡◌, ℕ, ◌+◌, ◌<◌, List, length, get_or, sym, ap, ◌∙◌, arith, subst}
use Rattle.mp_nums.specs.declared.samples.Sample.{Sample}
use Rattle.mp_defs.specs.Series.{series_of}
use Rattle.mp_defs.specs.Window.{windows, excl}
use Rattle.mp_defs.specs.Profile.{profile, windows_of, matrix_profile}
use Rattle.mp_defs.specs.SeriesLaws.{series_are_of_samples}
use Rattle.mp_partial.specs.Values.{merged_columns, empty_columns, merged_below}
use Rattle.mp_cuts.specs.declared.cuts.Tile.{Tile}
use Rattle.mp_cuts.specs.Pairs.{has_pair, no_tile}
use Rattle.mp_cuts.specs.Cutting.{own_tiles}
use Rattle.mp_tiles.specs.declared.near.Bands.{Bands}
use Rattle.mp_tiles.specs.Among.{profile_among}
use Rattle.mp_tiles.specs.Laws.{tiles_value}
use Rattle.mp_tiles.specs.Near.{IsBands, bands_of}
use Rattle.mp_tiles.specs.NearLaws.{near_or_apart}
use Rattle.mp_tiles.specs.PairLaws.{are_apart, some_has}
use Rattle.mp_tiles.specs.Pieces.{sides_value, own_together}
use Rattle.mp_tiles.proofs.ProfileLaws.{among_tiles, among_and_others, tiles_apart}
use Rattle.mp_tiles.proofs.SideLemmas.{sides_together, same_behind}

-- near windows and those that start further apart have both sides of the matrix profile together
pub near_and_others : (samples : List Sample) (m zone w tile : ℕ) (bands : Bands) (far : List Tile)
    → zone ≡ excl m → w ≡ windows (length samples) m → 0 < tile → IsBands (zone + 1) w bands
    → far ≡ own_tiles w bands.last tile
    → merged_columns (own_together (record { samples = samples; m = m; tiles = bands_of bands }))
    (own_together (record { samples = samples; m = m; tiles = far }))
    ≡ sides_value (matrix_profile m (series_of samples))
near_and_others samples m zone w tile bands far same_zone same_w pos h cut =
    let a = series_of samples in
    let near = bands_of bands in
    let count : windows_of m a ≡ w = series_are_of_samples.windows_are m samples ∙ sym same_w in
    let is_near = some_has 0 near in
    let may = λ (i j : ℕ) (lt : i < windows_of m a) (lt' : j < windows_of m a).
    near_or_apart zone w bands h i j (omega (arith, lt, count)) (omega (arith, lt', count))
    ∙ ap (λ z. are_apart z i j) same_zone in
    let sides = λ (tiles : List Tile).
    merged_below merged_columns (empty_columns 2 (windows_of m a))
    (λ k. sides_value (profile_among (has_pair 0 (get_or tiles k no_tile)) m a)) (length tiles) in
    let of_size : ℕ → Type 0 = λ n. merged_columns (merged_below merged_columns (empty_columns 2 n)
    (λ k. sides_value (profile_among (has_pair 0 (get_or near k no_tile)) m a)) (length near))
    (merged_below merged_columns (empty_columns 2 n)
    (λ k. sides_value (profile_among (has_pair 0 (get_or far k no_tile)) m a)) (length far))
    ≡ sides_value (matrix_profile m a) in
    subst of_size (series_are_of_samples.windows_are m samples)
    (ap (λ v. merged_columns v (sides far)) (sides_together m a near (profile_among is_near m a) (among_tiles m a near))
    ∙ ap (merged_columns (sides_value (profile_among is_near m a)))
    (sides_together m a far (profile (are_apart bands.last) m a)
    (ap (tiles_value m a) (cut ∙ ap (λ n. own_tiles n bands.last tile) (sym count))
    ∙ tiles_apart m tile bands.last a pos))
    ∙ same_behind _ _ _ _ (among_and_others is_near (are_apart bands.last) m a may))
