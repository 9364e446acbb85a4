-- Why the values of tiles of several channels have the places of their windows.
use Rattle.std.proofs.Common.{◌≡◌, ℕ, zero, suc, List, ◌∷◌, [], length, get_or, map, Bool, refl, sym, ap, ◌∙◌, arith}
use Rattle.std.specs.Prelude.{All}
use Rattle.std.proofs.Math.ListN.{get_or-map}
use Rattle.mp_nums.specs.declared.samples.Sample.{Sample}
use Rattle.mp_defs.specs.Series.{Series, series_of}
use Rattle.mp_defs.specs.Window.{windows}
use Rattle.mp_defs.specs.SeriesLaws.{series_are_of_samples}
use Rattle.mp_defs.specs.Least.{candidate, near}
use Rattle.mp_defs.specs.ColumnLaws.{columns_have_places}
use Rattle.mp_results.specs.Multi.{windows_in, pair_value}
use Rattle.mp_partial.specs.Values.{Column, HasColumns}
use Rattle.mp_tiles.specs.Among.{either_way}
use Rattle.mp_multi.specs.Among.{multi_among}
use Rattle.mp_multi.specs.Tiling.{window_count}

pub windows_of_channels : (m : ℕ) (channels : List (List Sample))
    → window_count m channels ≡ windows_in m (map series_of channels)
windows_of_channels m channels =
    sym (series_are_of_samples.windows_are m (get_or channels 0 []))
    ∙ ap (λ (a : Series). windows (length a) m) (sym (get_or-map series_of channels 0 []))

all_one : (P : Column → Type 0) (a : Column) → P a → All P (a ∷ [])
all_one P a p zero d lt = p
all_one P a p (suc k) d lt = absurd (omega (arith, lt))

pub one_column : (size : ℕ) (column : Column) → length column ≡ size → HasColumns 1 size (column ∷ [])
one_column size column long = record {
  columns = refl;
  places = all_one (λ c. length c ≡ size) column long;
}

pub among_has_places : (pairs : ℕ → ℕ → Bool) (m k : ℕ) (channels : List (List Sample))
    → HasColumns 1 (window_count m channels) (multi_among pairs m k (map series_of channels) ∷ [])
among_has_places pairs m k channels =
    let all = map series_of channels in
    one_column (window_count m channels) (multi_among pairs m k all)
    (columns_have_places.count
    (λ i. near (candidate (either_way pairs i) (pair_value m k all i)) (windows_in m all)) (windows_in m all)
    ∙ sym (windows_of_channels m channels))
