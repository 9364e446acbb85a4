-- The parts of tiles give what these do.
use Rattle.std.proofs.Common.{◌≡◌, ℕ, ◌+◌, ◌<◌, List, length, get_or, Bool, false, sym, ap, ◌∙◌, arith, subst}
use Rattle.std.specs.Prelude.{◌&&◌, ◌||◌, nat_le}
use Rattle.std.proofs.lemmas.Bool.Decides.{nat_tests}
use Rattle.mp_nums.specs.declared.samples.Sample.{Sample}
use Rattle.mp_defs.specs.Series.{Series, series_of}
use Rattle.mp_defs.specs.Window.{windows}
use Rattle.mp_defs.specs.SeriesLaws.{series_are_of_samples}
use Rattle.mp_partial.specs.Values.{merged_columns, empty_columns, merged_below}
use Rattle.mp_cuts.specs.declared.cuts.Tile.{Tile}
use Rattle.mp_cuts.specs.Limits.{band_rows}
use Rattle.mp_cuts.specs.Pairs.{has_pair, no_tile, on_its_diagonals}
use Rattle.mp_tiles.specs.Among.{either_way, profile_among, columns_value}
use Rattle.mp_tiles.specs.PairLaws.{some_has}
use Rattle.mp_tiles.specs.Pieces.{sides_value, own_together}
use Rattle.mp_tiles.specs.RowParts.{parts_of}
use Rattle.mp_tiles.specs.RowPartLaws.{parts_have_pairs}
use Rattle.mp_tiles.proofs.ProfileLaws.{among_tiles, value_none, value_same}
use Rattle.mp_tiles.proofs.SideLemmas.{same_behind, sides_together}

among_parts : (parts m : ℕ) (a : Series) (tiles : List Tile) → 0 < parts
    → ((k : ℕ) → (get_or tiles k no_tile).last_row < (get_or tiles k no_tile).first_row + band_rows)
    → columns_value (profile_among (some_has 0 (parts_of parts tiles)) m a)
    ≡ columns_value (profile_among (some_has 0 tiles) m a)
among_parts parts m a tiles some few =
    let parted = some_has 0 (parts_of parts tiles) in
    let whole = some_has 0 tiles in
    value_same (either_way parted) (either_way whole) m a
    (λ i j _ _. ap (λ p. p || parted j i) (parts_have_pairs parts tiles i j some few)
    ∙ ap (λ p. whole i j || p) (parts_have_pairs parts tiles j i some few))

-- the values of all parts together are those of all tiles
pub parts_together : (parts m : ℕ) (samples : List Sample) (tiles : List Tile) → 0 < parts
    → ((k : ℕ) → (get_or tiles k no_tile).last_row < (get_or tiles k no_tile).first_row + band_rows)
    → own_together (record { samples = samples; m = m; tiles = parts_of parts tiles })
    ≡ own_together (record { samples = samples; m = m; tiles = tiles })
parts_together parts m samples tiles some few =
    let a = series_of samples in
    let sides = λ (w : ℕ) (ts : List Tile). merged_below merged_columns (empty_columns 2 w)
    (λ k. sides_value (profile_among (has_pair 0 (get_or ts k no_tile)) m a)) (length ts) in
    let parted = parts_of parts tiles in
    subst (λ w. sides w parted ≡ sides w tiles) (series_are_of_samples.windows_are m samples)
    (sides_together m a parted (profile_among (some_has 0 parted) m a) (among_tiles m a parted)
    ∙ same_behind _ _ _ _ (among_parts parts m a tiles some few)
    ∙ sym (sides_together m a tiles (profile_among (some_has 0 tiles) m a) (among_tiles m a tiles)))

-- a part without rows has nothing
pub no_row_has_nothing : (m : ℕ) (samples : List Sample) (tile : Tile) → tile.last_row < tile.first_row
    → sides_value (profile_among (has_pair 0 tile) m (series_of samples)) ≡ empty_columns 2 (windows (length samples) m)
no_row_has_nothing m samples tile none =
    let a = series_of samples in
    let never = λ (i j : ℕ). no_pair (on_its_diagonals 0 tile i j) tile.first_row tile.last_row i none in
    same_behind _ _ _ _ (value_none (either_way (has_pair 0 tile)) m a
    (λ i j. ap (λ p. p || has_pair 0 tile j i) (never i j) ∙ never j i))
    ∙ ap (empty_columns 2) (series_are_of_samples.windows_are m samples)
  where
    no_pair : (on : Bool) (first last i : ℕ) → last < first → (on && (nat_le first i && nat_le i last)) ≡ false
    no_pair on first last i lt = grind (arith, nat_tests)
