-- Parts of a tile of two series, and pairs that are offered ahead of all others.
use Rattle.std.proofs.Common.{◌≡◌, ℕ, ◌+◌, ◌-◌, ◌<◌, ◌≤◌, List, length, take, drop, Bool, true}
use Rattle.std.proofs.Common.{false, refl, sym, ap, ◌∙◌, arith}
use Rattle.std.specs.Prelude.{◌||◌}
use Rattle.std.specs.List.{between}
use Rattle.std.proofs.lemmas.Bool.Decides.{nat_tests}
use Rattle.std.proofs.lemmas.List.{take_rest}
use Rattle.mp_nums.specs.declared.samples.Sample.{Sample}
use Rattle.mp_nums.specs.Near.{nearer_of}
use Rattle.mp_nums.specs.NearLaws.{nearer_associates}
use Rattle.mp_defs.specs.Series.{Series, series_of}
use Rattle.mp_defs.specs.SeriesLaws.{series_are_of_samples}
use Rattle.mp_defs.specs.Profile.{nearest_column, ab_join, windows_of}
use Rattle.mp_defs.specs.ColumnLaws.{columns_by_choice}
use Rattle.mp_partial.specs.Values.{Column, merged_column}
use Rattle.mp_partial.specs.MergeLaws.{zip_associates}
use Rattle.mp_cuts.specs.declared.cuts.Tile.{Tile}
use Rattle.mp_cuts.specs.Pairs.{has_pair}
use Rattle.mp_sums.specs.declared.distances.Grid.{Grid}
use Rattle.mp_skips.specs.Seeds.{IsAhead}
use Rattle.mp_tiles.specs.declared.offers.ColumnToRow.{ColumnToRow}
use Rattle.mp_tiles.specs.declared.offers.RowToColumn.{RowToColumn}
use Rattle.mp_tiles.specs.OfferingLaws.{is_scanned_rows, is_scanned_columns, turned}
use Rattle.mp_tiles.specs.Ahead.{AreAhead}
use Rattle.mp_tiles.specs.Parts.{has_before, has_from}

-- ---- parts of a tile

-- the rows from a first one on
pub from_pairs : (tile : Tile) (row origin i j : ℕ) → tile.first_row ≤ row
    → has_pair origin (record { first = tile.first; last = tile.last; first_row = row; last_row = tile.last_row }) i j
    ≡ has_from row origin tile i j
from_pairs tile row origin i j le = grind (arith, nat_tests)

pub no_from : (tile : Tile) (row origin i j : ℕ) → tile.last_row < row → has_from row origin tile i j ≡ false
no_from tile row origin i j lt = grind (arith, nat_tests)

-- the rows up to a last one
pub before_pairs : (tile : Tile) (row last origin i j : ℕ) → last < row → (i < row → i ≤ tile.last_row → i ≤ last)
    → last ≤ tile.last_row
    → has_pair origin (record { first = tile.first; last = tile.last; first_row = tile.first_row; last_row = last }) i j
    ≡ has_before row origin tile i j
before_pairs tile row last origin i j lt all le = grind (arith, nat_tests)

pub no_before : (tile : Tile) (row origin i j : ℕ) → row ≤ tile.first_row → has_before row origin tile i j ≡ false
no_before tile row origin i j le = grind (arith, nat_tests)

pub both_parts : (tile : Tile) (row origin i j : ℕ)
    → (has_before row origin tile i j || has_from row origin tile i j) ≡ has_pair origin tile i j
both_parts tile row origin i j = grind (arith, nat_tests)

-- the rows from the first one on, as the windows of a series that has no others before them
pub below_pairs : (tile part : Tile) (w top i j : ℕ) → top < w → tile.first_row ≡ top → w ≤ tile.first + top + 1
    → tile.first ≤ tile.last → part.first + (w - 1 - top) ≡ tile.first → part.last + (w - 1 - top) ≡ tile.last
    → part.first_row ≡ 0 → part.last_row + top ≡ tile.last_row
    → has_pair 0 part i j ≡ has_pair (w - 1) tile (top + i) j
below_pairs tile part w top i j lt e le order f l z r = grind (arith, nat_tests)

pub not_below : (tile : Tile) (w top i j : ℕ) → tile.first_row ≡ top → i < top → has_pair (w - 1) tile i j ≡ false
not_below tile w top i j e lt = grind (arith, nat_tests)

-- the samples of rows that go on to the last one
pub rows_to_end : (m : ℕ) (rows : List Sample) (w top : ℕ) → 1 ≤ m → w ≡ windows_of m (series_of rows) → top < w
    → between top (w + m - 1) rows ≡ drop top rows
rows_to_end m rows w top some e lt =
    let long : w + m - 1 ≡ length rows = omega (arith, e, series_are_of_samples.windows_are m rows, some, lt) in
    ap (λ n. take (n - top) (drop top rows)) long ∙ take_rest rows top

-- ---- ahead of all others

or_true : (t : Bool) → (t || true) ≡ true
or_true true = refl
or_true false = refl

-- what some pairs leave as it is the AB-join does too
all_ahead : (p : ℕ → ℕ → Bool) (m : ℕ) (a b : Series) (old new : Column)
    → merged_column new (nearest_column p m a b) ≡ merged_column old (nearest_column p m a b)
    → merged_column new (ab_join m a b) ≡ merged_column old (ab_join m a b)
all_ahead p m a b old new h =
    let some : Column = nearest_column p m a b in
    let all : Column = ab_join m a b in
    let both : all ≡ merged_column some all =
    sym (columns_by_choice.same m (λ i j. p i j || true) (λ _ _. true) a b (λ i j _ _. or_true (p i j)))
    ∙ columns_by_choice.either m p (λ _ _. true) a b in
    ap (merged_column new) both ∙ sym (zip_associates nearer_of nearer_associates new some all)
    ∙ ap (λ c. merged_column c all) h
    ∙ zip_associates nearer_of nearer_associates old some all ∙ ap (merged_column old) (sym both)

pub rows_ahead : (grid : Grid) (p : ℕ → ℕ → Bool) (old new : ColumnToRow) → IsAhead is_scanned_rows grid p old new
    → length new.slots.now ≡ length old.slots.now
    → AreAhead grid.m (series_of grid.rows.now) (series_of grid.columns.now) old.slots new.slots
rows_ahead grid p old new h places =
    let a = series_of grid.rows.now in
    let b = series_of grid.columns.now in
    let after : ColumnToRow = record {
      slots = record {
        ref_ptr = new.slots.ref_ptr;
        ghost_name = new.slots.ghost_name;
        now = merged_column new.slots.now (nearest_column p grid.m a b);
      };
    } in
    let taken = h.all after (record { slots = refl; same_slots = refl }) in
    record {
      join = all_ahead p grid.m a b old.slots.now new.slots.now taken.slots;
      places = places;
      same_slots = taken.same_slots;
    }

pub columns_ahead : (grid : Grid) (p : ℕ → ℕ → Bool) (old new : RowToColumn)
    → IsAhead is_scanned_columns grid p old new → length new.slots.now ≡ length old.slots.now
    → AreAhead grid.m (series_of grid.columns.now) (series_of grid.rows.now) old.slots new.slots
columns_ahead grid p old new h places =
    let a = series_of grid.rows.now in
    let b = series_of grid.columns.now in
    let after : RowToColumn = record {
      slots = record {
        ref_ptr = new.slots.ref_ptr;
        ghost_name = new.slots.ghost_name;
        now = merged_column new.slots.now (nearest_column (turned p) grid.m b a);
      };
    } in
    let taken = h.all after (record { slots = refl; same_slots = refl }) in
    record {
      join = all_ahead (turned p) grid.m b a old.slots.now new.slots.now taken.slots;
      places = places;
      same_slots = taken.same_slots;
    }
