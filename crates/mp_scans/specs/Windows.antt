-- The windows of two series, and what is offered of them.
use Rattle.std.specs.Prelude.{ℕ, Bool}
use Rattle.mp_defs.specs.Series.{Series, series_of}
use Rattle.mp_defs.specs.Profile.{windows_of}
use Rattle.mp_sums.specs.declared.distances.Grid.{Grid}

-- how many windows the series of the rows has, and that of the columns
abbrev pub row_windows : Grid → ℕ
row_windows grid = windows_of grid.m (series_of grid.rows.now)

abbrev pub column_windows : Grid → ℕ
column_windows grid = windows_of grid.m (series_of grid.columns.now)

-- there are places for these windows
abbrev pub FitIn : {Into : Type 0} → (ℕ → Series → Series → Into → Type 0) → Grid → Into → Type 0
FitIn fits grid into = fits grid.m (series_of grid.rows.now) (series_of grid.columns.now) into

-- these pairs of them are scanned
abbrev pub AreScannedIn : {Into : Type 0} → (ℕ → Series → Series → (ℕ → ℕ → Bool) → Into → Into → Type 0) → Grid
    → (ℕ → ℕ → Bool) → Into → Into → Type 0
AreScannedIn is_scanned grid pairs old new =
    is_scanned grid.m (series_of grid.rows.now) (series_of grid.columns.now) pairs old new
