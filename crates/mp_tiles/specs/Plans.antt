-- Two series as they are scanned.
use Rattle.std.specs.Prelude.{◌≡◌}
use Rattle.mp_defs.specs.Series.{Series, series_of}
use Rattle.mp_scans.specs.declared.plans.Plan.{Plan}

-- the series that has the rows
abbrev pub row_series : Plan → Series
row_series plan = series_of plan.grid.rows.now

-- the series that has the columns
abbrev pub column_series : Plan → Series
column_series plan = series_of plan.grid.columns.now

-- the rows of one plan are the columns of the other, and its columns the rows of that one
pub record IsTurned (plan turned : Plan) : Type 0 where
  pub m : turned.grid.m ≡ plan.grid.m
  pub rows : turned.grid.rows.now ≡ plan.grid.columns.now
  pub columns : turned.grid.columns.now ≡ plan.grid.rows.now
