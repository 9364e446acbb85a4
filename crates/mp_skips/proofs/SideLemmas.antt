-- What is known of both sides of coarse sums, over the series that are compared.
use Rattle.std.proofs.Common.{◌*◌, ◌<◌, ◌≤◌, List, length, subst}
use Rattle.mp_nums.specs.declared.samples.Sample.{Sample}
use Rattle.mp_defs.specs.Series.{series_of}
use Rattle.mp_defs.specs.Profile.{windows_of}
use Rattle.mp_scans.specs.Free.{AreFree}
use Rattle.mp_scans.specs.Windows.{row_windows, column_windows}
use Rattle.mp_skips.specs.declared.sums.Coarse.{Coarse}
use Rattle.mp_skips.specs.declared.sums.Units.{Units}
use Rattle.mp_skips.specs.Sums.{IsLow, AreNumbers, AreFloors, AreGroups}
use Rattle.mp_skips.specs.Blocks.{height}

pub row_low : (coarse : Coarse) → IsLow coarse.rows.units.low (series_of coarse.plan.grid.rows.now)
row_low coarse =
    subst (λ (xs : List Sample). IsLow coarse.rows.units.low (series_of xs)) coarse.row_samples coarse.rows.lists.low_is

pub column_low : (coarse : Coarse) → IsLow coarse.rows.units.low (series_of coarse.plan.grid.columns.now)
column_low coarse =
    subst (λ (u : Units). IsLow u.low (series_of coarse.plan.grid.columns.now)) coarse.same_units
    (subst (λ (xs : List Sample). IsLow coarse.columns.units.low (series_of xs)) coarse.column_samples
    coarse.columns.lists.low_is)

pub row_numbers : (coarse : Coarse)
    → AreNumbers coarse.rows.units.low coarse.rows.units.step.size (series_of coarse.plan.grid.rows.now)
    coarse.rows.levels.now
row_numbers coarse =
    subst (λ (xs : List Sample). AreNumbers coarse.rows.units.low coarse.rows.units.step.size
    (series_of xs) coarse.rows.levels.now)
    coarse.row_samples coarse.rows.lists.are_levels

pub column_numbers : (coarse : Coarse)
    → AreNumbers coarse.rows.units.low coarse.rows.units.step.size (series_of coarse.plan.grid.columns.now)
    coarse.columns.levels.now
column_numbers coarse =
    subst (λ (u : Units). AreNumbers u.low u.step.size (series_of coarse.plan.grid.columns.now)
    coarse.columns.levels.now)
    coarse.same_units
    (subst (λ (xs : List Sample). AreNumbers coarse.columns.units.low coarse.columns.units.step.size
    (series_of xs) coarse.columns.levels.now)
    coarse.column_samples coarse.columns.lists.are_levels)

pub row_floors : (coarse : Coarse)
    → AreFloors coarse.rows.units.low (height coarse) coarse.rows.units.grain.size (series_of coarse.plan.grid.rows.now)
    coarse.rows.floors.now (length coarse.rows.floors.now)
row_floors coarse =
    subst (λ (xs : List Sample). AreFloors coarse.rows.units.low (height coarse) coarse.rows.units.grain.size
    (series_of xs)
    coarse.rows.floors.now (length coarse.rows.floors.now)) coarse.row_samples coarse.rows.lists.are_floors

pub column_groups : (coarse : Coarse)
    → AreGroups coarse.rows.units.low (height coarse) coarse.rows.units.grain.size
    (series_of coarse.plan.grid.columns.now)
    coarse.columns.least.now coarse.columns.greatest.now (length coarse.columns.least.now)
column_groups coarse =
    subst (λ (u : Units). AreGroups u.low (8 * u.eights) u.grain.size (series_of coarse.plan.grid.columns.now)
    coarse.columns.least.now coarse.columns.greatest.now (length coarse.columns.least.now)) coarse.same_units
    (subst (λ (xs : List Sample). AreGroups coarse.columns.units.low (8 * coarse.columns.units.eights)
    coarse.columns.units.grain.size (series_of xs) coarse.columns.least.now coarse.columns.greatest.now
    (length coarse.columns.least.now)) coarse.column_samples coarse.columns.lists.are_groups)

pub all_floors : (coarse : Coarse) → length coarse.plan.grid.rows.now ≤ length coarse.rows.floors.now
all_floors coarse =
    subst (λ (xs : List Sample). length xs ≤ length coarse.rows.floors.now) coarse.row_samples
    coarse.rows.lists.all_floors

pub all_groups : (coarse : Coarse) → length coarse.plan.grid.columns.now ≤ 8 * length coarse.columns.least.now
all_groups coarse =
    subst (λ (xs : List Sample). length xs ≤ 8 * length coarse.columns.least.now) coarse.column_samples
    coarse.columns.lists.all_groups

pub more_rows : (coarse : Coarse) → length coarse.plan.grid.rows.now < length coarse.rows.levels.now
more_rows coarse =
    subst (λ (xs : List Sample). length xs < length coarse.rows.levels.now) coarse.row_samples
    coarse.rows.lists.more_levels

pub more_columns : (coarse : Coarse) → length coarse.plan.grid.columns.now < length coarse.columns.levels.now
more_columns coarse =
    subst (λ (xs : List Sample). length xs < length coarse.columns.levels.now) coarse.column_samples
    coarse.columns.lists.more_levels

pub row_marks : (coarse : Coarse)
    → AreFree coarse.plan.grid.m (series_of coarse.plan.grid.rows.now) 0 coarse.rows.free.now
row_marks coarse =
    subst (λ m. AreFree m (series_of coarse.plan.grid.rows.now) 0 coarse.rows.free.now) coarse.row_length
    (subst (λ (xs : List Sample). AreFree coarse.rows.m (series_of xs) 0 coarse.rows.free.now) coarse.row_samples
    coarse.rows.lists.marks)

pub column_marks : (coarse : Coarse)
    → AreFree coarse.plan.grid.m (series_of coarse.plan.grid.columns.now) 0 coarse.columns.free.now
column_marks coarse =
    subst (λ m. AreFree m (series_of coarse.plan.grid.columns.now) 0 coarse.columns.free.now) coarse.column_length
    (subst (λ (xs : List Sample). AreFree coarse.columns.m (series_of xs) 0 coarse.columns.free.now)
    coarse.column_samples coarse.columns.lists.marks)

pub row_places : (coarse : Coarse) → row_windows coarse.plan.grid ≤ length coarse.rows.free.now
row_places coarse =
    subst (λ m. windows_of m (series_of coarse.plan.grid.rows.now) ≤ length coarse.rows.free.now) coarse.row_length
    (subst (λ (xs : List Sample). windows_of coarse.rows.m (series_of xs) ≤ length coarse.rows.free.now)
    coarse.row_samples coarse.rows.lists.all_windows)

pub column_places : (coarse : Coarse) → column_windows coarse.plan.grid ≤ length coarse.columns.free.now
column_places coarse =
    subst (λ m. windows_of m (series_of coarse.plan.grid.columns.now) ≤ length coarse.columns.free.now)
    coarse.column_length
    (subst (λ (xs : List Sample). windows_of coarse.columns.m (series_of xs) ≤ length coarse.columns.free.now)
    coarse.column_samples coarse.columns.lists.all_windows)

pub column_floors : (coarse : Coarse)
    → AreFloors coarse.rows.units.low (height coarse) coarse.rows.units.grain.size
    (series_of coarse.plan.grid.columns.now)
    coarse.columns.floors.now (length coarse.columns.floors.now)
column_floors coarse =
    subst (λ (u : Units). AreFloors u.low (8 * u.eights) u.grain.size (series_of coarse.plan.grid.columns.now)
    coarse.columns.floors.now (length coarse.columns.floors.now)) coarse.same_units
    (subst (λ (xs : List Sample). AreFloors coarse.columns.units.low (8 * coarse.columns.units.eights)
    coarse.columns.units.grain.size (series_of xs) coarse.columns.floors.now (length coarse.columns.floors.now))
    coarse.column_samples coarse.columns.lists.are_floors)

pub all_column_floors : (coarse : Coarse) → length coarse.plan.grid.columns.now ≤ length coarse.columns.floors.now
all_column_floors coarse =
    subst (λ (xs : List Sample). length xs ≤ length coarse.columns.floors.now) coarse.column_samples
    coarse.columns.lists.all_floors
