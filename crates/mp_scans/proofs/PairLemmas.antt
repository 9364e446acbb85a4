-- Pairs of windows, and whether they have a distance.
use Rattle.std.proofs.Common.{◌≡◌, ℕ, ◌+◌, ◌^◌, ◌<◌, ◌≤◌, ℤ, List, length, Bool, sym, ap, ◌∙◌, arith}
use Rattle.std.specs.Prelude.{Some, IsTrue, IsSome, ◌&&◌, ◌↔◌}
use Rattle.std.proofs.lemmas.List.{length-map}
use Rattle.mp_nums.specs.declared.samples.Sample.{Sample}
use Rattle.mp_defs.specs.Series.{reading_of, series_of}
use Rattle.mp_defs.specs.Window.{is_free}
use Rattle.mp_defs.specs.Profile.{windows_of}
use Rattle.mp_defs.specs.DistanceLaws.{of_free_windows}
use Rattle.mp_sums.specs.declared.distances.Grid.{Grid}
use Rattle.mp_sums.specs.Grids.{distance_in}
use Rattle.mp_sums.specs.Residues.{residue, rounded_residue}
use Rattle.mp_sums.specs.ResidueLaws.{residues_tell}
use Rattle.mp_scans.specs.Distances.{AreDistances}
use Rattle.mp_scans.proofs.MarkLemmas.{both_true, both_hold}

-- a window lies in its series
pub window_within : (m : ℕ) (samples : List Sample) (i : ℕ) → 1 ≤ m → i < windows_of m (series_of samples)
    → i + m ≤ length samples
window_within m samples i some lt = omega (arith, lt, length-map samples reading_of)

-- windows without missing samples have a distance
pub both_free : (grid : Grid) (i j : ℕ) (s t : Bool) → s ≡ is_free grid.m (series_of grid.rows.now) i
    → t ≡ is_free grid.m (series_of grid.columns.now) j → IsTrue (s && t) ↔ IsSome (distance_in grid i j)
both_free grid i j s t e f =
    let both = of_free_windows grid.m (series_of grid.rows.now) i (series_of grid.columns.now) j in (
      λ is. let h = both_hold s t is in both.1 (sym e ∙ h.0, sym f ∙ h.1),
      λ is. let h = both.0 is in both_true s t (e ∙ h.0) (f ∙ h.1),
    )

-- ---- residues that are distances

pub residue_tells : (grid : Grid) (shift row column d sum : ℕ) (r : ℤ) → AreDistances grid shift
    → row + grid.m ≤ length grid.rows.now → column + grid.m ≤ length grid.columns.now
    → r ≡ rounded_residue grid.m shift (series_of grid.rows.now) row (series_of grid.columns.now) column
    → ((q : ℕ) → q < 2 ^ 31 → r ≡ residue q → sum ≡ q)
    → distance_in grid row column ≡ Some d → sum ≡ d
residue_tells grid shift row column d sum r exact row_within column_within is told there =
    let a = series_of grid.rows.now in
    let b = series_of grid.columns.now in
    told d (exact.few_bits.each row column d row_within column_within there)
    (is ∙ ap (λ s. rounded_residue grid.m s a row b column) exact.unrounded
    ∙ residues_tell.unrounded grid.m a row b column d there)
