-- Blocks of pairs that coarse sums tell to be far apart.
use Rattle.std.specs.Prelude.{◌≡◌, ℕ, ◌+◌, ◌-◌, ◌*◌, ◌<◌, ◌≤◌, Some}
use Rattle.mp_sums.specs.Grids.{distance_in}
use Rattle.mp_skips.specs.declared.sums.Coarse.{Coarse}
use Rattle.mp_skips.specs.Totals.{total}
use Rattle.mp_skips.specs.Sums.{number_in, outside}

-- how many rows a block has, and samples a sum
abbrev pub height : Coarse → ℕ
height coarse = 8 * coarse.rows.units.eights

-- how far a sum of the row i lies outside of those of the columns of group g, in grains: t sums behind the first
abbrev pub outside_at : Coarse → ℕ → ℕ → ℕ → ℕ
outside_at coarse i g t =
    outside (number_in coarse.rows.floors.now (i + 8 * (coarse.rows.units.eights * (t + 1))))
    (number_in coarse.columns.least.now (g + coarse.rows.units.eights * (t + 1)))
    (number_in coarse.columns.greatest.now (g + coarse.rows.units.eights * (t + 1)))

abbrev pub squares_outside : Coarse → ℕ → ℕ → ℕ → ℕ
squares_outside coarse i g n = total (λ t. outside_at coarse i g t * outside_at coarse i g t) n

-- how far a sum of the row i lies from one of the column j at least, in grains: t sums behind the first
abbrev pub apart_at : Coarse → ℕ → ℕ → ℕ → ℕ
apart_at coarse i j t =
    outside (number_in coarse.rows.floors.now (i + 8 * (coarse.rows.units.eights * (t + 1))))
    (number_in coarse.columns.floors.now (j + 8 * (coarse.rows.units.eights * (t + 1))))
    (number_in coarse.columns.floors.now (j + 8 * (coarse.rows.units.eights * (t + 1)))) - coarse.rows.units.grain.slack

abbrev pub squares_apart : Coarse → ℕ → ℕ → ℕ → ℕ
squares_apart coarse i j n = total (λ t. apart_at coarse i j t * apart_at coarse i j t) n

-- a distance is so large that a coarse sum of squares up to the given one tells nothing against it
abbrev pub Reaches : Coarse → ℕ → ℕ → Type 0
Reaches coarse need d = need * (coarse.rows.units.grain.size * coarse.rows.units.grain.size) ≤ height coarse * d

-- all pairs that have a distance reach a coarse sum, of those of the rows from i on, as many as a block has, on the
-- diagonals of n successive columns from j on
pub record AreApart (coarse : Coarse) (i j n need : ℕ) : Type 0 where
  pub each : (r u d : ℕ) → r < height coarse → u < n
      → distance_in coarse.plan.grid (i + r) (j + u + r) ≡ Some d
      → Reaches coarse need d
