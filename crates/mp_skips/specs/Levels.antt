-- Two series as plain numbers that are rounded down.
use Rattle.std.specs.Prelude.{ℕ, ◌+◌, ◌-◌, ◌*◌}
use Rattle.mp_skips.specs.declared.sums.Coarse.{Coarse}
use Rattle.mp_skips.specs.Totals.{total, gap}
use Rattle.mp_skips.specs.Sums.{number_in}

-- how many steps two numbers are apart at least
abbrev pub steps_apart : Coarse → ℕ → ℕ → ℕ
steps_apart coarse p q =
    gap (number_in coarse.rows.levels.now p) (number_in coarse.columns.levels.now q) - coarse.rows.units.step.slack

-- the square of that
abbrev pub square_at : Coarse → ℕ → ℕ → ℕ
square_at coarse p q = steps_apart coarse p q * steps_apart coarse p q

-- the sum of the squares of n successive numbers of both series
abbrev pub squares_in : Coarse → ℕ → ℕ → ℕ → ℕ
squares_in coarse n i j = total (λ t. square_at coarse (i + t) (j + t)) n
