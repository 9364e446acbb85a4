-- What is left where numbers are rounded down.
use Rattle.std.specs.Prelude.{ℕ, ◌+◌, ◌*◌, ◌≤◌}

-- so many units do for what rounding takes from two numbers. None is left where the unit is 1
pub record IsSlack (unit slack : ℕ) : Type 0 where
  pub enough : unit ≤ slack * unit + 1
