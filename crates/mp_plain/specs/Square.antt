-- Squares as the program has them.
use Rattle.std.specs.Prelude.{ℕ}
use Rattle.mp_nums.specs.declared.nearest.Sq.{Sq}

-- a squared distance, by its number
abbrev pub square : ℕ → Sq
square d = record { 0 = d }
