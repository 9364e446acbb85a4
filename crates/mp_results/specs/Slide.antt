-- The distances of a pattern to the windows of a series.
use Rattle.std.specs.Prelude.{ℕ, List, map, length, Option}
use Rattle.std.specs.List.{range_with_len}
use Rattle.std.specs.Option.{option_map}
use Rattle.mp_nums.specs.declared.nearest.Sq.{Sq}
use Rattle.mp_defs.specs.Series.{Series}
use Rattle.mp_defs.specs.Distance.{distance}
use Rattle.mp_defs.specs.Profile.{windows_of}

-- a squared distance, by its number
abbrev pub square : ℕ → Sq
square d = record { 0 = d }

-- of each window, by start, its distance to the pattern, none where the window isn't free
abbrev pub distances_of : Series → Series → List (Option Sq)
distances_of pattern a =
    map (λ i. option_map square (distance (length pattern) pattern 0 a i))
    (range_with_len 0 (windows_of (length pattern) a))
