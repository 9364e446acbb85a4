-- Rows that were computed by hand.
use Rattle.std.specs.Prelude.{◌≡◌, ℕ, [], ◌∷◌, Option, Some, None}
use Rattle.mp_nums.specs.declared.finds.Discord.{Discord}
use Rattle.mp_nums.specs.declared.finds.Pair.{Pair}
use Rattle.mp_nums.specs.declared.finds.PanRow.{PanRow}
use Rattle.mp_defs.specs.Least.{near_at}
use Rattle.mp_defs.specs.Examples.{plain}
use Rattle.mp_results.specs.Pan.{pan_of}

abbrev pair : ℕ → ℕ → ℕ → Pair
pair dist i j = record { start = i; near = near_at j dist }

abbrev window : ℕ → ℕ → ℕ → Discord
window dist i j = record { start = i; near = near_at j dist }

abbrev at_length : ℕ → ℕ → Option Pair → Option Discord → PanRow
at_length length windows best discord =
    record { length = length; windows = windows; best = best; discord = discord }

-- of 1 2 3 1 2 3, which has no two windows far enough apart from length 5 on
abbrev pub PlainRows : Type 0
PlainRows = pan_of 3 7 plain
    ≡ at_length 3 4 (Some (pair 0 0 3)) (Some (window 6 1 3))
    ∷ at_length 4 3 (Some (pair 10 0 2)) (Some (window 10 0 2))
    ∷ at_length 5 2 None None
    ∷ at_length 6 1 None None
    ∷ at_length 7 0 None None
    ∷ []
