-- Marks of places, in words of 64 bits.
use Rattle.std.specs.Prelude.{ℕ, ◌*◌, ◌/◌, ◌%◌, List, Bool, ◌==◌, length, map, slice_index_or}
use Rattle.std.specs.List.{range_with_len}
use Rattle.std.specs.Int.{bit_at}

-- whether the bit of a place is set
abbrev pub is_set : List ℕ → ℕ → Bool
is_set words place = bit_at (slice_index_or words (place / 64) 0) (place % 64) == 1

-- the same for each place
abbrev pub marks_in : List ℕ → List Bool
marks_in words = map (is_set words) (range_with_len 0 (64 * length words))
