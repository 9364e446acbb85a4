-- Numbers in decimal digits.
use Rattle.std.specs.Prelude.{ℕ, ◌+◌, ◌-◌, ◌*◌, Bool, not, ◌&&◌, nat_le, List, length, fold, if◌then◌else◌, Option}
use Rattle.std.specs.Prelude.{Some, None}
use Rattle.std.specs.List.{list_all}
use Rattle.std.specs.Char.{is_ascii_digit}
use Rattle.mp_bytes.specs.Bytes.{is_empty}

abbrev pub are_digits : List ℕ → Bool
are_digits text = not (is_empty text) && list_all is_ascii_digit text

-- the number with one digit more
abbrev pub next_digit : ℕ → ℕ → ℕ
next_digit n digit = 10 * n + (digit - 48)

-- the number that digits spell
abbrev pub value_of : List ℕ → ℕ
value_of digits = fold next_digit 0 digits

-- the number that a text of digits spells, none for other texts
abbrev pub whole_of : List ℕ → Option ℕ
whole_of text = if are_digits text then Some (value_of text) else None

-- the same, where the text has at most so many digits and the number is at most this one
abbrev pub number_of : ℕ → ℕ → List ℕ → Option ℕ
number_of digits most text =
    if nat_le (length text) digits && (are_digits text && nat_le (value_of text) most)
    then Some (value_of text)
    else None
