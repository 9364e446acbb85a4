-- The text of a sample: a word for a missing one, or a decimal number with an optional sign.
use Rattle.std.specs.Prelude.{ℕ, ◌+◌, ◌-◌, ◌/◌, ◌%◌, ◌^◌, ◌==◌, ◌&&◌, ◌||◌, zero, suc, Bool, true, false, not, List, []}
use Rattle.std.specs.Prelude.{◌∷◌, ◌++◌}
use Rattle.std.specs.Prelude.{take, drop, length, reverse, replicate, codes, decimal, ℤ, pos, negsuc, neg_ℤ, int_le}
use Rattle.std.specs.Prelude.{unsigned_abs, IsTrue}
use Rattle.std.specs.Prelude.{if◌then◌else◌, Option, Some, None, Result, Ok, Err}
use Rattle.std.specs.List.{list_all, before_first, after_first}
use Rattle.std.specs.Char.{is_ascii_digit}
use Rattle.mp_nums.specs.declared.widths.Width.{Width}
use Rattle.mp_nums.specs.declared.widths.Width.TheVariants.{Narrow}
use Rattle.mp_defs.specs.Limits.{least_sample, greatest_sample}
use Rattle.mp_bytes.specs.Bytes.{is_blank, same_text, is_empty}
use Rattle.mp_bytes.specs.Digits.{value_of}
use Rattle.mp_text.specs.declared.refusal.SampleFault.{SampleFault}
use Rattle.mp_text.specs.declared.refusal.SampleFault.TheVariants.{Form, Fine, Range}

-- ---- blanks round a text

abbrev pub without_leading_blanks : List ℕ → List ℕ
without_leading_blanks [] = []
without_leading_blanks (b ∷ bs) = if is_blank b then without_leading_blanks bs else b ∷ bs

abbrev pub without_trailing_blanks : List ℕ → List ℕ
without_trailing_blanks text = reverse (without_leading_blanks (reverse text))

abbrev pub trimmed : List ℕ → List ℕ
trimmed text = without_trailing_blanks (without_leading_blanks text)

-- ---- the words for a missing sample

abbrev pub is_missing : List ℕ → Bool
is_missing text =
    is_empty text || same_text text (codes "?") || same_text text (codes "nan") || same_text text (codes "NaN")
    || same_text text (codes "NA")

-- ---- numbers

-- a sign, the digits before the point, and those behind it
pub record Numeral : Type 0 where
  pub is_negative : Bool
  pub whole : List ℕ
  pub fraction : List ℕ

abbrev pub is_point : ℕ → Bool
is_point b = b == 46

-- at least one digit in all, and nothing else
abbrev pub has_form : Numeral → Bool
has_form n =
    not (is_empty n.whole && is_empty n.fraction)
    && list_all is_ascii_digit n.whole && list_all is_ascii_digit n.fraction

-- what stands before the first point of a text and what stands behind it
abbrev pub parted : Bool → List ℕ → Numeral
parted is_negative text =
    record { is_negative = is_negative; whole = before_first is_point text; fraction = after_first is_point text }

-- the same, behind an optional sign
abbrev pub numeral_of : List ℕ → Numeral
numeral_of [] = parted false []
numeral_of (b ∷ bs) =
    if b == 45 then parted true bs else if b == 43 then parted false bs else parted false (b ∷ bs)

-- so many digits of a fraction, with zeros where it is shorter
abbrev pub fixed : ℕ → List ℕ → List ℕ
fixed scale fraction = take scale fraction ++ replicate (scale - length fraction) 48

-- no digit but 0 stands past the scale
abbrev pub is_exact : ℕ → Numeral → Bool
is_exact scale n = list_all (λ b. b == 48) (drop scale n.fraction)

abbrev pub signed : Bool → ℕ → ℤ
signed true n = neg_ℤ (pos n)
signed false n = pos n

-- the number that is spelled, in units of 10 ^ -scale
abbrev pub units_of : ℕ → Numeral → ℤ
units_of scale n = signed n.is_negative (value_of (n.whole ++ fixed scale n.fraction))

abbrev pub is_within : ℤ → ℤ → ℤ → Bool
is_within low high n = int_le low n && int_le n high

-- ---- reading

-- a number between the bounds, or its first fault
abbrev pub number_of : ℤ → ℤ → ℕ → Numeral → Result (Option ℤ) SampleFault
number_of low high scale n =
    if not (has_form n) then Err Form
    else if not (is_exact scale n) then Err Fine
    else if not (is_within low high (units_of scale n)) then Err Range
    else Ok (Some (units_of scale n))

-- what a text spells at a scale, where numbers lie between the bounds: a missing sample, a number, or its first fault
abbrev pub sample_of : ℤ → ℤ → ℕ → List ℕ → Result (Option ℤ) SampleFault
sample_of low high scale text =
    if is_missing (trimmed text) then Ok None else number_of low high scale (numeral_of (trimmed text))

-- the same at a width
abbrev pub reading : Width → ℕ → List ℕ → Result (Option ℤ) SampleFault
reading width scale text = sample_of (least_sample width) (greatest_sample width) scale text

-- a sample has no more bits than are read at a width. None has more than 48
abbrev pub Fits : Width → Option ℤ → Type 0
Fits Narrow (Some n) = IsTrue (is_within (least_sample Narrow) (greatest_sample Narrow) n)
Fits width sample = Unit {0}

-- ---- writing

-- the last digits of a number, so many of them
abbrev pub last_digits : ℕ → ℕ → List ℕ
last_digits zero n = []
last_digits (suc k) n = last_digits k (n / 10) ++ (48 + n % 10) ∷ []

-- the point and the digits behind it
abbrev pub fraction_text : ℕ → ℕ → List ℕ
fraction_text zero n = []
fraction_text (suc k) n = codes "." ++ last_digits (suc k) n

-- a number in units of 10 ^ -scale
abbrev pub magnitude_text : ℕ → ℕ → List ℕ
magnitude_text scale n = decimal (n / 10 ^ scale) ++ fraction_text scale n

abbrev pub sign_text : ℤ → List ℕ
sign_text (pos n) = []
sign_text (negsuc n) = codes "-"

abbrev pub number_text : ℕ → ℤ → List ℕ
number_text scale n = sign_text n ++ magnitude_text scale (unsigned_abs n)

abbrev pub sample_text : ℕ → Option ℤ → List ℕ
sample_text scale None = codes "?"
sample_text scale (Some n) = number_text scale n
