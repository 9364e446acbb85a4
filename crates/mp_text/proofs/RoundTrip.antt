-- Numbers that are read back from the texts that are written of them.
use Rattle.std.proofs.Common.{◌≡◌, ℕ, zero, suc, ◌+◌, ◌-◌, ◌/◌, ◌%◌, ◌^◌, ◌<◌, Bool, true, false, not, List, [], ◌∷◌}
use Rattle.std.proofs.Common.{◌++◌, length, take, drop, reverse, fold, decimal, ℤ, pos, negsuc, unsigned_abs}
use Rattle.std.proofs.Common.{FitsSigned, w64, Some, Ok, refl, sym, ap, ◌∙◌, arith, append_assoc}
use Rattle.std.specs.List.{list_all, position_or_len, before_first, after_first}
use Rattle.std.specs.Char.{is_ascii_digit}
use Rattle.std.proofs.lemmas.Bool.Decides.{nat_tests}
use Rattle.std.proofs.lemmas.Int.{ints}
use Rattle.std.proofs.lemmas.Grind.{common_steps}
use Rattle.std.proofs.lemmas.List.{reverse-reverse, reverse-append, append-nil, take_all, drop_all}
use Rattle.std.proofs.lemmas.List.Folds.{list_all-append}
use Rattle.std.proofs.lemmas.List.Sums.{fold-append}
use Rattle.std.proofs.lemmas.Str.Parse.{IsNumeralModel, IsDigitsTest, FoldsDigits, numerals_by_fold}
use Rattle.std.proofs.lemmas.Fmt.{digits_decimal, digits_value-decimal, decimal_nonempty}
use Rattle.std.proofs.Math.Nat.{div-div-eq-div-mul, pow-succ', div-le_self}
use Rattle.std.proofs.Math.Seq.{take-append_seam, drop-append-add}
use Rattle.mp_nums.specs.declared.widths.Width.{Width}
use Rattle.mp_nums.specs.declared.widths.Width.TheVariants.{Narrow, Wide}
use Rattle.mp_nums.specs.Whole.{IsWhole}
use Rattle.mp_bytes.specs.Bytes.{is_blank, is_empty}
use Rattle.mp_bytes.specs.Digits.{next_digit, value_of}
use Rattle.mp_text.specs.SampleText.{Numeral, is_point, without_leading_blanks, without_trailing_blanks, trimmed}
use Rattle.mp_text.specs.SampleText.{is_missing, has_form, parted, numeral_of}
use Rattle.mp_text.specs.SampleText.{fixed, is_exact, signed, units_of, is_within, number_of, sample_of, last_digits}
use Rattle.mp_text.specs.SampleText.{fraction_text, magnitude_text, number_text, reading, Fits}
use Rattle.mp_text.specs.SampleLaws.{WrittenNumbersAreReadBack, MissingSamplesAreReadBack}

-- ---- digits

digits_test : IsDigitsTest (λ ds. list_all is_ascii_digit ds ≡ true)
digits_test = grind arith

folds : FoldsDigits (λ n ds. fold next_digit n ds)
folds = record { empty = λ n. refl; more = λ n c cs h. ap (λ k. fold next_digit k cs) (omega arith) }

own : IsNumeralModel (λ ds. list_all is_ascii_digit ds ≡ true) value_of
own = numerals_by_fold _ digits_test (λ n ds. fold next_digit n ds) folds

length-last_digits : (k n : ℕ) → length (last_digits k n) ≡ k
length-last_digits zero n = refl
length-last_digits (suc k) n = grind (arith, common_steps, length-last_digits k (n / 10))

digits-last_digits : (k n : ℕ) → list_all is_ascii_digit (last_digits k n) ≡ true
digits-last_digits zero n = refl
digits-last_digits (suc k) n = grind (arith, list_all-append, digits-last_digits k (n / 10))

-- the digits before the last ones and those spell the number
value_of-last_digits : (ds : List ℕ) (k n : ℕ) → value_of ds ≡ n / 10 ^ k → value_of (ds ++ last_digits k n) ≡ n
value_of-last_digits ds zero n h = rw append-nil (h ∙ omega arith)
value_of-last_digits ds (suc k) n h =
    let units : n / 10 ^ suc k ≡ n / 10 / 10 ^ k =
    ap (λ m. n / m) (pow-succ' 10 k) ∙ sym (div-div-eq-div-mul n 10 (10 ^ k)) in
    let before : value_of (ds ++ last_digits k (n / 10)) ≡ n / 10 = value_of-last_digits ds k (n / 10) (h ∙ units) in
    let joined : value_of ((ds ++ last_digits k (n / 10)) ++ (48 + n % 10) ∷ [])
    ≡ next_digit (value_of (ds ++ last_digits k (n / 10))) (48 + n % 10) =
    fold-append next_digit 0 (ds ++ last_digits k (n / 10)) ((48 + n % 10) ∷ []) in
    rw (← append_assoc) (joined ∙ omega arith)

-- ---- a text with no blanks

abbrev is_plain : ℕ → Bool
is_plain b = not (is_blank b)

without_leading_blanks-plain : (text : List ℕ) → list_all is_plain text ≡ true → without_leading_blanks text ≡ text
without_leading_blanks-plain [] h = refl
without_leading_blanks-plain (b ∷ bs) h = grind (arith, nat_tests)

list_all-reverse : (p : ℕ → Bool) (xs : List ℕ) → list_all p xs ≡ true → list_all p (reverse xs) ≡ true
list_all-reverse p [] h = refl
list_all-reverse p (x ∷ xs) h =
    grind (arith, reverse-append (x ∷ []) xs, list_all-append p (reverse xs) (x ∷ []), list_all-reverse p xs)

trimmed-plain : (text : List ℕ) → list_all is_plain text ≡ true → trimmed text ≡ text
trimmed-plain text h =
    ap without_trailing_blanks (without_leading_blanks-plain text h)
    ∙ ap reverse (without_leading_blanks-plain (reverse text) (list_all-reverse is_plain text h))
    ∙ reverse-reverse text

plain-digits : (ds : List ℕ) → list_all is_ascii_digit ds ≡ true → list_all is_plain ds ≡ true
plain-digits [] h = refl
plain-digits (d ∷ ds) h = grind (arith, nat_tests, plain-digits ds)

-- ---- the point

position-digits : (whole rest : List ℕ) → list_all is_ascii_digit whole ≡ true
    → position_or_len is_point (whole ++ 46 ∷ rest) ≡ length whole
position-digits [] rest h = refl
position-digits (d ∷ ds) rest h = grind (arith, nat_tests, position-digits ds rest)

position-whole : (whole : List ℕ) → list_all is_ascii_digit whole ≡ true → position_or_len is_point whole ≡ length whole
position-whole [] h = refl
position-whole (d ∷ ds) h = grind (arith, nat_tests, position-whole ds)

before_first-fraction : (whole : List ℕ) (scale n : ℕ) → list_all is_ascii_digit whole ≡ true
    → before_first is_point (whole ++ fraction_text scale n) ≡ whole
before_first-fraction whole zero n h = rw append-nil (grind (arith, common_steps, position-whole whole))
before_first-fraction whole (suc k) n h =
    rw (position-digits whole (last_digits (suc k) n) h) (take-append_seam whole (46 ∷ last_digits (suc k) n))

after_first-fraction : (whole : List ℕ) (scale n : ℕ) → list_all is_ascii_digit whole ≡ true
    → after_first is_point (whole ++ fraction_text scale n) ≡ last_digits scale n
after_first-fraction whole zero n h = rw append-nil (grind (arith, common_steps, position-whole whole))
after_first-fraction whole (suc k) n h =
    rw (position-digits whole (last_digits (suc k) n) h) (drop-append-add whole (46 ∷ last_digits (suc k) n) 1)

-- ---- a number that was written

abbrev spelled : Bool → ℕ → ℕ → Numeral
spelled is_negative scale n =
    record { is_negative = is_negative; whole = decimal (n / 10 ^ scale); fraction = last_digits scale n }

parted-magnitude : (is_negative : Bool) (scale n : ℕ) → n < 2 ^ 64
    → parted is_negative (magnitude_text scale n) ≡ spelled is_negative scale n
parted-magnitude is_negative scale n small =
    let whole : list_all is_ascii_digit (decimal (n / 10 ^ scale)) ≡ true =
    digits_decimal own (n / 10 ^ scale) (omega (arith, div-le_self n (10 ^ scale))) in
    rw (
      before_first-fraction (decimal (n / 10 ^ scale)) scale n whole,
      after_first-fraction (decimal (n / 10 ^ scale)) scale n whole,
    ) refl

number_of-passes : (low high : ℤ) (scale : ℕ) (n : Numeral) → has_form n ≡ true → is_exact scale n ≡ true
    → is_within low high (units_of scale n) ≡ true
    → number_of low high scale n ≡ Ok (Some (units_of scale n))
number_of-passes low high scale n form exact within = rw (form, exact, within) refl

is_empty-long : (xs : List ℕ) → 0 < length xs → is_empty xs ≡ false
is_empty-long [] h = absurd (omega arith)
is_empty-long (x ∷ xs) h = refl

fixed-last_digits : (scale n : ℕ) → fixed scale (last_digits scale n) ≡ last_digits scale n
fixed-last_digits scale n =
    let long = length-last_digits scale n in
    let all : take scale (last_digits scale n) ≡ last_digits scale n =
    take_all scale (last_digits scale n) (omega arith) in
    let none : scale - length (last_digits scale n) ≡ 0 = omega arith in
    rw (all, none, append-nil) refl

number_of-spelled : (low high : ℤ) (is_negative : Bool) (scale n : ℕ) → n < 2 ^ 64
    → is_within low high (signed is_negative n) ≡ true
    → number_of low high scale (spelled is_negative scale n) ≡ Ok (Some (signed is_negative n))
number_of-spelled low high is_negative scale n small within =
    let whole = decimal (n / 10 ^ scale) in
    let fits : n / 10 ^ scale < 2 ^ 64 = omega (arith, div-le_self n (10 ^ scale)) in
    let digits : list_all is_ascii_digit (decimal (n / 10 ^ scale)) ≡ true = digits_decimal own (n / 10 ^ scale) fits in
    let long : is_empty (decimal (n / 10 ^ scale)) ≡ false =
    is_empty-long (decimal (n / 10 ^ scale)) (decimal_nonempty (n / 10 ^ scale) fits) in
    let form : has_form (spelled is_negative scale n) ≡ true = rw (long, digits) (digits-last_digits scale n) in
    let short : drop scale (last_digits scale n) ≡ [] =
    drop_all scale (last_digits scale n) (omega (arith, length-last_digits scale n)) in
    let exact : is_exact scale (spelled is_negative scale n) ≡ true = rw short refl in
    let value : value_of (decimal (n / 10 ^ scale) ++ fixed scale (last_digits scale n)) ≡ n =
    rw (fixed-last_digits scale n)
    (value_of-last_digits (decimal (n / 10 ^ scale)) scale n
    (digits_value-decimal own (n / 10 ^ scale) fits)) in
    let units : units_of scale (spelled is_negative scale n) ≡ signed is_negative n = ap (signed is_negative) value in
    number_of-passes low high scale (spelled is_negative scale n) form exact (ap (is_within low high) units ∙ within)
    ∙ ap (λ z. Ok (Some z)) units

numeral_of-digits : (whole rest : List ℕ) → list_all is_ascii_digit whole ≡ true → 0 < length whole
    → numeral_of (whole ++ rest) ≡ parted false (whole ++ rest)
numeral_of-digits [] rest h long = absurd (omega arith)
numeral_of-digits (d ∷ ds) rest h long = grind (arith, nat_tests)

is_missing-digits : (whole rest : List ℕ) → list_all is_ascii_digit whole ≡ true → 0 < length whole
    → is_missing (whole ++ rest) ≡ false
is_missing-digits [] rest h long = absurd (omega arith)
is_missing-digits (d ∷ ds) rest h long = grind (arith, nat_tests)

plain-fraction : (scale n : ℕ) → list_all is_plain (fraction_text scale n) ≡ true
plain-fraction zero n = refl
plain-fraction (suc k) n = plain-digits (last_digits (suc k) n) (digits-last_digits (suc k) n)

plain-magnitude : (scale n : ℕ) → n < 2 ^ 64 → list_all is_plain (magnitude_text scale n) ≡ true
plain-magnitude scale n small =
    let whole : list_all is_ascii_digit (decimal (n / 10 ^ scale)) ≡ true =
    digits_decimal own (n / 10 ^ scale) (omega (arith, div-le_self n (10 ^ scale))) in
    grind (
      arith,
      list_all-append is_plain (decimal (n / 10 ^ scale)) (fraction_text scale n),
      plain-digits (decimal (n / 10 ^ scale)),
      plain-fraction scale n,
    )

magnitude_bound : (n : ℤ) → FitsSigned w64 n → unsigned_abs n < 2 ^ 64
magnitude_bound (pos n) h = omega (arith, ints, h)
magnitude_bound (negsuc n) h = omega (arith, ints, h)

digits_first : (scale n : ℕ) → n < 2 ^ 64
    → (list_all is_ascii_digit (decimal (n / 10 ^ scale)) ≡ true) × (0 < length (decimal (n / 10 ^ scale)))
digits_first scale n small =
    let fits : n / 10 ^ scale < 2 ^ 64 = omega (arith, div-le_self n (10 ^ scale)) in
    (digits_decimal own (n / 10 ^ scale) fits, decimal_nonempty (n / 10 ^ scale) fits)

sample_of-number : (low high : ℤ) (scale : ℕ) (text : List ℕ) (n : Numeral) → trimmed text ≡ text
    → is_missing text ≡ false → numeral_of text ≡ n
    → sample_of low high scale text ≡ number_of low high scale n
sample_of-number low high scale text n bare present parts = rw (bare, present, parts) refl

pub numbers_read_back : WrittenNumbersAreReadBack
numbers_read_back low high (pos n) scale fits within =
    let small : n < 2 ^ 64 = magnitude_bound (pos n) fits in
    let first = digits_first scale n small in
    let bare = trimmed-plain (magnitude_text scale n) (plain-magnitude scale n small) in
    let present = is_missing-digits (decimal (n / 10 ^ scale)) (fraction_text scale n) first.0 first.1 in
    let parts =
    numeral_of-digits (decimal (n / 10 ^ scale)) (fraction_text scale n) first.0 first.1
    ∙ parted-magnitude false scale n small in
    sample_of-number low high scale (magnitude_text scale n) (spelled false scale n) bare present parts
    ∙ number_of-spelled low high false scale n small within
numbers_read_back low high (negsuc n) scale fits within =
    let small : suc n < 2 ^ 64 = magnitude_bound (negsuc n) fits in
    let bare = trimmed-plain (45 ∷ magnitude_text scale (suc n)) (plain-magnitude scale (suc n) small) in
    let parts = parted-magnitude true scale (suc n) small in
    sample_of-number low high scale (45 ∷ magnitude_text scale (suc n)) (spelled true scale (suc n)) bare refl parts
    ∙ number_of-spelled low high true scale (suc n) small within

-- at each width that the number fits
pub read_back : (width : Width) (n : ℤ) (scale : ℕ) → FitsSigned w64 n → IsWhole n → Fits width (Some n)
    → reading width scale (number_text scale n) ≡ Ok (Some n)
read_back Narrow n scale fits whole within = numbers_read_back (negsuc 2147483647) (pos 2147483647) n scale fits within
read_back Wide n scale fits whole _ =
    let within : is_within (negsuc 140737488355327) (pos 140737488355327) n ≡ true =
    grind (arith, ints, whole.0, whole.1) in
    numbers_read_back (negsuc 140737488355327) (pos 140737488355327) n scale fits within

pub missing_read_back : MissingSamplesAreReadBack
missing_read_back low high scale = refl
