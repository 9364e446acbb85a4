-- Numbers that digits spell one after another.
use Rattle.std.proofs.Common.{◌≡◌, ℕ, ◌+◌, ◌-◌, ◌*◌, ◌<◌, ◌≤◌, fold, List, [], ◌∷◌, length, take, drop, sym, ap, ◌∙◌}
use Rattle.std.proofs.Common.{arith}
use Rattle.std.specs.Prelude.{slice_index, ◌^◌, None}
use Rattle.std.proofs.lemmas.List.{take-append-drop}
use Rattle.std.proofs.lemmas.List.Sums.{fold_more, fold-append}
use Rattle.std.proofs.lemmas.Bool.Decides.{nat_tests}
use Rattle.mp_bytes.specs.Digits.{next_digit, value_of, number_of}

-- one digit more
pub value_more : (digits : List ℕ) (i value : ℕ) → i < length digits → value ≡ value_of (take i digits)
    → 10 * value + (slice_index digits i - 48) ≡ value_of (take (i + 1) digits)
value_more digits i value lt h = omega (arith, fold_more next_digit 0 digits i 0 lt)

-- further digits make no number less
fold_grows : (n : ℕ) (digits : List ℕ) → n ≤ fold next_digit n digits
fold_grows n [] = omega arith
fold_grows n (d ∷ ds) = omega (arith, fold_grows (next_digit n d) ds)

pub value_of-take : (digits : List ℕ) (i : ℕ) → value_of (take i digits) ≤ value_of digits
value_of-take digits i =
    let whole : value_of digits ≡ fold next_digit (value_of (take i digits)) (drop i digits) =
    ap value_of (sym (take-append-drop i digits)) ∙ fold-append next_digit 0 (take i digits) (drop i digits) in
    omega (arith, whole, fold_grows (value_of (take i digits)) (drop i digits))

-- a number past all that may be read
pub none_above : (digits most : ℕ) (text : List ℕ) (i value : ℕ) → i < length text → value ≡ value_of (take i text)
    → most < 2 ^ 128 → 2 ^ 128 ≤ 10 * value + (slice_index text i - 48) → number_of digits most text ≡ None
none_above digits most text i value lt is small over =
    let past : most < value_of text =
    omega (arith, value_more text i value lt is, value_of-take text (i + 1), small, over) in
    grind (arith, nat_tests, past)
