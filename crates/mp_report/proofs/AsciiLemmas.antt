-- The text of a sample is one of ASCII bytes, and so of UTF-8.
use Rattle.std.proofs.Common.{ℕ, zero, suc, ◌/◌, ◌%◌, ◌^◌, ◌+◌, ◌<◌, ◌==◌, Bool, true, false, cond, List, [], ◌∷◌, ◌++◌}
use Rattle.std.proofs.Common.{ℤ, pos, negsuc, decimal, Option, Some, None, Result, Ok, Err, MatchResult, IsOk}
use Rattle.std.proofs.Common.{IsAscii, IsUtf8, arith, refl}
use Rattle.std.specs.Fmt.{digits, digits_onto, digit_glyph}
use Rattle.std.proofs.lemmas.Str.{IsUtf8-from_ascii}
use Rattle.std.proofs.lemmas.Str.Ascii.{IsAscii-nil, IsAscii-cons, IsAscii-push}
use Rattle.mp_text.specs.SampleText.{last_digits, fraction_text, magnitude_text, sample_text}

either_ascii : (b : Bool) (xs ys : List ℕ) → IsAscii xs → IsAscii ys → IsAscii (cond b xs ys)
either_ascii true xs ys one other = one
either_ascii false xs ys one other = other

glyph_ascii : (n : ℕ) → digit_glyph false (n % 10) < 128
glyph_ascii n = grind arith

digits_onto_ascii : (k n : ℕ) (others : List ℕ) → IsAscii others → IsAscii (digits_onto k 10 false n others)
digits_onto_ascii zero n others h = h
digits_onto_ascii (suc k) n others h =
    let more : IsAscii (digit_glyph false (n % 10) ∷ others) = IsAscii-cons _ others (glyph_ascii n) h in
    either_ascii (n / 10 == 0) (digit_glyph false (n % 10) ∷ others) _ more (digits_onto_ascii k (n / 10) _ more)

decimal_ascii : (n : ℕ) → IsAscii (decimal n)
unfolding digits
decimal_ascii n = digits_onto_ascii 64 n [] IsAscii-nil

append_ascii : (xs ys : List ℕ) → IsAscii xs → IsAscii ys → IsAscii (xs ++ ys)
append_ascii [] ys one other = other
append_ascii (x ∷ xs) ys one other = IsAscii-cons x (xs ++ ys) (one 0) (append_ascii xs ys (λ i. one (suc i)) other)

last_digits_ascii : (k n : ℕ) → IsAscii (last_digits k n)
last_digits_ascii zero n = IsAscii-nil
last_digits_ascii (suc k) n =
    IsAscii-push (last_digits k (n / 10)) (48 + n % 10) (last_digits_ascii k (n / 10)) (omega arith)

fraction_ascii : (scale n : ℕ) → IsAscii (fraction_text scale n)
fraction_ascii zero n = IsAscii-nil
fraction_ascii (suc k) n = IsAscii-cons 46 (last_digits (suc k) n) (omega arith) (last_digits_ascii (suc k) n)

magnitude_ascii : (scale n : ℕ) → IsAscii (magnitude_text scale n)
magnitude_ascii scale n =
    append_ascii (decimal (n / 10 ^ scale)) (fraction_text scale n) (decimal_ascii (n / 10 ^ scale))
    (fraction_ascii scale n)

sample_ascii : (scale : ℕ) (sample : Option ℤ) → IsAscii (sample_text scale sample)
sample_ascii scale None = IsAscii-cons 63 [] (omega arith) IsAscii-nil
sample_ascii scale (Some (pos n)) = magnitude_ascii scale n
sample_ascii scale (Some (negsuc n)) =
    IsAscii-cons 45 (magnitude_text scale (suc n)) (omega arith) (magnitude_ascii scale (suc n))

pub sample_utf8 : (scale : ℕ) (sample : Option ℤ) → IsUtf8 (sample_text scale sample)
sample_utf8 scale sample = IsUtf8-from_ascii (sample_text scale sample) (sample_ascii scale sample)

-- bytes of UTF-8 are read as a text
pub text_is_read : {T E : Type 0} (result : Result T E) (bytes : List ℕ) (P : T → Type 0) (Q : E → Type 0)
    → IsUtf8 bytes → MatchResult result P (λ e. ¬ (IsUtf8 bytes) × Q e) → IsOk result
text_is_read (Ok text) bytes P Q whole read = refl
text_is_read (Err e) bytes P Q whole read = absurd (read.0 whole)
