-- What holds of every sample that is written.
use Rattle.std.specs.Prelude.{◌≡◌, ℕ, ℤ, FitsSigned, IsTrue, codes, Some, None, Ok}
use Rattle.std.specs.Int.{w64}
use Rattle.mp_text.specs.SampleText.{sample_of, number_text, is_within}

-- a number between the bounds is read from the text that is written of it
abbrev pub WrittenNumbersAreReadBack : Type 0
WrittenNumbersAreReadBack =
    (low high n : ℤ) (scale : ℕ) → FitsSigned w64 n → IsTrue (is_within low high n)
    → sample_of low high scale (number_text scale n) ≡ Ok (Some n)

abbrev pub MissingSamplesAreReadBack : Type 0
MissingSamplesAreReadBack = (low high : ℤ) (scale : ℕ) → sample_of low high scale (codes "?") ≡ Ok None
