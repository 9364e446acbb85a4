-- Words that are read option by option.
use Rattle.std.specs.Prelude.{◌≡◌, ℕ, List, [], ◌∷◌, ◌++◌, Option, Some, option_and_then}
use Rattle.mp_replies.specs.Words.{Given, given}
use Rattle.mp_words.specs.Numbers.{numbers_of, numbers_of_options}
use Rattle.mp_words.specs.declared.numbers.Numbers.{Numbers}

-- the numbers of these options and one more
abbrev pub numbers_with : List Given → Option Given → Option Numbers
numbers_with options more = option_and_then (λ option. numbers_of_options (options ++ option ∷ [])) more

-- the numbers of these options and those of words behind them
abbrev pub numbers_from : List Given → List (List ℕ) → Option Numbers
numbers_from options words = option_and_then (λ later. numbers_of_options (options ++ later)) (given words)

-- of these words some are left, and those before them give these numbers
pub record IsReading (words left : List (List ℕ)) (numbers : Numbers) : Type 0 where
  pub options : List Given
  pub numbers_are : numbers_of_options options ≡ Some numbers
  pub whole : numbers_of words ≡ numbers_from options left
