-- The numbers that the options are given, one by one.
use Rattle.std.specs.Prelude.{List, ℕ, codes, if◌then◌else◌, Option, Some, None, option_and_then}
use Rattle.mp_replies.specs.Words.{Given, are_options, given, number_for}
use Rattle.mp_words.specs.declared.numbers.Numbers.{Numbers}

-- those that a list of options is given
abbrev pub numbers_in : List Given → Numbers
numbers_in options = record {
  window = number_for (codes "--window") options;
  scale = number_for (codes "--scale") options;
  tile = number_for (codes "--tile") options;
  workers = number_for (codes "--workers") options;
  generate = number_for (codes "--generate") options;
  count = number_for (codes "--count") options;
}

-- none where an option is unknown or given twice
abbrev pub numbers_of_options : List Given → Option Numbers
numbers_of_options options = if are_options options then Some (numbers_in options) else None

-- none where the words aren't options, each given once and with its value
abbrev pub numbers_of : List (List ℕ) → Option Numbers
numbers_of words = option_and_then numbers_of_options (given words)
