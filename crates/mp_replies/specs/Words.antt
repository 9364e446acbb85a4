-- The words that start the program: options in any order, each at most once and each with a value.
--
--     --window M [--scale D] [--tile T] [--workers W] [--generate NUMBER --count N]
--
-- A value is the word behind its option, or stands in the option's own word behind an equals sign.
use Rattle.std.specs.Prelude.{ℕ, ◌==◌, Bool, true, not, nat_le, ◌&&◌, List, [], ◌∷◌, codes, find, if◌then◌else◌}
use Rattle.std.specs.Prelude.{Option, Some, None, option_map, option_and_then, unwrap_or}
use Rattle.std.specs.List.{after_first, before_first, list_any}
use Rattle.mp_bytes.specs.Bytes.{same_text}
use Rattle.mp_bytes.specs.Digits.{number_of}
use Rattle.mp_defs.specs.Limits.{max_samples, max_window, min_window}
use Rattle.mp_replies.specs.Limits.{default_scale, default_tile, default_workers, max_number, max_scale, max_tile}
use Rattle.mp_replies.specs.Limits.{max_word_digits, max_workers}
use Rattle.mp_replies.specs.Numbers.{onto_some, with_next}
use Rattle.mp_replies.specs.declared.makes.Make.{Make}

-- what a run is started with
pub record Setup : Type 0 where
  -- samples in a window
  pub window : ℕ
  -- digits behind the point
  pub scale : ℕ
  -- diagonals in a tile
  pub tile : ℕ
  pub workers : ℕ

-- what the words ask for: a session, or in its place the summary of a made series
pub record Job : Type 0 where
  pub setup : Setup
  pub make : Option Make

-- ---- options and their values

-- an option as it is given
pub record Given : Type 0 where
  pub name : List ℕ
  pub number : ℕ

-- a value: 1 to 20 digits that spell a number of 64 bits
abbrev pub word_number : List ℕ → Option ℕ
word_number value = number_of max_word_digits max_number value

abbrev pub given_of : List ℕ → List ℕ → Option Given
given_of name value = option_map (λ (n : ℕ). record { name = name; number = n }) (word_number value)

abbrev pub is_equals : ℕ → Bool
is_equals b = b == 61

abbrev pub has_equals : List ℕ → Bool
has_equals word = list_any is_equals word

-- an option with its value behind the first equals sign of its word
abbrev pub given_in : List ℕ → Option Given
given_in word = given_of (before_first is_equals word) (after_first is_equals word)

-- the options that words give, in their order, none where one of them has no value
abbrev pub given : List (List ℕ) → Option (List Given)
given [] = Some []
given (word ∷ []) = if has_equals word then onto_some (given_in word) (Some []) else None
given (word ∷ next ∷ words) =
    if has_equals word then onto_some (given_in word) (given (next ∷ words))
    else onto_some (given_of word next) (given words)

-- ---- which options there are

abbrev pub options : List (List ℕ)
options =
    codes "--window" ∷ codes "--scale" ∷ codes "--tile" ∷ codes "--workers" ∷ codes "--generate" ∷ codes "--count" ∷ []

abbrev pub is_option : List ℕ → Bool
is_option name = list_any (same_text name) options

abbrev pub is_named : List ℕ → Given → Bool
is_named name option = same_text name option.name

-- each is an option that there is, and none is given twice
abbrev pub are_options : List Given → Bool
are_options [] = true
are_options (first ∷ others) =
    is_option first.name && (not (list_any (is_named first.name) others) && are_options others)

-- the number that an option of this name is given
abbrev pub number_for : List ℕ → List Given → Option ℕ
number_for name options = option_map (λ (option : Given). option.number) (find (is_named name) options)

-- ---- what they ask for

abbrev pub is_between : ℕ → ℕ → ℕ → Bool
is_between low high n = nat_le low n && nat_le n high

-- each setting lies within its limits
abbrev pub is_within_limits : Setup → Bool
is_within_limits setup =
    is_between min_window max_window setup.window
    && (nat_le setup.scale max_scale && (is_between 1 max_tile setup.tile && is_between 1 max_workers setup.workers))

abbrev pub within_limits : Setup → Option Setup
within_limits setup = if is_within_limits setup then Some setup else None

-- a window is asked for. The others have a default
abbrev pub setup_with : Option ℕ → Option ℕ → Option ℕ → Option ℕ → Option Setup
setup_with None scale tile workers = None
setup_with (Some window) scale tile workers =
    within_limits record {
      window = window;
      scale = unwrap_or scale default_scale;
      tile = unwrap_or tile default_tile;
      workers = unwrap_or workers default_workers;
    }

-- `--generate` and `--count` are given together, or neither
abbrev pub make_with : Option ℕ → Option ℕ → Option (Option Make)
make_with None None = Some None
make_with (Some number) (Some count) =
    if nat_le count max_samples then Some (Some record { number = number; count = count }) else None
make_with number count = None

abbrev pub job_with : Setup → Option Make → Job
job_with setup make = record { setup = setup; make = make }

abbrev pub job_of : List Given → Option Job
job_of options =
    if are_options options
    then with_next (option_map job_with
    (setup_with (number_for (codes "--window") options) (number_for (codes "--scale") options)
    (number_for (codes "--tile") options) (number_for (codes "--workers") options)))
    (make_with (number_for (codes "--generate") options) (number_for (codes "--count") options))
    else None

-- none for words outside the grammar
abbrev pub job : List (List ℕ) → Option Job
job words = option_and_then job_of (given words)

-- the job of a session
abbrev pub session_job : Setup → Job
session_job setup = job_with setup None
