-- What a line asks for.
use Rattle.std.specs.Prelude.{ℕ, ◌==◌, Bool, true, false, nat_lt, List, [], ◌∷◌, length, slice_index}
use Rattle.std.specs.Prelude.{if◌then◌else◌, Result, Ok, Err}
use Rattle.mp_bytes.specs.Bytes.{number_sign, same_text}
use Rattle.mp_bytes.specs.Fields.{fields}
use Rattle.mp_bytes.specs.Lines.{max_line}
use Rattle.mp_replies.specs.declared.causes.Cause.{Cause}
use Rattle.mp_replies.specs.declared.causes.Cause.TheVariants as cause
use Rattle.mp_replies.specs.Command.{Command, End}
use Rattle.mp_replies.specs.Commands.{Form, forms}
use Rattle.mp_replies.specs.State.{first_version}

pub data Asked : Type 0 where
  -- nothing: a blank line or a comment
  Nothing : Asked
  Asks : (command : Command) → Asked
  -- it is refused, whatever the state
  Faulty : (cause : Cause) → Asked

-- ---- by the table of commands

-- by the form of a command word
abbrev pub command_in : List Form → List ℕ → List (List ℕ) → Result Command Cause
command_in [] word others = Err cause.Unknown
command_in (form ∷ more) word others =
    if same_text word form.word then form.read others else command_in more word others

-- ---- what a line asks for, by its fields

abbrev pub asks : Result Command Cause → Asked
asks (Ok command) = Asks command
asks (Err cause) = Faulty cause

abbrev pub asked_in : ℕ → List (List ℕ) → Asked
asked_in version [] = Nothing
asked_in version (word ∷ others) =
    if slice_index word 0 == number_sign then Nothing else asks (command_in (forms version) word others)

-- by the commands of a version. A line with too many bytes is refused, whatever it holds
unfoldable pub asked_of : ℕ → List ℕ → Asked
asked_of version line = if nat_lt max_line (length line) then Faulty cause.Long else asked_in version (fields line)

-- ---- the line that ends a run

abbrev pub is_end : Asked → Bool
is_end Nothing = false
is_end (Faulty cause) = false
is_end (Asks End) = true
is_end (Asks other) = false

-- whether no line behind this one is run. It is a command of each version, that no state refuses
unfoldable pub ends : List ℕ → Bool
ends line = is_end (asked_of first_version line)
