-- `session 1`, or `session 2` with `wide` or `json` or both behind: how the lines that follow are read and answered.
use Rattle.std.specs.Prelude.{ℕ, List, [], ◌∷◌, ◌==◌, Bool, true, false, not, ◌&&◌, ◌||◌, codes, if◌then◌else◌}
use Rattle.std.specs.Prelude.{Option, Some, None, Result, Ok, Err}
use Rattle.std.specs.Option.{option_zip}
use Rattle.mp_nums.specs.declared.widths.Width.{Width}
use Rattle.mp_nums.specs.declared.widths.Width.TheVariants.{Narrow, Wide}
use Rattle.mp_bytes.specs.Bytes.{same_text}
use Rattle.mp_replies.specs.declared.causes.Cause.{Cause}
use Rattle.mp_replies.specs.declared.causes.Cause.TheVariants.{Version}
use Rattle.mp_replies.specs.declared.modes.Mode.{Mode}
use Rattle.mp_replies.specs.declared.modes.ReportForm.{ReportForm}
use Rattle.mp_replies.specs.declared.modes.ReportForm.TheVariants.{Text, Json}
use Rattle.mp_replies.specs.Command.{Command, Session}
use Rattle.mp_replies.specs.Conditions.{Condition, when}
use Rattle.mp_replies.specs.Numbers.{number}
use Rattle.mp_replies.specs.State.{State, first_version, second_version}

-- ---- what its fields say

-- what stands behind the number: whether samples are wide, and whether reports are JSON lines
abbrev pub words_of : List (List ℕ) → Option (Bool × Bool)
words_of [] = Some (false, false)
words_of (word ∷ []) =
    if same_text word (codes "wide") then Some (true, false)
    else if same_text word (codes "json") then Some (false, true)
    else None
words_of (first ∷ second ∷ []) =
    if same_text first (codes "wide") && same_text second (codes "json") then Some (true, true) else None
words_of others = None

abbrev pub width_of : Bool → Width
width_of wide = if wide then Wide else Narrow

abbrev pub form_of : Bool → ReportForm
form_of json = if json then Json else Text

abbrev pub mode_of : ℕ → Bool → Bool → Mode
mode_of version wide json = record { version = version; width = width_of wide; form = form_of json }

-- the first version has neither word
abbrev pub is_named : ℕ → Bool → Bool → Bool
is_named version wide json = version == second_version || (version == first_version && not (wide || json))

abbrev pub session_with : Option (ℕ × (Bool × Bool)) → Result Command Cause
session_with None = Err Version
session_with (Some (version, (wide, json))) =
    if is_named version wide json then Ok (Session (mode_of version wide json)) else Err Version

-- what the fields behind the word ask for. No other refusal comes before its own
abbrev pub session_of : List (List ℕ) → Result Command Cause
session_of [] = Err Version
session_of (field ∷ words) = session_with (option_zip (number field) (words_of words))

-- ---- what is refused

-- it comes before all other commands
abbrev pub session_conditions : State → List Condition
session_conditions state = when state.begun Version ∷ []

-- ---- what is changed

-- the mode behind an accepted command
abbrev pub mode_behind : Mode → Command → Mode
mode_behind mode (Session named) = named
mode_behind mode other = mode
